-- The effect of answering the whole frames of some bytes.
use Rattle.std.specs.Prelude.{◌≡◌, ℕ, ◌+◌, ◌-◌, ◌^◌, ◌<◌, min, List, [], ◌++◌, length, Option, Some, None, Result, Ok, Err}
use Rattle.std.specs.List.{AllByRecursion}
use Rattle.std.specs.Io.KnownBytes.{Appends}
use Rattle.whole_writes.specs.Written.{IsWrittenInPart}
use Rattle.session_core.specs.declared.ahead.TheConstants.{MOST_AHEAD}
use Rattle.session_core.specs.declared.error.FrameError.{FrameError}
use Rattle.session_core.specs.declared.error.FrameError.TheVariants as error
use Rattle.session_core.specs.declared.message_kinds.Kinds.{Kinds}
use Rattle.session_core.specs.declared.reply.Reply.{Reply}
use Rattle.session_core.specs.declared.service.Ack.{Ack}
use Rattle.session_core.specs.Frames.{MessageView, message_frame, FitsFrame, IsPartial, AreWholeFrames}
use Rattle.session_core.specs.Front.{IsFaultAt}
use Rattle.session_core.specs.Reply.{ReplyView, HasReplySize}
use Rattle.session_core.specs.ReplyViews.{reply_view}
use Rattle.session_core.specs.Service.{Exchange, messages_of, replies_of, AreAnswered}
use Rattle.session_core.specs.declared.reply.Form.{Form}
use Rattle.session_core.specs.Session.{WritesReplies, LeavesAhead, SessionEndsEarly}

-- The message at the front was answered, and its frame was removed.
pub record IsFirstAnswered {S : Type 0} (kinds : Kinds) (answers : S → MessageView → ReplyView → S → Type 0) (old : S) (bytes : List ℕ) (reply : ReplyView) (new : S) (rest : List ℕ) : Type 0 where
  -- The message.
  pub message : MessageView
  -- The bytes begin with its frame, and the rest follows.
  pub framed : bytes ≡ message_frame message ++ rest
  -- The message fits a frame.
  pub fits : FitsFrame kinds message
  -- The service answered the message with the reply.
  pub answered : answers old message reply new
  -- The reply fits into a frame.
  pub sized : HasReplySize reply

-- Nothing was answered, and nothing was removed.
pub record IsUnanswered {S : Type 0} (old : S) (bytes : List ℕ) (new : S) (rest : List ℕ) : Type 0 where
  pub same : new ≡ old
  pub left : rest ≡ bytes

-- The first message was answered. Otherwise the bytes begin with less than a frame, or with a
-- faulty one, and nothing changed.
abbrev pub IsNextReply : {S A : Type 0} → (A → Ack) → Kinds → (S → MessageView → ReplyView → S → Type 0) → S → List ℕ → S → List ℕ → Result (Option (Reply A)) FrameError → Type 0
IsNextReply says kinds answers old bytes new rest (Ok (Some reply)) = IsFirstAnswered kinds answers old bytes (reply_view says reply) new rest
IsNextReply says kinds answers old bytes new rest (Ok None) = IsPartial kinds bytes × IsUnanswered old bytes new rest
IsNextReply says kinds answers old bytes new rest (Err e) = IsFaultAt kinds bytes e × IsUnanswered old bytes new rest

-- After a reply, fewer than `MOST_AHEAD` commands are under way. Otherwise none is.
abbrev pub LeavesFewAhead : {R U : Type 0} → Result (Option R) FrameError → List U → Type 0
LeavesFewAhead (Ok (Some reply)) ahead = length ahead < MOST_AHEAD
LeavesFewAhead (Ok None) ahead = ahead ≡ []
LeavesFewAhead (Err e) ahead = ahead ≡ []

-- Less than a frame is left over.
pub record LeavesPartialFrame (kinds : Kinds) (count : ℕ) (exchanges : List Exchange) (rest left : List ℕ) (sum : ℕ) : Type 0 where
  pub partial : IsPartial kinds rest
  pub left_is : left ≡ rest
  pub counted : sum ≡ min (count + length exchanges) (2 ^ 64 - 1)

-- Why no more messages were answered: less than a frame is left, or a faulty one, or a write
-- failed, or memory was refused.
abbrev pub StopsFor : Kinds → ℕ → List Exchange → List ℕ → List ℕ → Result ℕ FrameError → Type 0
StopsFor kinds count exchanges rest left (Ok sum) = LeavesPartialFrame kinds count exchanges rest left sum
StopsFor kinds count exchanges rest left (Err e) = SessionEndsEarly kinds ⊥ ⊥ rest e

-- Messages at the front of the bytes were answered, and their replies were written.
pub record AreFrontsAnswered {S : Type 0} (kinds : Kinds) (form : Form) (answers : S → MessageView → ReplyView → S → Type 0) (old : S) (bytes : List ℕ) (new : S) (left : List ℕ)
    (output output_left : Option (List ℕ)) (count : ℕ) (result : Result ℕ FrameError) : Type 0 where
  -- The messages that were answered, with their replies.
  pub exchanges : List Exchange
  -- The bytes after the frames of those messages, which are what is left, unless there is an error.
  pub rest : List ℕ
  -- The messages that were handed in and not answered.
  pub handed : List MessageView
  -- The bytes that were written.
  pub written : List ℕ
  -- The bytes are the frames of the messages, and the rest.
  pub framed : AreWholeFrames kinds bytes (messages_of exchanges) rest
  -- The service answered the messages in order.
  pub answered : AreAnswered answers old exchanges new
  -- The messages that were handed in and not answered are the next ones.
  pub ahead : LeavesAhead kinds result handed rest
  -- Each reply fits into a frame.
  pub sized : AllByRecursion HasReplySize (replies_of exchanges)
  -- The output has the written bytes.
  pub appended : Appends output output_left written
  -- The written bytes are those of the replies.
  pub told : WritesReplies form result written exchanges
  -- The reason why no more messages were answered.
  pub stops : StopsFor kinds count exchanges rest left result

-- A write failed after a front of the bytes.
pub record ReplyWriteFails (output output_left : Option (List ℕ)) (bytes : List ℕ) (e : FrameError) : Type 0 where
  pub part : IsWrittenInPart output output_left bytes
  pub fault : e ≡ error.Write

-- A write failed after a front of the bytes, or nothing was written, because memory was refused.
abbrev pub FailsToWrite : Option (List ℕ) → Option (List ℕ) → List ℕ → FrameError → Type 0
FailsToWrite output output_left bytes error.Write = IsWrittenInPart output output_left bytes
FailsToWrite output output_left bytes error.NoMemory = Appends output output_left []
FailsToWrite output output_left bytes _ = ⊥
