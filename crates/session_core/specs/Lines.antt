-- A session over bytes in memory, whose replies are written as lines of hexadecimal digits.
use Rattle.std.specs.Prelude.{◌≡◌, ℕ, ◌-◌, ◌^◌, min, List, [], length, Option, Result, Ok, Err}
use Rattle.std.specs.List.{AllByRecursion}
use Rattle.std.specs.Io.KnownBytes.{Appends}
use Rattle.session_core.specs.declared.error.FrameError.{FrameError}
use Rattle.session_core.specs.declared.message_kinds.Kinds.{Kinds}
use Rattle.session_core.specs.declared.reply.Form.TheVariants.{Lines}
use Rattle.session_core.specs.Frames.{MessageView, IsPartial, AreWholeFrames}
use Rattle.session_core.specs.Reply.{ReplyView, HasReplySize}
use Rattle.session_core.specs.Service.{Exchange, messages_of, replies_of, AreAnswered}
use Rattle.session_core.specs.Session.{WritesReplies, LeavesAhead, SessionEndsEarly}

-- Nothing is left over, and the count is that of the replies, at most 2^64 - 1.
pub record IsWholeCount (exchanges : List Exchange) (rest : List ℕ) (count : ℕ) : Type 0 where
  pub whole : rest ≡ []
  pub counted : count ≡ min (length exchanges) (2 ^ 64 - 1)

-- The session ends at the end of the bytes, or early, within a frame.
abbrev pub EndsInLines : Kinds → List Exchange → List ℕ → Result ℕ FrameError → Type 0
EndsInLines kinds exchanges rest (Ok count) = IsWholeCount exchanges rest count
EndsInLines kinds exchanges rest (Err e) = SessionEndsEarly kinds (IsPartial kinds rest) ⊥ rest e

-- A session over bytes in memory was served.
pub record IsServedInLines {S : Type 0} (kinds : Kinds) (answers : S → MessageView → ReplyView → S → Type 0) (bytes : List ℕ) (service service_left : S)
    (output output_left : Option (List ℕ)) (result : Result ℕ FrameError) : Type 0 where
  -- The messages that were answered, with their replies.
  pub exchanges : List Exchange
  -- The bytes after the frames of those messages.
  pub rest : List ℕ
  -- The messages that were handed in and not answered.
  pub handed : List MessageView
  -- The bytes that were written.
  pub written : List ℕ
  -- The bytes are the frames of the messages, and the rest.
  pub framed : AreWholeFrames kinds bytes (messages_of exchanges) rest
  -- The service answered the messages in order.
  pub answered : AreAnswered answers service exchanges service_left
  -- The messages that were handed in and not answered are the next ones.
  pub ahead : LeavesAhead kinds result handed rest
  -- Each reply fits into a frame.
  pub sized : AllByRecursion HasReplySize (replies_of exchanges)
  -- The output has the written bytes.
  pub appended : Appends output output_left written
  -- The written bytes are the lines of the replies.
  pub told : WritesReplies Lines result written exchanges
  -- How the session ended.
  pub ended : EndsInLines kinds exchanges rest result
