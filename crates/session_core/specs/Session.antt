-- What a session over any service has read, answered and written when it ends.
use Rattle.std.specs.Prelude.{◌≡◌, ℕ, ◌-◌, ◌^◌, ◌<◌, ◌≤◌, min, List, [], ◌++◌, length, Option, Result, Ok, Err, IsSome}
use Rattle.std.specs.List.{AllByRecursion, concat}
use Rattle.std.specs.Io.KnownBytes.{Appends}
use Rattle.session_core.specs.declared.error.FrameError.{FrameError}
use Rattle.session_core.specs.declared.error.FrameError.TheVariants as error
use Rattle.session_core.specs.declared.message_kinds.Kinds.{Kinds}
use Rattle.session_core.specs.declared.ahead.TheConstants.{MOST_AHEAD}
use Rattle.session_core.specs.Commands.{command_kind}
use Rattle.session_core.specs.Frames.{MessageView, IsPartial, HasBadLength, HasBadKind, Rest, AreWholeFrames, AreFrames}
use Rattle.session_core.specs.Reply.{ReplyView, HasReplySize}
use Rattle.session_core.specs.Service.{Exchange, messages_of, replies_of, all_told, reply_frames, AreAnswered}
use Rattle.session_core.specs.declared.reply.Form.{Form}
use Rattle.session_core.specs.declared.reply.Form.TheVariants.{Frames}
use Rattle.session_core.specs.Source.{AreReads}

-- ---- what was written

-- The front is the beginning of these bytes.
abbrev pub IsBeginningOf : List ℕ → List ℕ → Type 0
IsBeginningOf front bytes = (rest : List ℕ) × (bytes ≡ front ++ rest)

-- The replies to all messages were written, or to all but the last one.
pub record TellsAllBefore (form : Form) (written : List ℕ) (exchanges : List Exchange) : Type 0 where
  -- The exchanges whose replies were written.
  pub before : List Exchange
  -- The last exchange, or none.
  pub last : List Exchange
  -- Both together are the exchanges.
  pub parts : exchanges ≡ before ++ last
  -- At most one exchange is left out.
  pub one : length last ≤ 1
  -- The replies of the others were written.
  pub written_is : written ≡ all_told form before

-- The replies to all messages but the last one were written, and a front of the last one's reply,
-- which may be all of it.
pub record TellsFrontOfLast (form : Form) (written : List ℕ) (exchanges : List Exchange) : Type 0 where
  -- The exchanges whose replies were written whole.
  pub before : List Exchange
  -- The last exchange, or none.
  pub last : List Exchange
  -- Both together are the exchanges.
  pub parts : exchanges ≡ before ++ last
  -- At most one exchange is the last.
  pub one : length last ≤ 1
  -- The front of the last reply that was written.
  pub front : List ℕ
  -- The front is the beginning of the last reply.
  pub begins : IsBeginningOf front (all_told form last)
  -- The replies of the others and the front were written.
  pub written_is : written ≡ all_told form before ++ front

-- The written bytes are those of the replies to the messages that were answered. All replies were
-- written, except that after a failed write the last one may be missing or cut, and where memory
-- was refused the last one may be missing.
abbrev pub WritesReplies : Form → Result ℕ FrameError → List ℕ → List Exchange → Type 0
WritesReplies form (Err error.NoMemory) written exchanges = TellsAllBefore form written exchanges
WritesReplies form (Err error.Write) written exchanges = TellsFrontOfLast form written exchanges
WritesReplies form _ written exchanges = written ≡ all_told form exchanges

-- All whole frames of the pieces before the last one were answered, those pieces have no fault, and
-- the replies to their messages were written.
pub record IsPrompt (kinds : Kinds) (pieces : List (List ℕ)) (exchanges : List Exchange) (written : List ℕ) : Type 0 where
  -- The pieces before the last one.
  pub earlier : List (List ℕ)
  -- The last piece, or none.
  pub last : List (List ℕ)
  -- Both together are the pieces.
  pub pieces_are : pieces ≡ earlier ++ last
  -- At most one piece is the last.
  pub one : length last ≤ 1
  -- The exchanges whose messages are in the earlier pieces.
  pub told : List Exchange
  -- The exchanges after those.
  pub others : List Exchange
  -- Both together are the exchanges.
  pub exchanges_are : exchanges ≡ told ++ others
  -- The bytes after the whole frames of the earlier pieces.
  pub rest : List ℕ
  -- The earlier pieces are the frames of those messages, and a rest without a fault.
  pub framed : AreFrames kinds (concat earlier) (messages_of told) (Rest rest)
  -- The replies to those messages were written.
  pub kept : IsBeginningOf (reply_frames told) written

-- ---- what was handed in

-- These are commands at the front of the bytes, fewer than `MOST_AHEAD` of them.
pub record AreAhead (kinds : Kinds) (messages : List MessageView) (bytes : List ℕ) : Type 0 where
  -- Each is a command.
  pub commands : AllByRecursion (λ message. IsSome (command_kind message)) messages
  -- At least one of those that were handed in with them was answered.
  pub few : length messages < MOST_AHEAD
  -- The bytes after their frames.
  pub behind : List ℕ
  -- The bytes are their frames, and those bytes.
  pub framed : AreWholeFrames kinds bytes messages behind

-- The messages that are handed in and not answered when a session ends, where these bytes are not
-- answered: none, unless a write failed or memory was refused.
abbrev pub LeavesAhead : Kinds → Result ℕ FrameError → List MessageView → List ℕ → Type 0
LeavesAhead kinds (Err error.NoMemory) messages rest = AreAhead kinds messages rest
LeavesAhead kinds (Err error.Write) messages rest = AreAhead kinds messages rest
LeavesAhead kinds _ messages rest = messages ≡ []

-- ---- why a session ends

-- The reader is at its end, nothing is left over, and the count is that of the replies, at most
-- 2^64 - 1.
pub record EndsWell (input_ended : Type 0) (exchanges : List Exchange) (rest : List ℕ) (count : ℕ) : Type 0 where
  pub at_end : input_ended
  pub whole : rest ≡ []
  pub counted : count ≡ min (length exchanges) (2 ^ 64 - 1)

-- A session ends early for this error: the frame at the front of the rest has a fault, a write
-- failed or memory was refused, or the input or the reads ended under these conditions.
abbrev pub SessionEndsEarly : Kinds → Type 0 → Type 0 → List ℕ → FrameError → Type 0
SessionEndsEarly kinds cut out_of_turns rest error.NoMemory = Unit {0}
SessionEndsEarly kinds cut out_of_turns rest error.Length = HasBadLength kinds rest
SessionEndsEarly kinds cut out_of_turns rest error.Kind = HasBadKind kinds rest
SessionEndsEarly kinds cut out_of_turns rest error.Read = cut
SessionEndsEarly kinds cut out_of_turns rest error.Write = Unit {0}
SessionEndsEarly kinds cut out_of_turns rest error.Turns = out_of_turns

-- The session ends at the end of the input, or early: at a failed read, within a frame, or when the
-- allowed reads are made.
abbrev pub EndsFor : Kinds → Type 0 → ℕ → List (List ℕ) → List Exchange → List ℕ → Result ℕ FrameError → Type 0
EndsFor kinds input_ended turns pieces exchanges rest (Ok count) = EndsWell input_ended exchanges rest count
EndsFor kinds input_ended turns pieces exchanges rest (Err e) = SessionEndsEarly kinds (IsPartial kinds rest) (IsPartial kinds rest × (length pieces ≡ turns)) rest e

-- ---- what is held back

-- After a session that ends so, nothing that was written is held back, where a write failed
-- excepted.
abbrev pub IsSentFor : Type 0 → Result ℕ FrameError → Type 0
IsSentFor sent (Err error.Write) = Unit {0}
IsSentFor sent _ = sent

-- ---- a session

-- A session was served.
pub record IsServed {S R : Type 0} (kinds : Kinds) (answers : S → MessageView → ReplyView → S → Type 0) (gives : R → List ℕ → R → Type 0) (turns : ℕ)
    (service service_left : S) (source source_left : R) (input_ended : Type 0) (output output_left : Option (List ℕ)) (result : Result ℕ FrameError) : Type 0 where
  -- The pieces that at most `turns` reads gave.
  pub pieces : List (List ℕ)
  -- The messages that were answered, with their replies.
  pub exchanges : List Exchange
  -- The bytes after the frames of those messages.
  pub rest : List ℕ
  -- The messages that were handed in and not answered.
  pub handed : List MessageView
  -- The bytes that were written.
  pub written : List ℕ
  -- The source was read for the pieces.
  pub read : AreReads gives turns source pieces source_left
  -- The pieces, joined, are the frames of the messages, and the rest.
  pub framed : AreWholeFrames kinds (concat pieces) (messages_of exchanges) rest
  -- The service answered the messages in order, from its first state to its last.
  pub answered : AreAnswered answers service exchanges service_left
  -- The messages that were handed in and not answered are the next ones.
  pub ahead : LeavesAhead kinds result handed rest
  -- Each reply fits into a frame.
  pub sized : AllByRecursion HasReplySize (replies_of exchanges)
  -- The output has the written bytes.
  pub appended : Appends output output_left written
  -- The written bytes are the frames of the replies.
  pub told : WritesReplies Frames result written exchanges
  -- The messages of earlier pieces were answered before the last piece was read.
  pub prompt : IsPrompt kinds pieces exchanges written
  -- How the session ended.
  pub ended : EndsFor kinds input_ended turns pieces exchanges rest result
