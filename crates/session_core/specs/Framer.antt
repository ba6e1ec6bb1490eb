-- A stream of frames that arrives in pieces.
use Rattle.std.specs.Prelude.{ℕ, List, ◌++◌, map, Option, Some, None, Vec}
use Rattle.session_core.specs.declared.error.FrameError.{FrameError}
use Rattle.session_core.specs.declared.error.FrameError.TheVariants as error
use Rattle.session_core.specs.declared.message.Message.{Message}
use Rattle.session_core.specs.declared.message.Message.TheVariants.{Register, Lookup, Purge, Remove}
use Rattle.session_core.specs.declared.message.Message.TheVariants as message
use Rattle.session_core.specs.declared.message_kinds.Kinds.{Kinds}
use Rattle.session_core.specs.Frames.{MessageView, IsPartial, Ending, Rest, BadLength, BadKind, AreFrames}
use Rattle.session_core.specs.Front.{IsFaultAt}

-- A message with the bytes of its body, however the body is kept.
abbrev pub message_view : {A : Type 0} → Message (Vec ℕ A) → MessageView
message_view (Register body) = Register body.items
message_view (Lookup body) = Lookup body.items
message_view (Purge moment) = Purge moment
message_view (Remove kind id) = Remove kind id
message_view (message.List request) = message.List request

-- The messages of a list with the bytes of their bodies.
abbrev pub message_views : {A : Type 0} → List (Message (Vec ℕ A)) → List MessageView
message_views messages = map message_view messages

-- The error of a fault.
abbrev pub ending_error : Ending → Option FrameError
ending_error (Rest bytes) = None
ending_error BadLength = Some error.Length
ending_error BadKind = Some error.Kind

-- The ending is a fault.
abbrev pub IsFaulty : Ending → Type 0
IsFaulty (Rest bytes) = ⊥
IsFaulty BadLength = Unit {0}
IsFaulty BadKind = Unit {0}

-- A stream with the old ending has these further messages with the piece, and then the new ending.
abbrev pub Continues : Kinds → Ending → List ℕ → List MessageView → Ending → Type 0
Continues kinds old piece messages new =
    (stream : List ℕ) (before : List MessageView) → AreFrames kinds stream before old → AreFrames kinds (stream ++ piece) (before ++ messages) new

-- What contracts see of a `Framer`: the kinds of its stream, and how the stream ends.
pub record FramerView : Type 0 where
  pub kinds : Kinds
  pub ending : Ending

-- ---- the fields of a `Framer`

-- The fault, if any, of the bytes after the last whole frame.
abbrev pub IsFaultOf : Kinds → List ℕ → Option FrameError → Type 0
IsFaultOf kinds bytes None = IsPartial kinds bytes
IsFaultOf kinds bytes (Some e) = IsFaultAt kinds bytes e

-- The ending of a stream with these bytes after its last whole frame, and with this fault.
abbrev pub ending_of : List ℕ → Option FrameError → Ending
ending_of bytes (Some error.Length) = BadLength
ending_of bytes (Some error.Kind) = BadKind
ending_of bytes _ = Rest bytes
