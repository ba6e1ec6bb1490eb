-- The front of a stream of frames.
use Rattle.std.specs.Prelude.{◌≡◌, ℕ, ◌+◌, List, ◌++◌, length, drop, Option, Some, None, Result, Ok, Err}
use Rattle.std.specs.Borrow.{Bor}
use Rattle.session_core.specs.declared.error.FrameError.{FrameError}
use Rattle.session_core.specs.declared.error.FrameError.TheVariants as error
use Rattle.session_core.specs.declared.message.Message.{Message}
use Rattle.session_core.specs.declared.message.Message.TheVariants.{Register, Lookup, Purge, Remove}
use Rattle.session_core.specs.declared.message.Message.TheVariants as message
use Rattle.session_core.specs.declared.message_kinds.Kinds.{Kinds}
use Rattle.session_core.specs.Frames.{MessageView, message_body, message_frame, FitsFrame, IsPartial, HasBadLength, HasBadKind}

-- A message with the bytes of its body, wherever the body is in memory.
abbrev pub message_at : Message (Bor (List ℕ)) → MessageView
message_at (Register body) = Register body.now
message_at (Lookup body) = Lookup body.now
message_at (Purge moment) = Purge moment
message_at (Remove kind id) = Remove kind id
message_at (message.List request) = message.List request

module _ (kinds : Kinds) where
  -- The bytes begin with the frame of a message, which has `len` bytes.
  pub record BeginsWithFrame (bytes : List ℕ) (message : MessageView) (len : ℕ) : Type 0 where
    pub frame : bytes ≡ message_frame message ++ drop len bytes
    pub sized : FitsFrame kinds message
    pub len_is : len ≡ 5 + length (message_body message)

  -- The frame at the front has this fault.
  abbrev pub IsFaultAt : List ℕ → FrameError → Type 0
  IsFaultAt bytes error.Length = HasBadLength kinds bytes
  IsFaultAt bytes error.Kind = HasBadKind kinds bytes
  IsFaultAt bytes _ = ⊥

  -- The result of reading the front: a whole frame with its message, less than a frame, or the
  -- fault of the frame.
  abbrev pub IsFrontReading : List ℕ → Result (Option (Message (Bor (List ℕ)) × ℕ)) FrameError → Type 0
  IsFrontReading bytes (Ok None) = IsPartial kinds bytes
  IsFrontReading bytes (Ok (Some next)) = BeginsWithFrame bytes (message_at next.0) next.1
  IsFrontReading bytes (Err e) = IsFaultAt bytes e
