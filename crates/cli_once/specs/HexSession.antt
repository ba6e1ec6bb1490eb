-- A session whose input is hexadecimal text, and whose replies are lines of it.
use Rattle.std.specs.Prelude.{◌≡◌, ℕ, ◌⊎◌, List, [], length, Option, Result, Ok, Err}
use Rattle.std.specs.List.{concat}
use Rattle.std.specs.Io.KnownBytes.{Appends}
use Rattle.hex.specs.Hex.{decode_of}
use Rattle.session_core.specs.declared.error.FrameError.{FrameError}
use Rattle.session_core.specs.declared.error.FrameError.TheVariants as error
use Rattle.session_core.specs.declared.message_kinds.Kinds.TheVariants.{Base}
use Rattle.session_core.specs.Source.{AreReads}
use Rattle.session_core.specs.Lines.{IsServedInLines}
use Rattle.cli_once.specs.declared.error.SessionFault.{SessionFault}
use Rattle.cli_once.specs.Fault.{frame_fault}
use Rattle.cli_once.specs.HexInput.{without_blanks, RefusesHex}
use Rattle.cli_once.specs.Memory.{Served, Answers}

-- Why reading stops before the end of the input.
abbrev pub InputEndsEarly : ℕ → List (List ℕ) → FrameError → Type 0
InputEndsEarly turns pieces error.NoMemory = Unit {0}
InputEndsEarly turns pieces error.Read = Unit {0}
InputEndsEarly turns pieces error.Turns = length pieces ≡ turns
InputEndsEarly turns pieces _ = ⊥

-- The input was not read whole, and nothing was written.
pub record IsUnread (turns : ℕ) (pieces : List (List ℕ)) (output output_left : Option (List ℕ)) (result : Result ℕ SessionFault) : Type 0 where
  -- The error of the reads.
  pub error : FrameError
  -- The reads ended early for that error.
  pub ends : InputEndsEarly turns pieces error
  -- Nothing was written.
  pub kept : Appends output output_left []
  -- The result is the program's fault for the error.
  pub said : result ≡ Err (frame_fault error)

-- The input is refused as a text, and nothing was written.
pub record IsNoText (text : List ℕ) (output output_left : Option (List ℕ)) (result : Result ℕ SessionFault) : Type 0 where
  -- Nothing was written.
  pub kept : Appends output output_left []
  -- The fault of the text.
  pub refusal : SessionFault
  -- The text is refused for that fault.
  pub refused : RefusesHex text refusal
  -- The result is that fault.
  pub said : result ≡ Err refusal

-- The program's result for a session's result.
abbrev pub answer_for : Result ℕ FrameError → Result ℕ SessionFault
answer_for (Ok count) = Ok count
answer_for (Err e) = Err (frame_fault e)

-- The messages of these bytes, none of which is a list, were answered in lines, from this start on.
pub record AreAnsweredInLines (start : Served) (bytes : List ℕ) (output output_left : Option (List ℕ)) (outcome : Result ℕ FrameError) : Type 0 where
  pub left : Served
  pub served : IsServedInLines Base Answers bytes start left output output_left outcome

-- The input is a text that encodes bytes, whose messages were answered in lines.
pub record IsAnsweredText (start : Served) (text : List ℕ) (output output_left : Option (List ℕ)) (result : Result ℕ SessionFault) : Type 0 where
  -- The bytes that the text encodes.
  pub bytes : List ℕ
  -- The text encodes those bytes.
  pub encoded : decode_of (without_blanks text) ≡ Ok bytes
  -- The result of the session.
  pub outcome : Result ℕ FrameError
  -- The messages of those bytes were answered in lines.
  pub answered : AreAnsweredInLines start bytes output output_left outcome
  -- The result is the program's for the session's.
  pub said : result ≡ answer_for outcome

-- The input was read to its end, and checked as a text before anything was answered.
pub record IsReadText (start : Served) (text : List ℕ) (input_ended : Type 0) (output output_left : Option (List ℕ)) (result : Result ℕ SessionFault) : Type 0 where
  pub end : input_ended
  pub ended : IsNoText text output output_left result ⊎ IsAnsweredText start text output output_left result

-- A session over hexadecimal text.
pub record IsHexSession {R : Type 0} (gives : R → List ℕ → R → Type 0) (turns : ℕ) (start : Served) (source source_left : R)
    (input_ended : Type 0) (output output_left : Option (List ℕ)) (result : Result ℕ SessionFault) : Type 0 where
  -- The pieces of the input that at most `turns` reads gave.
  pub pieces : List (List ℕ)
  -- The source was read for those pieces.
  pub read : AreReads gives turns source pieces source_left
  -- The input was not read whole, or was read and served.
  pub ended : IsUnread turns pieces output output_left result ⊎ IsReadText start (concat pieces) input_ended output output_left result
