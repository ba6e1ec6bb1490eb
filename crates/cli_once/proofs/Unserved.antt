-- A session for which there is no memory from the start: nothing is read, answered or written. For
-- once and answer_in_lines.
use Rattle.std.proofs.Common.{ℕ, List, Option, Err, refl}
use Rattle.session_core.specs.declared.error.FrameError.TheVariants as error
use Rattle.session_core.proofs.AtOnce.{ends_at_once, ends_in_lines_at_once}
use Rattle.cli_once.specs.Memory.{Served, Answers}
use Rattle.cli_once.specs.Session.{IsSession}
use Rattle.cli_once.specs.HexSession.{AreAnsweredInLines}

pub unserved : {R : Type 0} (gives : R → List ℕ → R → Type 0) (turns : ℕ) (start : Served) (source : R) (input_ended : Type 0) (output : Option (List ℕ))
    → IsSession gives turns start source source input_ended output output (Err error.NoMemory)
unserved gives turns start source input_ended output = record { left = start; served = ends_at_once Answers gives turns start source input_ended output error.NoMemory refl }

pub unanswered : (start : Served) (bytes : List ℕ) (output : Option (List ℕ)) → AreAnsweredInLines start bytes output output (Err error.NoMemory)
unanswered start bytes output = record { left = start; served = ends_in_lines_at_once Answers bytes start output error.NoMemory refl }
