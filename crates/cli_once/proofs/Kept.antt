-- A session of a service is one from the start that the service represents: for `once`,
-- `answer_in_lines`.
use Rattle.std.proofs.Common.{◌≡◌, ℕ, List, Option, Result, subst}
use Rattle.session_core.specs.declared.error.FrameError.{FrameError}
use Rattle.session_core.specs.declared.message_kinds.Kinds.TheVariants.{Base}
use Rattle.session_core.specs.Session.{IsServed}
use Rattle.session_core.specs.Lines.{IsServedInLines}
use Rattle.cli_once.specs.Memory.{Served, Answers}
use Rattle.cli_once.specs.Session.{IsSession}
use Rattle.cli_once.specs.HexSession.{AreAnsweredInLines}

pub session_by : {R : Type 0} (gives : R → List ℕ → R → Type 0) (turns : ℕ) (start old new : Served) (source source_left : R) (input_ended : Type 0) (output output_left : Option (List ℕ)) (result : Result ℕ FrameError)
    → old ≡ start → IsServed Base Answers gives turns old new source source_left input_ended output output_left result → IsSession gives turns start source source_left input_ended output output_left result
session_by gives turns start old new source source_left input_ended output output_left result is served = record {
  left = new;
  served = subst (λ (first : Served). IsServed Base Answers gives turns first new source source_left input_ended output output_left result) is served;
}

pub lines_by : (bytes : List ℕ) (start old new : Served) (output output_left : Option (List ℕ)) (result : Result ℕ FrameError)
    → old ≡ start → IsServedInLines Base Answers bytes old new output output_left result → AreAnsweredInLines start bytes output output_left result
lines_by bytes start old new output output_left result is served = record {
  left = new;
  served = subst (λ (first : Served). IsServedInLines Base Answers bytes first new output output_left result) is served;
}
