-- A session of a service in memory.
use Rattle.std.specs.Prelude.{ℕ, List, Option, Result}
use Rattle.session_core.specs.declared.error.FrameError.{FrameError}
use Rattle.session_core.specs.declared.message_kinds.Kinds.TheVariants.{Base}
use Rattle.session_core.specs.Session.{IsServed}
use Rattle.cli_once.specs.Memory.{Served, Answers}

-- A session without lists was served, from this start on.
pub record IsSession {R : Type 0} (gives : R → List ℕ → R → Type 0) (turns : ℕ) (start : Served) (source source_left : R)
    (input_ended : Type 0) (output output_left : Option (List ℕ)) (result : Result ℕ FrameError) : Type 0 where
  pub left : Served
  pub served : IsServed Base Answers gives turns start left source source_left input_ended output output_left result
