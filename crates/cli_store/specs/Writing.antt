-- What is written where a write fails, or memory is refused.
use Rattle.std.specs.Prelude.{ℕ, List, Option}
use Rattle.whole_writes.specs.Written.{IsWrittenInPart}
use Rattle.cli_store.specs.declared.error.Fault.{Fault}
use Rattle.cli_store.specs.declared.error.Fault.TheVariants.{Memory, Output}

-- A write failed, or memory was refused.
abbrev pub IsOfWriting : Fault → Type 0
IsOfWriting Memory = Unit {0}
IsOfWriting Output = Unit {0}
IsOfWriting _ = ⊥

-- A front of the bytes was written, and then a write failed, or memory for the next bytes was
-- refused.
pub record TextWriteFails (output output_left : Option (List ℕ)) (bytes : List ℕ) (fault : Fault) : Type 0 where
  pub part : IsWrittenInPart output output_left bytes
  pub of_writing : IsOfWriting fault
