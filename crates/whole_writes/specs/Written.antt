-- What is written where a write fails.
use Rattle.std.specs.Prelude.{◌≡◌, ℕ, List, ◌++◌, Option}
use Rattle.std.specs.Io.KnownBytes.{Appends}

-- A front of the bytes was written. A writer's contents before and after are `None` where they are
-- not known.
pub record IsWrittenInPart (output output_left : Option (List ℕ)) (bytes : List ℕ) : Type 0 where
  pub front : List ℕ
  pub rest : List ℕ
  pub begins : bytes ≡ front ++ rest
  pub appended : Appends output output_left front
