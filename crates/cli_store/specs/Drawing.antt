-- What drawing a store's layout returns and prints.
use Rattle.std.specs.Prelude.{◌≡◌, ℕ, List, [], ◌∷◌, ◌++◌, codes, Option, None, Some, IsSome, Result, Ok, Err}
use Rattle.std.specs.Fmt.{decimal}
use Rattle.std.specs.Io.KnownBytes.{Appends}
use Rattle.store_layout.specs.Layout.{Geometry}
use Rattle.store_open.specs.declared.error.OpenError.TheVariants.{Device}
use Rattle.whole_writes.specs.Written.{IsWrittenInPart}
use Rattle.cli_store.specs.declared.error.Fault.{Fault}
use Rattle.cli_store.specs.declared.error.Fault.TheVariants.{Open, Memory, Output}

-- The first line: sector 0, and the sizes in it.
abbrev pub title_line : Geometry → List ℕ
title_line geometry =
    codes "0               store         checkpoint "
    ++ (decimal geometry.checkpoint ++ (codes ", journal " ++ (decimal geometry.journal ++ (codes " sectors" ++ 0x0a ∷ []))))

-- The only line where there is no store.
abbrev pub no_store_line : List ℕ
no_store_line = codes "no store" ++ 0x0a ∷ []

-- The text begins with the first line of a store of these sizes.
pub record BeginsWithTitle (geometry : Geometry) (text : List ℕ) : Type 0 where
  pub behind : List ℕ
  pub is : text ≡ title_line geometry ++ behind

-- The text draws a store of these sizes, or says that there is none.
abbrev pub IsDrawing : Option Geometry → List ℕ → Type 0
IsDrawing None text = text ≡ no_store_line
IsDrawing (Some geometry) text = BeginsWithTitle geometry text

-- A text that draws the store was written.
pub record IsDrawn (sizes : Option Geometry) (output output_left : Option (List ℕ)) : Type 0 where
  pub text : List ℕ
  pub is : IsDrawing sizes text
  pub written : Appends output output_left text

-- A front of a text that draws the store was written.
pub record IsDrawnInPart (sizes : Option Geometry) (output output_left : Option (List ℕ)) : Type 0 where
  pub text : List ℕ
  pub is : IsDrawing sizes text
  pub written : IsWrittenInPart output output_left text

-- What drawing a store of these sizes returns and prints.
abbrev pub DrawsSo : Result (Unit {0}) Fault → Option Geometry → Option (List ℕ) → Option (List ℕ) → Type 0
DrawsSo (Ok done) sizes output output_left = IsDrawn sizes output output_left
DrawsSo (Err (Open e)) sizes output output_left = (e ≡ Device) × Appends output output_left []
DrawsSo (Err Memory) sizes output output_left = IsSome sizes × Appends output output_left []
DrawsSo (Err Output) sizes output output_left = IsDrawnInPart sizes output output_left
DrawsSo _ sizes output output_left = ⊥
