-- What making a store returns and prints.
use Rattle.std.specs.Prelude.{◌≡◌, ℕ, List, [], Option, Result, Ok, Err}
use Rattle.std.specs.Io.KnownBytes.{Appends}
use Rattle.sector_dev.specs.Disk.{Disk}
use Rattle.store_layout.specs.Layout.{Geometry, image_sectors}
use Rattle.store_open.specs.NewStore.{Formats}
use Rattle.cli_store.specs.Text.{formatted_line}
use Rattle.whole_writes.specs.Written.{IsWrittenInPart}
use Rattle.cli_store.specs.declared.error.Fault.{Fault}
use Rattle.cli_store.specs.declared.error.Fault.TheVariants.{Format, Memory, Output}

-- The store is made and its size is printed. Where no store is made, for a reason or because memory
-- was refused before anything was done, nothing is printed. Where a write of the text failed, the
-- store is made.
abbrev pub FormatsAndPrints : Geometry → Result (Unit {0}) Fault → Disk → Disk → Option (List ℕ) → Option (List ℕ) → Type 0
FormatsAndPrints geometry (Ok done) old new output output_left =
    Formats geometry (Ok done) old new × Appends output output_left (formatted_line (image_sectors geometry))
FormatsAndPrints geometry (Err (Format e)) old new output output_left = Formats geometry (Err e) old new × Appends output output_left []
FormatsAndPrints geometry (Err Memory) old new output output_left = (new ≡ old) × Appends output output_left []
FormatsAndPrints geometry (Err Output) old new output output_left =
    Formats geometry (Ok tt) old new × IsWrittenInPart output output_left (formatted_line (image_sectors geometry))
FormatsAndPrints geometry _ old new output output_left = ⊥
