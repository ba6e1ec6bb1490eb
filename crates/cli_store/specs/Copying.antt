-- What copying a store returns and prints, and what a stop leaves of the copy.
use Rattle.std.specs.Prelude.{◌≡◌, ◌⊎◌, ℕ, List, [], length, Option, Err}
use Rattle.std.specs.Io.KnownBytes.{Appends}
use Rattle.row_map.specs.Database.{RowView}
use Rattle.sector_dev.specs.Disk.{Disk, IsHonest, reads_of}
use Rattle.sector_dev.specs.Image.{EveryImage, IsFromImage}
use Rattle.store_layout.specs.Layout.{Geometry}
use Rattle.store_open.specs.Behind.{SameBehind}
use Rattle.store_open.specs.PathStores.{IsStoreOf}
use Rattle.store_open.specs.Copying.{IsBlank, OpensToNothing, HoldsStoreWith, FormatsWith}
use Rattle.store_open.specs.declared.copying.CopyError.{CopyError}
use Rattle.whole_writes.specs.Written.{IsWrittenInPart}
use Rattle.cli_store.specs.Text.{copied_line}
use Rattle.cli_store.specs.Devices.{IsNotOpened}
use Rattle.cli_store.specs.declared.error.Fault.{Fault}
use Rattle.cli_store.specs.declared.error.Fault.TheVariants.{Copy, Open, Memory, Output}

-- A device has a store of these sizes with the rows and the place that another device opens to, and
-- what was printed of it.
pub record IsCopied (geometry : Geometry) (from to : Disk) (Prints : List ℕ → Type 0) : Type 0 where
  pub rows : List RowView
  pub place : ℕ
  -- Reads of the other device open to these rows at this place.
  pub opens : IsHonest from → IsStoreOf rows place (reads_of from)
  -- The store has them.
  pub copied : IsHonest to → HoldsStoreWith geometry rows place to
  pub printed : Prints (copied_line (length rows) place)

-- Reads of a device open to rows at a place, of which no store was made on another one, for this
-- reason.
pub record IsNotCopied (e : CopyError) (geometry : Geometry) (from old new : Disk) : Type 0 where
  pub rows : List RowView
  pub place : ℕ
  pub opens : IsHonest from → IsStoreOf rows place (reads_of from)
  pub refused : FormatsWith geometry rows place (Err e) old new

-- Why no copy is made: the store is not opened, its rows do not become a store, or memory was
-- refused before anything was done; then nothing is printed. Where a write of the text failed, the
-- copy is made.
abbrev pub FailsToCopy : Fault → Geometry → Disk → Disk → Disk → Option (List ℕ) → Option (List ℕ) → Type 0
FailsToCopy (Copy e) geometry from old new output output_left = IsNotCopied e geometry from old new × Appends output output_left []
FailsToCopy (Open e) geometry from old new output output_left = IsNotOpened e from output output_left × (new ≡ old)
FailsToCopy Memory geometry from old new output output_left = (new ≡ old) × Appends output output_left []
FailsToCopy Output geometry from old new output output_left = IsCopied geometry from new (IsWrittenInPart output output_left)
FailsToCopy _ geometry from old new output output_left = ⊥

-- An image opens to rows at a place to which another one opens, too.
pub record OpensToTheSame (one other : List ℕ) : Type 0 where
  pub rows : List RowView
  pub place : ℕ
  pub first : IsStoreOf rows place one
  pub second : IsStoreOf rows place other

-- While a store is copied to a device that was so at the start.
pub record IsBeingCopied (geometry : Geometry) (from start : Disk) (content : List ℕ) : Type 0 where
  -- The bytes after the store are those of an image of the start.
  pub behind : IsFromImage start.history.now (SameBehind geometry) content
  -- Where the device had zeros alone, the content does not open, or opens to the rows and the place
  -- to which reads of the other device open.
  pub either : EveryImage start.history.now IsBlank → IsHonest from → OpensToNothing content ⊎ OpensToTheSame (reads_of from) content
