-- A checkpoint that is made while it is written.
use Rattle.std.specs.Prelude.{◌≡◌, ℕ, ◌+◌, ◌*◌, ◌≤◌, ◌⊎◌, List, [], ◌∷◌, length, take, drop, Option, Some, None, Result, Ok, Err}
use Rattle.byte_lists.specs.Content.{part}
use Rattle.byte_lists.specs.Sectors.{padded, sectors_of}
use Rattle.byte_lists.specs.declared.format.TheConstants.{SECTOR}
use Rattle.sector_dev.specs.Disk.{Disk, IsHonest, reads_of}
use Rattle.sector_dev.specs.Calls.{Keeps, one_more}
use Rattle.ckpt_stream.specs.declared.error.PieceError.{PieceError}
use Rattle.ckpt_stream.specs.declared.error.PieceError.TheVariants.{Fault, Damaged}
use Rattle.row_map.specs.Database.{RowView}
use Rattle.store_layout.specs.declared.format.TheConstants.{BEFORE_ROWS}
use Rattle.store_layout.specs.Checkpoint.{checkpoint_bytes, checkpoint_encoding}
use Rattle.ckpt_pair.specs.Checkpoint.{written_checkpoint}
use Rattle.ckpt_pair.specs.Rows.{rows_format}
use Rattle.ckpt_stream.specs.declared.plan.Edit.TheVariants.{Keep}
use Rattle.ckpt_stream.specs.Rewriting.{RewriteView, untaken, untaken_len, edits_end}
use Rattle.path_records.specs.declared.format.TheConstants.{PIECE}
use Rattle.ckpt_stream.specs.declared.merge.Merge.TheInside.{Inside}

-- A merge as contracts see it.
pub record MergeView : Type 0 where
  -- The bytes that are made and not written, and those that are still to be made.
  pub rewrite : RewriteView
  -- The number of bytes of the rows in the old area.
  pub size : ℕ
  -- The sums of the sectors of the old area, as they were planned.
  pub sums : List ℕ
  -- The rows of the checkpoint.
  pub rows : List RowView
  -- The epoch of the checkpoint.
  pub epoch : ℕ
  -- The place of the checkpoint.
  pub place : ℕ

-- A merge's fields as contracts see them.
abbrev pub merge_view : Inside → MergeView
merge_view s = record { rewrite = s.rewrite; size = s.size; sums = s.sums.items; rows = s.note.value; epoch = s.epoch; place = s.place }

-- The bytes of the checkpoint.
abbrev pub bytes_made : MergeView → List ℕ
bytes_made merge = checkpoint_bytes rows_format (written_checkpoint merge.epoch merge.place merge.rows)

-- The bytes of the checkpoint in whole sectors.
abbrev pub encoding_made : MergeView → List ℕ
encoding_made merge = checkpoint_encoding rows_format (written_checkpoint merge.epoch merge.place merge.rows)

-- The bytes, in whole sectors, of the last checkpoint that was begun: no bytes where none was.
abbrev pub encoding_if_any : Option MergeView → List ℕ
encoding_if_any None = []
encoding_if_any (Some merge) = encoding_made merge

-- What holds for the fields of a merge.
pub record IsMerge (s : Inside) : Type 0 where
  -- The window has 256 sectors.
  pub window : length s.window.items ≡ PIECE
  -- The sectors of the checkpoint are counted.
  pub sectors : SECTOR * s.sectors ≡ length (encoding_made (merge_view s))
  -- The edits read exactly the rows of the old area.
  pub end : edits_end s.rewrite ≡ s.size
  -- Each sector up to the end of those rows has a sum.
  pub summed : length s.sums.items ≡ sectors_of (BEFORE_ROWS + s.size)

-- The bytes that are written next: at most 256 sectors of what is made, with zeros up to a whole
-- sector.
abbrev pub next_piece : RewriteView → List ℕ
next_piece rewrite = padded (take PIECE rewrite.out)

-- The rewrite after the next piece is written.
abbrev pub after_piece : RewriteView → RewriteView
after_piece rewrite = record rewrite { out = drop PIECE rewrite.out }

-- A piece can be written: a whole piece is made, or nothing is left to be made.
abbrev pub IsReady : RewriteView → Type 0
IsReady rewrite = (PIECE ≤ length rewrite.out) ⊎ (rewrite.edits ≡ Keep 0 ∷ [])

-- The result of the write of a piece: it was written also where what is made next is damaged.
abbrev pub as_write : Result (Unit {0}) PieceError → Result (Unit {0}) PieceError
as_write (Ok done) = Ok done
as_write (Err Fault) = Err Fault
as_write (Err Damaged) = Ok tt

-- The count of failed calls after a piece was made. A call of the device failed exactly where the
-- error is `Fault`.
abbrev pub faults_behind : Result (Unit {0}) PieceError → ℕ → ℕ
faults_behind (Ok done) faults = faults
faults_behind (Err Fault) faults = one_more faults
faults_behind (Err Damaged) faults = faults

-- The contents of the device were read for a piece, and are unchanged.
pub record LooksForPiece (result : Result (Unit {0}) PieceError) (old new : Disk) : Type 0 where
  pub keeps : Keeps old new
  pub faults : new.faults ≡ faults_behind result old.faults
  pub history : IsHonest old → new.history ≡ old.history

-- More is made from the rows of an area, which have `size` bytes.
pub record MakesOn (disk : Disk) (area size : ℕ) (old new : RewriteView) : Type 0 where
  -- On an honest device, the bytes that are not taken are the same as before.
  pub same : IsHonest disk → untaken new (part (SECTOR * area + BEFORE_ROWS) size (reads_of disk)) ≡ untaken old (part (SECTOR * area + BEFORE_ROWS) size (reads_of disk))
  -- They are as many as before.
  pub len : untaken_len new ≡ untaken_len old
