-- How the checkpoint of a sealed half is begun.
use Rattle.std.specs.Prelude.{◌≡◌, ℕ, ◌+◌, ◌*◌, ◌≤◌, List, length, Some, Result, Ok, Err}
use Rattle.byte_lists.specs.declared.format.TheConstants.{SECTOR}
use Rattle.sector_dev.specs.Disk.{Disk, IsHonest, reads_of}
use Rattle.path_db.specs.declared.command.Command.{Command}
use Rattle.row_map.specs.Database.{RowView, rows_len}
use Rattle.path_db.specs.Command.{database_after_all}
use Rattle.path_records.specs.RowRecord.{rows_encoding}
use Rattle.store_layout.specs.declared.format.TheConstants.{BEFORE_ROWS}
use Rattle.store_layout.specs.declared.half.Half.{Half}
use Rattle.store_layout.specs.Layout.{Geometry, area_of}
use Rattle.store_layout.specs.Checkpoint.{Checkpoint, CanBeCheckpoint, checkpoint_bytes, checkpoint_size}
use Rattle.store_layout.specs.CheckpointReading.{checkpoint_in}
use Rattle.ckpt_pair.specs.Checkpoint.{written_checkpoint}
use Rattle.store_layout.specs.Limits.{latest}
use Rattle.ckpt_pair.specs.Rows.{rows_format}
use Rattle.store_open.specs.Sealed.{SealedHalf, sealed_half}
use Rattle.store_open.specs.declared.error.SealedError.{SealedError}
use Rattle.store_open.specs.declared.error.SealedError.TheVariants.{Fault, NoMemory, Damaged}
use Rattle.ckpt_stream.specs.Rewriting.{RewriteView, untaken, untaken_len, edits_end}
use Rattle.ckpt_stream.specs.Sums.{AreSummed}
use Rattle.ckpt_stream.specs.Merge.{MergeView, bytes_made, IsReady}

-- The checkpoint of a sealed half: its rows, at the place that it reaches, in the version that is
-- written.
abbrev pub checkpoint_from : ℕ → SealedHalf → Checkpoint (List RowView)
checkpoint_from epoch sealed = written_checkpoint epoch sealed.place sealed.rows

-- A rewrite of which nothing is taken yet makes the checkpoint of rows after commands.
pub record RewritesCheckpoint (epoch place : ℕ) (rows : List RowView) (commands : List Command) (rewrite : RewriteView) : Type 0 where
  -- It makes the checkpoint's bytes from the records of these rows.
  pub makes : untaken rewrite (rows_encoding rows) ≡ checkpoint_bytes rows_format (written_checkpoint epoch place (database_after_all rows commands))
  -- It makes as many bytes.
  pub len : untaken_len rewrite ≡ BEFORE_ROWS + rows_len (database_after_all rows commands)
  -- Its edits read exactly the records of these rows.
  pub end : edits_end rewrite ≡ rows_len rows

-- A merge makes its checkpoint from the rows of the old checkpoint in the half's area.
pub record MakesFrom (merge : MergeView) (old : Checkpoint (List RowView)) : Type 0 where
  pub size : merge.size ≡ length (rows_encoding old.db)
  pub makes : untaken merge.rewrite (rows_encoding old.db) ≡ bytes_made merge
  -- The sums are those of these rows.
  pub sums : AreSummed merge.sums (rows_encoding old.db)

-- A merge makes the checkpoint of this epoch of a sealed half.
pub record IsMergeOf (geometry : Geometry) (half : Half) (epoch : ℕ) (disk : Disk) (merge : MergeView) : Type 0 where
  -- The sealed half. On an honest device it is what reads give.
  pub sealed : SealedHalf
  pub reads : IsHonest disk → sealed_half geometry half (reads_of disk) ≡ Some sealed
  -- The merge has the checkpoint's rows, place and epoch.
  pub rows : merge.rows ≡ sealed.rows
  pub place : merge.place ≡ sealed.place
  pub epoch_is : merge.epoch ≡ epoch
  -- The checkpoint can be written, and it fits an area.
  pub can : CanBeCheckpoint rows_format (checkpoint_from epoch sealed)
  pub fits : checkpoint_size rows_format (checkpoint_from epoch sealed) ≤ SECTOR * geometry.checkpoint
  -- The rows of the old area end within it.
  pub inside : BEFORE_ROWS + merge.size ≤ SECTOR * geometry.checkpoint
  -- All bytes of the checkpoint are still to be taken, and the first ones are made.
  pub len : untaken_len merge.rewrite ≡ length (bytes_made merge)
  pub ready : IsReady merge.rewrite
  -- On an honest device the checkpoint is made from the rows of the old area.
  pub makes : IsHonest disk → (old : Checkpoint (List RowView)) → checkpoint_in rows_format latest (area_of geometry half (reads_of disk)) ≡ Ok old → MakesFrom merge old

-- A sealed half's checkpoint is begun. After an error, no checkpoint that fits can be made of the
-- half, or the device failed, or memory was refused.
abbrev pub MergesSealed : Geometry → Half → ℕ → Result MergeView SealedError → Disk → Type 0
MergesSealed geometry half epoch (Ok merge) disk = IsMergeOf geometry half epoch disk merge
MergesSealed geometry half epoch (Err Fault) disk = Unit {0}
MergesSealed geometry half epoch (Err NoMemory) disk = Unit {0}
MergesSealed geometry half epoch (Err Damaged) disk =
    IsHonest disk → (sealed : SealedHalf) → sealed_half geometry half (reads_of disk) ≡ Some sealed
    → ¬ (checkpoint_size rows_format (checkpoint_from epoch sealed) ≤ SECTOR * geometry.checkpoint)
