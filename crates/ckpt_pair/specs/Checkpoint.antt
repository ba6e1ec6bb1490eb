-- Checkpoints of the database.
use Rattle.std.specs.Prelude.{◌≡◌, ℕ, ◌<◌, ◌^◌, List, Ok}
use Rattle.byte_lists.specs.Content.{AreBytes}
use Rattle.store_layout.specs.Checkpoint as laws
use Rattle.store_layout.specs.Checkpoint.{CanBeHead, CanBeCheckpoint}
use Rattle.store_layout.specs.CheckpointReading.{checkpoint_in}
use Rattle.store_layout.specs.StoreFormat.{IsStorable}
use Rattle.row_map.specs.Database.{RowView, IsDatabase, rows_len}
use Rattle.store_layout.specs.Limits.{latest}
use Rattle.ckpt_pair.specs.Rows.{rows_format}

-- The checkpoint that is written for a database.
abbrev pub written_checkpoint : ℕ → ℕ → List RowView → laws.Checkpoint (List RowView)
written_checkpoint epoch place rows = record { head = record { version = latest; epoch = epoch; place = place }; db = rows }

-- Every database can be read again from its records.
abbrev pub DatabasesAreStorable : Type 0
DatabasesAreStorable = (rows : List RowView) → IsDatabase rows → IsStorable rows_format rows

-- Every database whose records have less than 4 GiB can be in a checkpoint, under any head.
abbrev pub DatabasesCanBeCheckpoints : Type 0
DatabasesCanBeCheckpoints =
    (head : laws.Head) (rows : List RowView) → CanBeHead head → IsDatabase rows → rows_len rows < 2 ^ 32
    → CanBeCheckpoint rows_format (record { head = head; db = rows })

-- The rows of a checkpoint that is read are a database.
abbrev pub ReadCheckpointsAreDatabases : Type 0
ReadCheckpointsAreDatabases =
    (area : List ℕ) (checkpoint : laws.Checkpoint (List RowView)) → AreBytes area → checkpoint_in rows_format latest area ≡ Ok checkpoint
    → IsDatabase checkpoint.db
