-- A checkpoint: a head, and the rows of a database. It is at the front of its area. The bytes after
-- it are not used.
use Rattle.std.specs.Prelude.{◌≡◌, ℕ, ◌+◌, ◌^◌, ◌<◌, ◌≤◌, List, ◌++◌, length, take}
use Rattle.std.specs.Int.{w32, w64, to_be_bytes}
use Rattle.byte_lists.specs.Sectors.{padded}
use Rattle.store_layout.specs.declared.format.TheConstants.{BEFORE_ROWS}
use Rattle.store_layout.specs.Group.{last_place}
use Rattle.store_layout.specs.StoreFormat.{RowsFormat, IsStorable, StoreFormat}

-- The head of a checkpoint.
pub record Head : Type 0 where
  -- The version of the format that counts for the half.
  pub version : ℕ
  -- The epoch, which is greater in the newer half.
  pub epoch : ℕ
  -- The place: the number of commands that are folded into the database.
  pub place : ℕ

-- A checkpoint: its head, and its database.
pub record Checkpoint (Db : Type 0) : Type 0 where
  pub head : Head
  pub db : Db

-- The four letters PCKP as one big-endian number.
abbrev pub checkpoint_magic : ℕ
checkpoint_magic = 0x50434b50

-- The 24 bytes of a head: magic (4), version (4), epoch (8), place (8), big-endian.
abbrev pub checkpoint_head_encoding : Head → List ℕ
checkpoint_head_encoding head =
    to_be_bytes w32 checkpoint_magic ++ (to_be_bytes w32 head.version ++ (to_be_bytes w64 head.epoch ++ to_be_bytes w64 head.place))

-- The bytes of a checkpoint: its head, the length of its rows in bytes (4), their number (4), and
-- the rows.
abbrev pub checkpoint_bytes : {Db : Type 0} → RowsFormat Db → Checkpoint Db → List ℕ
checkpoint_bytes rows checkpoint =
    checkpoint_head_encoding checkpoint.head
    ++ (to_be_bytes w32 (length (rows.encoding checkpoint.db))
    ++ (to_be_bytes w32 (rows.count checkpoint.db) ++ rows.encoding checkpoint.db))

-- A checkpoint as it is written: the last sector is padded with zeros.
abbrev pub checkpoint_encoding : {Db : Type 0} → RowsFormat Db → Checkpoint Db → List ℕ
checkpoint_encoding rows checkpoint = padded (checkpoint_bytes rows checkpoint)

-- A head can be written: versions count from 1, and each number fits its bytes.
pub record CanBeHead (head : Head) : Type 0 where
  pub some : 1 ≤ head.version
  pub version : head.version < 2 ^ 32
  pub epoch : head.epoch < 2 ^ 64
  pub place : head.place ≤ last_place

-- A checkpoint can be written.
pub record CanBeCheckpoint {Db : Type 0} (rows : RowsFormat Db) (checkpoint : Checkpoint Db) : Type 0 where
  -- Its head can be written.
  pub head : CanBeHead checkpoint.head
  -- The length of its rows has 32 bits.
  pub size : length (rows.encoding checkpoint.db) < 2 ^ 32
  -- The number of its rows has 32 bits.
  pub count : rows.count checkpoint.db < 2 ^ 32
  -- Its rows can be read again.
  pub storable : IsStorable rows checkpoint.db

-- An area begins with this head.
pub record IsHead (area : List ℕ) (head : Head) : Type 0 where
  pub can : CanBeHead head
  pub spelled : take 24 area ≡ checkpoint_head_encoding head

-- The length of a checkpoint in bytes.
abbrev pub checkpoint_size : {Db : Type 0} → RowsFormat Db → Checkpoint Db → ℕ
checkpoint_size rows checkpoint = BEFORE_ROWS + length (rows.encoding checkpoint.db)

-- An area begins with all bytes of this checkpoint.
pub record IsCheckpoint {Db : Type 0} (rows : RowsFormat Db) (area : List ℕ) (checkpoint : Checkpoint Db) : Type 0 where
  pub can : CanBeCheckpoint rows checkpoint
  pub spelled : take (checkpoint_size rows checkpoint) area ≡ checkpoint_bytes rows checkpoint

-- The checkpoint of a new store: epoch 1, place 0, no row.
abbrev pub first_checkpoint : {Db C : Type 0} → StoreFormat Db C → ℕ → Checkpoint Db
first_checkpoint format version = record { head = record { version = version; epoch = 1; place = 0 }; db = format.empty }
