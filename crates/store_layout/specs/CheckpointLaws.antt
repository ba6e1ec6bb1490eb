-- Laws of first sectors, heads and checkpoints. Each statement is the contract of a function.
use Rattle.std.specs.Prelude.{◌≡◌, ◌↔◌, ℕ, ◌+◌, ◌<◌, ◌≤◌, ◌^◌, List, length, take, Some, Ok, Err}
use Rattle.byte_lists.specs.Content.{AreBytes, part, overwrite}
use Rattle.byte_lists.specs.Sectors.{whole_sectors}
use Rattle.store_layout.specs.Layout.{Geometry, IsGeometry, image_sectors}
use Rattle.store_layout.specs.FirstSector.{first_sector, IsStore, geometry_in}
use Rattle.store_layout.specs.StoreFormat.{RowsFormat, StoreFormat}
use Rattle.store_layout.specs.Checkpoint.{Head, Checkpoint, checkpoint_encoding, first_checkpoint, CanBeCheckpoint, IsHead, IsCheckpoint}
use Rattle.store_layout.specs.CheckpointReading.{PairRefusal, head_in, IsHeadRefusal, checkpoint_in}

-- An image is read as a store's exactly where it is one, with these sizes.
abbrev pub IsStoreReadSo : Type 0
IsStoreReadSo = (image : List ℕ) (geometry : Geometry) → AreBytes image → (geometry_in image ≡ Some geometry) ↔ IsStore geometry image

-- After sector 0 is written, an image is a store's.
abbrev pub FirstSectorMakesStore : Type 0
FirstSectorMakesStore =
    (image : List ℕ) (geometry : Geometry) → IsGeometry geometry → image_sectors geometry ≤ whole_sectors image
    → IsStore geometry (overwrite 0 (first_sector geometry) image)

-- A head is read exactly where an area begins with it, and its version is known.
abbrev pub IsHeadReadSo : Type 0
IsHeadReadSo =
    (latest : ℕ) (area : List ℕ) (head : Head) → AreBytes area → 24 ≤ length area
    → (head_in latest area ≡ Ok head) ↔ (IsHead area head × (head.version ≤ latest))

-- The head of an area is refused exactly where the definition of the refusal holds.
abbrev pub IsHeadRefusedSo : Type 0
IsHeadRefusedSo = (latest : ℕ) (area : List ℕ) (refusal : PairRefusal) → (head_in latest area ≡ Err refusal) ↔ IsHeadRefusal refusal latest area

-- A head depends on the first 24 bytes alone, so that the first sector of its area is enough.
abbrev pub HeadGoesByItsFront : Type 0
HeadGoesByItsFront = (latest : ℕ) (area : List ℕ) (n : ℕ) → 24 ≤ n → head_in latest (take n area) ≡ head_in latest area

-- A checkpoint is read exactly where the area begins with it, and its version is known.
abbrev pub IsCheckpointReadSo : Type 0 → Type 0
IsCheckpointReadSo Db =
    (rows : RowsFormat Db) (latest : ℕ) (area : List ℕ) (checkpoint : Checkpoint Db) → AreBytes area → 24 ≤ length area
    → (checkpoint_in rows latest area ≡ Ok checkpoint) ↔ (IsCheckpoint rows area checkpoint × (checkpoint.head.version ≤ latest))

-- A checkpoint begins with its head.
abbrev pub BeginsWithItsHead : Type 0 → Type 0
BeginsWithItsHead Db = (rows : RowsFormat Db) (area : List ℕ) (checkpoint : Checkpoint Db) → IsCheckpoint rows area checkpoint → IsHead area checkpoint.head

-- After a checkpoint is written to the front of an area, where it fits, the area begins with this
-- checkpoint.
abbrev pub WrittenCheckpointIsThere : Type 0 → Type 0
WrittenCheckpointIsThere Db =
    (rows : RowsFormat Db) (area : List ℕ) (checkpoint : Checkpoint Db) → CanBeCheckpoint rows checkpoint
    → length (checkpoint_encoding rows checkpoint) ≤ length area
    → IsCheckpoint rows (overwrite 0 (checkpoint_encoding rows checkpoint) area) checkpoint

-- A checkpoint can be written in pieces: where an area begins with some first bytes of it, and the
-- next bytes are written after these, the area begins with all of them.
abbrev pub PiecesAreWritten : Type 0
PiecesAreWritten =
    (bytes area : List ℕ) (at n : ℕ) → at + n ≤ length bytes → length bytes ≤ length area → take at area ≡ take at bytes
    → take (at + n) (overwrite at (part at n bytes) area) ≡ take (at + n) bytes

-- An area that begins with the whole encoding begins with the checkpoint.
abbrev pub WholeEncodingIsThere : Type 0 → Type 0
WholeEncodingIsThere Db =
    (rows : RowsFormat Db) (area : List ℕ) (checkpoint : Checkpoint Db) → CanBeCheckpoint rows checkpoint
    → take (length (checkpoint_encoding rows checkpoint)) area ≡ checkpoint_encoding rows checkpoint → IsCheckpoint rows area checkpoint

-- The checkpoint of a new store can be written.
abbrev pub FirstCheckpointCanBe : Type 0 → Type 0 → Type 0
FirstCheckpointCanBe Db C =
    (format : StoreFormat Db C) (version : ℕ) → 1 ≤ version → version < 2 ^ 32 → CanBeCheckpoint format.rows (first_checkpoint format version)
