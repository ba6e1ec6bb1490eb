-- The reading of an area, as functions: its head and its checkpoint, or the first refusal. Version
-- `latest` is the greatest that is known.
use Rattle.std.specs.Prelude.{◌≡◌, ◌≢◌, ℕ, ◌+◌, ◌<◌, List, length, Result, Ok, Err, Option, Some, None, if◌then◌else◌, ◌==◌, nat_le}
use Rattle.byte_lists.specs.Content.{part}
use Rattle.byte_lists.specs.Numbers.{four_at, eight_at}
use Rattle.store_layout.specs.declared.format.TheConstants.{BEFORE_ROWS}
use Rattle.store_layout.specs.GroupReading.{refuse_unless}
use Rattle.store_layout.specs.StoreFormat.{RowsFormat}
use Rattle.store_layout.specs.Checkpoint.{Head, Checkpoint, checkpoint_magic}

-- Why a pair of halves is refused. `NewerFormat` has the version.
pub data PairRefusal : Type 0 where
  NoHalf : PairRefusal
  SameEpoch : PairRefusal
  BadCheckpoint : PairRefusal
  SealedNewer : PairRefusal
  NewerFormat : (version : ℕ) → PairRefusal

-- The version, at its offset in a head.
abbrev pub version_in : List ℕ → ℕ
version_in area = four_at 4 area

-- The numbers of a head, at their offsets.
abbrev pub numbers_in : List ℕ → Head
numbers_in area = record { version = version_in area; epoch = eight_at 8 area; place = eight_at 16 area }

-- The head with which an area begins.
abbrev pub head_in : ℕ → List ℕ → Result Head PairRefusal
head_in latest area =
    refuse_unless (four_at 0 area == checkpoint_magic) BadCheckpoint
    (refuse_unless (nat_le 1 (version_in area)) BadCheckpoint
    (refuse_unless (nat_le (version_in area) latest) (NewerFormat (version_in area)) (Ok (numbers_in area))))

-- The length of the rows of an area in bytes, as the area has it.
abbrev pub rows_size : List ℕ → ℕ
rows_size area = four_at 24 area

-- The number of the rows of an area, as the area has it.
abbrev pub rows_count : List ℕ → ℕ
rows_count area = four_at 28 area

-- The database of the rows. `None` where the rows do not end within the area.
abbrev pub db_in : {Db : Type 0} → RowsFormat Db → List ℕ → Option Db
db_in rows area =
    if nat_le (BEFORE_ROWS + rows_size area) (length area) then rows.decoding (rows_count area) (part BEFORE_ROWS (rows_size area) area) else None

-- The checkpoint of a head and of a database, or the first refusal.
abbrev pub with_rows : {Db : Type 0} → Result Head PairRefusal → Option Db → Result (Checkpoint Db) PairRefusal
with_rows (Err refusal) found = Err refusal
with_rows (Ok head) None = Err BadCheckpoint
with_rows (Ok head) (Some db) = Ok (record { head = head; db = db })

-- The checkpoint with which an area begins.
abbrev pub checkpoint_in : {Db : Type 0} → RowsFormat Db → ℕ → List ℕ → Result (Checkpoint Db) PairRefusal
checkpoint_in rows latest area = with_rows (head_in latest area) (db_in rows area)

-- The definition of each refusal of a head: another magic or version 0, or a version that is not
-- known.
abbrev pub IsHeadRefusal : PairRefusal → ℕ → List ℕ → Type 0
IsHeadRefusal NoHalf latest area = ⊥
IsHeadRefusal SameEpoch latest area = ⊥
IsHeadRefusal BadCheckpoint latest area = (four_at 0 area ≡ checkpoint_magic) → version_in area ≡ 0
IsHeadRefusal SealedNewer latest area = ⊥
IsHeadRefusal (NewerFormat version) latest area =
    (four_at 0 area ≡ checkpoint_magic) × (version_in area ≢ 0) × (version_in area ≡ version) × (latest < version)
