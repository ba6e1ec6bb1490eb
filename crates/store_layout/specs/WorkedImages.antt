-- Worked values of regions, first sectors, checkpoints and openings, byte by byte.
use Rattle.std.specs.Prelude.{ℕ, ◌+◌, List, [], ◌∷◌, ◌++◌, replicate, Result, Ok, Some, unwrap_or}
use Rattle.std.proofs.Common.{sym, ap, refl}
use Rattle.store_layout.specs.Worked.{raw_format, open_sector}
use Rattle.store_layout.specs.Layout.{Geometry}
use Rattle.store_layout.specs.StoreFormat.{RowsFormat, StoreFormat}
use Rattle.store_layout.specs.Checkpoint.{Head, Checkpoint}
use Rattle.store_layout.specs.CheckpointReading.{PairRefusal}

-- A database that is any bytes, with a number of rows.
pub record RawRows : Type 0 where
  -- The number of rows.
  pub count : ℕ
  -- The bytes.
  pub bytes : List ℕ

-- The format of these databases.
abbrev pub raw_rows : RowsFormat RawRows
raw_rows = record {
  encoding = λ db. db.bytes;
  count = λ db. db.count;
  decoding = λ count bytes. Some (record { count = count; bytes = bytes });
  spelled = λ count bytes db each is. sym (ap (λ found. (unwrap_or found db).bytes) is);
  counted = λ count bytes db each is. sym (ap (λ found. (unwrap_or found db).count) is);
}

-- The format of a store of these databases, in which each command adds a row.
abbrev pub raw_store : StoreFormat RawRows (List ℕ)
raw_store = record {
  rows = raw_rows;
  commands = raw_format;
  apply = λ db command. record { count = db.count + 1; bytes = db.bytes ++ command };
  empty = record { count = 0; bytes = [] };
  none = refl;
}

-- The smallest sizes of a store.
abbrev pub small : Geometry
small = record { checkpoint = 2; journal = 516 }

-- The title of a store with these sizes: SCPATHDB, 1, 2, 516.
abbrev pub small_title : List ℕ
small_title =
    0x53 ∷ 0x43 ∷ 0x50 ∷ 0x41 ∷ 0x54 ∷ 0x48 ∷ 0x44 ∷ 0x42 ∷ 0 ∷ 0 ∷ 0 ∷ 1 ∷ 0 ∷ 0 ∷ 0 ∷ 2 ∷ 0 ∷ 0 ∷ 2 ∷ 4 ∷ []

-- The bytes of a head: PCKP, a version, an epoch and a place, each below 256.
abbrev pub small_head : ℕ → ℕ → ℕ → List ℕ
small_head version epoch place =
    0x50 ∷ 0x43 ∷ 0x4b ∷ 0x50 ∷ 0 ∷ 0 ∷ 0 ∷ version
    ∷ 0 ∷ 0 ∷ 0 ∷ 0 ∷ 0 ∷ 0 ∷ 0 ∷ epoch ∷ 0 ∷ 0 ∷ 0 ∷ 0 ∷ 0 ∷ 0 ∷ 0 ∷ place ∷ []

-- The first sector of an area without rows.
abbrev pub empty_area : ℕ → ℕ → ℕ → List ℕ
empty_area version epoch place = small_head version epoch place ++ replicate 488 0

-- A head with these numbers.
abbrev pub head_with : ℕ → ℕ → ℕ → Head
head_with version epoch place = record { version = version; epoch = epoch; place = place }

-- An area of one sector whose front has this length of the rows.
abbrev pub area_with_size : ℕ → ℕ → List ℕ
area_with_size high low = small_head 2 1 0 ++ (0 ∷ 0 ∷ high ∷ low ∷ replicate 484 0)

-- The result of reading an area with this number of rows in these bytes.
abbrev pub checkpoint_with : Head → ℕ → List ℕ → Result (Checkpoint RawRows) PairRefusal
checkpoint_with head count bytes = Ok (record { head = head; db = record { count = count; bytes = bytes } })

-- An image that begins with sector 0, the first half's area without rows, and its gate, which is
-- open.
abbrev pub small_image : List ℕ → List ℕ
small_image behind = (small_title ++ replicate 492 0) ++ ((empty_area 2 1 0 ++ replicate 512 0) ++ (open_sector ++ behind))
