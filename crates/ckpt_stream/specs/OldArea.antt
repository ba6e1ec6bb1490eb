-- What is read of the front of a sealed half's area.
use Rattle.std.specs.Prelude.{◌≡◌, ℕ, ◌+◌, ◌*◌, List, Result, Ok, Err}
use Rattle.byte_lists.specs.Content.{part}
use Rattle.byte_lists.specs.declared.format.TheConstants.{SECTOR}
use Rattle.path_records.specs.RowRecord.{rows_decoding}
use Rattle.store_layout.specs.declared.format.TheConstants.{BEFORE_ROWS}
use Rattle.store_layout.specs.declared.half.Half.{Half}
use Rattle.store_layout.specs.Layout.{Geometry, area_at, area_of}
use Rattle.store_layout.specs.CheckpointReading.{PairRefusal, checkpoint_in}
use Rattle.ckpt_pair.specs.declared.reading.Front.{Front}
use Rattle.ckpt_pair.specs.Heads.{head_view}
use Rattle.store_layout.specs.Limits.{latest}
use Rattle.ckpt_pair.specs.Reading.{with_head}
use Rattle.ckpt_pair.specs.Rows.{rows_format, as_counted}
use Rattle.store_open.specs.declared.error.OpenError.{OpenError}
use Rattle.store_open.specs.declared.error.OpenError.TheVariants.{NotAStore, Device, Pair, Journal, NoMemory}

-- The checkpoint of a half is refused.
pub record IsNoCheckpoint (geometry : Geometry) (half : Half) (reads : List ℕ) : Type 0 where
  pub refusal : PairRefusal
  pub is : checkpoint_in rows_format latest (area_of geometry half reads) ≡ Err refusal

-- The checkpoint of a half is read by this front.
abbrev pub IsReadByFront : Front → Geometry → Half → List ℕ → Type 0
IsReadByFront front geometry half reads =
    checkpoint_in rows_format latest (area_of geometry half reads)
    ≡ with_head (head_view front.head) (as_counted front.count (rows_decoding (part (SECTOR * area_at geometry half + BEFORE_ROWS) front.size reads)))

-- The result of reading the front of a half's checkpoint. An error is the front's refusal, or a
-- failure of the device.
abbrev pub FrontSo : Result Front OpenError → Geometry → Half → List ℕ → Type 0
FrontSo (Ok front) geometry half reads = IsReadByFront front geometry half reads
FrontSo (Err NotAStore) geometry half reads = ⊥
FrontSo (Err Device) geometry half reads = Unit {0}
FrontSo (Err (Pair e)) geometry half reads = IsNoCheckpoint geometry half reads
FrontSo (Err (Journal e)) geometry half reads = ⊥
FrontSo (Err NoMemory) geometry half reads = Unit {0}
