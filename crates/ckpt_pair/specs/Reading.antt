-- Reading an area: its front first, and then its rows.
use Rattle.std.specs.Prelude.{◌≡◌, ℕ, ◌+◌, ◌≤◌, Bool, true, false, List, ◌++◌, length, take, Result, Ok, Err, IsOk, Option, Some, None, nat_le}
use Rattle.byte_lists.specs.Content.{part}
use Rattle.store_layout.specs.declared.format.TheConstants.{BEFORE_ROWS}
use Rattle.store_layout.specs.Checkpoint as laws
use Rattle.store_layout.specs.CheckpointReading.{PairRefusal, BadCheckpoint, head_in, rows_size, rows_count, checkpoint_in}
use Rattle.row_map.specs.Database.{RowView}
use Rattle.path_records.specs.RowRecord.{rows_decoding, HasOutline}
use Rattle.ckpt_pair.specs.declared.reading.Front.{Front}
use Rattle.ckpt_pair.specs.declared.reading.Checkpoint.{Checkpoint}
use Rattle.ckpt_pair.specs.Heads.{head_view}
use Rattle.store_layout.specs.Limits.{latest}
use Rattle.ckpt_pair.specs.Rows.{rows_format, as_counted}

-- The front of a checkpoint.
pub record FrontView : Type 0 where
  -- The head.
  pub head : laws.Head
  -- The length of the rows' records in bytes.
  pub size : ℕ
  -- The number of rows.
  pub count : ℕ

-- A front as contracts see it.
abbrev pub front_view : Front → FrontView
front_view front = record { head = head_view front.head; size = front.size; count = front.count }

-- A checkpoint as contracts see it.
abbrev pub checkpoint_view : Checkpoint → laws.Checkpoint (List RowView)
checkpoint_view checkpoint = record { head = head_view checkpoint.head; db = checkpoint.db }

-- A front, by its head and by whether the rows end within the area.
abbrev pub with_room : Result laws.Head PairRefusal → Bool → ℕ → ℕ → Result FrontView PairRefusal
with_room (Err refusal) fits size count = Err refusal
with_room (Ok head) false size count = Err BadCheckpoint
with_room (Ok head) true size count = Ok (record { head = head; size = size; count = count })

-- The front of an area of `size` bytes, from its first bytes.
abbrev pub front_in : ℕ → ℕ → List ℕ → Result FrontView PairRefusal
front_in known size bytes = with_room (head_in known bytes) (nat_le (BEFORE_ROWS + rows_size bytes) size) (rows_size bytes) (rows_count bytes)

-- A value that may be missing, which is refused as BadCheckpoint where it is.
abbrev pub or_bad_checkpoint : {X : Type 0} → Option X → Result X PairRefusal
or_bad_checkpoint None = Err BadCheckpoint
or_bad_checkpoint (Some x) = Ok x

-- Bytes that begin with these are not read as rows, for any count and whatever bytes come after
-- them.
abbrev pub AreNoRows : List ℕ → Type 0
AreNoRows bytes = (count : ℕ) (behind : List ℕ) → as_counted count (rows_decoding (bytes ++ behind)) ≡ None

-- Reading an area takes memory: its front is valid, and the first of its rows has an outline.
pub record HasRowsToRead (area : List ℕ) : Type 0 where
  pub front : IsOk (front_in latest (length area) area)
  pub outline : HasOutline (part BEFORE_ROWS (rows_size area) area)

-- A checkpoint, by its head and the result of reading its rows.
abbrev pub with_head : laws.Head → Option (List RowView) → Result (laws.Checkpoint (List RowView)) PairRefusal
with_head head None = Err BadCheckpoint
with_head head (Some rows) = Ok (record { head = head; db = rows })

-- A checkpoint, by its front and the reading of its rows.
abbrev pub with_rows_behind : Result FrontView PairRefusal → (FrontView → Option (List RowView)) → Result (laws.Checkpoint (List RowView)) PairRefusal
with_rows_behind (Err refusal) found = Err refusal
with_rows_behind (Ok front) found = with_head front.head (found front)

-- The rows of a front, in the bytes of an area after it.
abbrev pub rows_behind : List ℕ → FrontView → Option (List RowView)
rows_behind area front = as_counted front.count (rows_decoding (part BEFORE_ROWS front.size area))

-- An area is read by its front and its rows.
pub record IsReadByItsFront (area : List ℕ) : Type 0 where
  -- The checkpoint is its front and its rows.
  pub checkpoint : checkpoint_in rows_format latest area
      ≡ with_rows_behind (front_in latest (length area) area) (rows_behind area)
  -- The front depends on the first 32 bytes of the area alone.
  pub front : (bytes : List ℕ) → take BEFORE_ROWS bytes ≡ take BEFORE_ROWS area → front_in latest (length area) bytes ≡ front_in latest (length area) area

-- Each area is read by its front.
abbrev pub AreReadByTheirFronts : Type 0
AreReadByTheirFronts = (area : List ℕ) → BEFORE_ROWS ≤ length area → IsReadByItsFront area
