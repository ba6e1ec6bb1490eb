-- Rows that a stream returns: the bytes that were pushed, the rows that were returned, and what is
-- still to come.
use Rattle.std.specs.Prelude.{◌≡◌, ℕ, ◌+◌, ◌-◌, ◌≤◌, List, ◌++◌, length, take, drop, Ok, Some, None}
use Rattle.store_layout.specs.declared.format.TheConstants.{BEFORE_ROWS}
use Rattle.store_layout.specs.CheckpointReading.{checkpoint_in}
use Rattle.row_map.specs.Database.{RowView}
use Rattle.path_records.specs.declared.error.DbError.{DbError}
use Rattle.path_records.specs.RowRecord.{rows_decoding}
use Rattle.path_records.specs.RowCursor.{CursorView, HasGiven}
use Rattle.path_records.specs.DatabaseReader.{AreRefused}
use Rattle.ckpt_pair.specs.declared.row_stream.RowStream.TheInside.{Inside}
use Rattle.store_layout.specs.Limits.{latest}
use Rattle.ckpt_pair.specs.Rows.{rows_format, as_counted}
use Rattle.ckpt_pair.specs.Reading.{FrontView, front_in, with_head}

-- A stream as contracts see it.
pub record StreamView : Type 0 where
  -- The cursor over the rows.
  pub cursor : CursorView
  -- The number of bytes that are still to come.
  pub bytes : ℕ
  -- The number of rows that are still to come.
  pub rows : ℕ

-- A stream's fields as contracts see them.
abbrev pub stream_view : Inside → StreamView
stream_view s = record { cursor = s.cursor; bytes = s.bytes; rows = s.rows }

-- What a stream of `count` rows in `size` bytes has returned.
pub record HasStreamed (size count : ℕ) (pushed : List ℕ) (given : List RowView) (stream : StreamView) : Type 0 where
  -- The first `size` bytes that were pushed are the records of the rows.
  pub cursor : HasGiven (take size pushed) given stream.cursor
  -- The stream counts the bytes that are still to come.
  pub bytes : stream.bytes ≡ size - length pushed
  -- The stream counts the rows that are still to come.
  pub rows : length given + stream.rows ≡ count

-- The bytes that were pushed are not read as this number of rows in this number of bytes, whatever
-- bytes come next.
abbrev pub AreNoStreamedRows : StreamView → Type 0
AreNoStreamedRows stream =
    (size count : ℕ) (pushed : List ℕ) (given : List RowView) → HasStreamed size count pushed given stream
    → (after : List ℕ) → as_counted count (rows_decoding (take size (pushed ++ after))) ≡ None

-- A cursor in this state is refused, whatever was pushed and returned before.
abbrev pub IsRefusedCursor : CursorView → Type 0
IsRefusedCursor cursor = (e : DbError) × ((fed : List ℕ) (given : List RowView) → HasGiven fed given cursor → AreRefused fed e)

-- The list of rows begins with these.
pub record BeginWith (given rows : List RowView) : Type 0 where
  pub others : List RowView
  pub split : rows ≡ given ++ others

-- The rows that the pushed bytes and any later ones are read as begin with the rows that were
-- returned.
abbrev pub StreamsBeginRows : Type 0
StreamsBeginRows =
    (size count : ℕ) (pushed after : List ℕ) (given rows : List RowView) (stream : StreamView) → HasStreamed size count pushed given stream
    → as_counted count (rows_decoding (take size (pushed ++ after))) ≡ Some rows → BeginWith given rows

-- Where a half's area is pushed from the rows on, its checkpoint is the reading of these bytes by
-- the size and the count of its front.
abbrev pub StreamsReadHalves : Type 0
StreamsReadHalves =
    (area bytes : List ℕ) (front : FrontView) → BEFORE_ROWS ≤ length area → front_in latest (length area) area ≡ Ok front → bytes ≡ drop BEFORE_ROWS area
    → checkpoint_in rows_format latest area ≡ with_head front.head (as_counted front.count (rows_decoding (take front.size bytes)))
