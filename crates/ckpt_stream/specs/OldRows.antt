-- How the rows of a sealed half are read on.
use Rattle.std.specs.Prelude.{◌≡◌, ℕ, ◌+◌, ◌-◌, ◌*◌, ◌<◌, ◌≤◌, List, [], ◌++◌, length, take, Option, None, Result, Ok, Err}
use Rattle.byte_lists.specs.Content.{part}
use Rattle.byte_lists.specs.Sectors.{sectors_of}
use Rattle.byte_lists.specs.declared.format.TheConstants.{SECTOR}
use Rattle.row_map.specs.Database.{RowView, IsDatabase, rows_len}
use Rattle.path_db.specs.declared.command.Command.{Command}
use Rattle.path_db.specs.Command.{database_after_all}
use Rattle.path_records.specs.RowRecord.{rows_decoding}
use Rattle.ckpt_pair.specs.declared.reading.Front.{Front}
use Rattle.ckpt_pair.specs.Rows.{as_counted}
use Rattle.ckpt_pair.specs.Stream.{StreamView, HasStreamed}
use Rattle.store_open.specs.declared.error.OpenError.{OpenError}
use Rattle.store_open.specs.declared.error.OpenError.TheVariants.{NotAStore, Device, Pair, Journal, NoMemory}
use Rattle.ckpt_stream.specs.Planner.{HasSeen, IsFresh, IsPlanOf}
use Rattle.ckpt_stream.specs.Settling.{Settles}
use Rattle.store_layout.specs.declared.format.TheConstants.{BEFORE_ROWS}
use Rattle.ckpt_stream.specs.Sums.{sums_in}
use Rattle.ckpt_stream.specs.declared.old_rows.RowsRead.{RowsRead}
use Rattle.ckpt_stream.specs.declared.half_read.RowsSettled.{RowsSettled}
use Rattle.ckpt_stream.specs.declared.half_read.PlannedRows.{PlannedRows}

-- The rows in the first sectors of an area are read and planned.
pub record AreRowsRead (rows : RowsRead) : Type 0 where
  -- The planner plans for these commands, and has seen the rows.
  pub seen : HasSeen (take rows.named rows.journal.commands.items) rows.note.value rows.planner
  pub named : rows.named ≤ length rows.journal.commands.items
  -- It has seen none before it plans for all commands.
  pub fresh : rows.named < length rows.journal.commands.items → IsFresh rows.planner × (rows.note.value ≡ [])
  -- The bytes of these sectors after the front were pushed to the stream, which has returned the
  -- rows.
  pub pushed : List ℕ
  pub long : length pushed ≡ SECTOR * rows.first - BEFORE_ROWS
  pub streamed : HasStreamed rows.front.size rows.front.count pushed rows.note.value rows.stream
  -- Each of these sectors has a sum.
  pub summed : length rows.sums.items ≡ rows.first
  -- No sector after the rows is read.
  pub inside : rows.first ≤ sectors_of (BEFORE_ROWS + rows.front.size)

-- The bytes of the first sectors of an area were pushed to the stream.
abbrev pub AreStreamed : ℕ → List ℕ → RowsRead → Type 0
AreStreamed area reads rows =
    HasStreamed rows.front.size rows.front.count (part (SECTOR * area + BEFORE_ROWS) (SECTOR * rows.first - BEFORE_ROWS) reads) rows.note.value rows.stream

-- The sums are those of the first sectors of an area.
abbrev pub AreSummedOn : ℕ → List ℕ → RowsRead → Type 0
AreSummedOn area reads rows = rows.sums.items ≡ sums_in rows.first 0 (part (SECTOR * area + BEFORE_ROWS) rows.front.size reads)

-- The rows of an area, by their front.
abbrev pub rows_in : ℕ → List ℕ → RowsRead → Option (List RowView)
rows_in area reads rows = as_counted rows.front.count (rows_decoding (part (SECTOR * area + BEFORE_ROWS) rows.front.size reads))

-- The bytes that were pushed are no rows, whatever bytes come next.
abbrev pub AreNoRowsAfter : List RowView → StreamView → Type 0
AreNoRowsAfter given stream =
    (size count : ℕ) (pushed : List ℕ) → HasStreamed size count pushed given stream
    → (after : List ℕ) → as_counted count (rows_decoding (take size (pushed ++ after))) ≡ None

-- Rows are refused: the bytes that were pushed are none, or memory was refused.
abbrev pub RefusesRows : List RowView → StreamView → OpenError → Type 0
RefusesRows given stream NotAStore = ⊥
RefusesRows given stream Device = ⊥
RefusesRows given stream (Pair e) = AreNoRowsAfter given stream
RefusesRows given stream (Journal e) = ⊥
RefusesRows given stream NoMemory = Unit {0}

-- An error of reading rows: they are none, or the device failed, or memory was refused.
abbrev pub RowsRefused : OpenError → Option (List RowView) → Type 0
RowsRefused NotAStore reading = ⊥
RowsRefused Device reading = Unit {0}
RowsRefused (Pair e) reading = reading ≡ None
RowsRefused (Journal e) reading = ⊥
RowsRefused NoMemory reading = Unit {0}

-- The result of reading on in the rows of an area.
abbrev pub GoesOnInRows : ℕ → List ℕ → RowsRead → RowsRead → Result (Unit {0}) OpenError → Type 0
GoesOnInRows area reads old new (Ok done) = AreStreamed area reads old → AreStreamed area reads new
GoesOnInRows area reads old new (Err e) = AreStreamed area reads old → RowsRefused e (rows_in area reads old)

-- All rows of an area are read: `before` and `left` are the rows before and after commands.
pub record AreAll (front : Front) (before left : List RowView) (sums : List ℕ) (commands : List Command) : Type 0 where
  pub after : left ≡ database_after_all before commands
  pub database : IsDatabase before
  pub size : rows_len before ≡ front.size
  pub summed : length sums ≡ sectors_of (BEFORE_ROWS + front.size)

-- All rows of an area are read, and what some commands leave is settled in part.
pub record AreSettled (settled : RowsSettled) : Type 0 where
  pub commands : List Command
  pub settles : Settles settled.note.value commands settled.settling
  pub all : AreAll settled.front settled.note.value settled.after.value settled.sums.items commands

-- All rows of an area are read and planned.
pub record ArePlanned (planned : PlannedRows) : Type 0 where
  pub commands : List Command
  pub plan : IsPlanOf planned.note.value commands planned.plan
  pub all : AreAll planned.front planned.note.value planned.after.value planned.sums.items commands
