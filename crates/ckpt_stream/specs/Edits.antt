-- How edits change the records of rows. An entry of `rows` is a row, or none where no row is left
-- under a key.
use Rattle.std.specs.Prelude.{ℕ, ◌+◌, List, [], ◌∷◌, ◌++◌, length, take, drop, map, Option, Some, None}
use Rattle.std.specs.Option.{option_map, option_to_list}
use Rattle.row_map.specs.declared.row.Row.{Row}
use Rattle.row_map.specs.Database.{RowView, row_len}
use Rattle.row_map.specs.Row.{row_view}
use Rattle.path_records.specs.RowRecord.{row_record}
use Rattle.ckpt_stream.specs.declared.plan.Edit.{Edit}
use Rattle.ckpt_stream.specs.declared.plan.Edit.TheVariants.{Keep, Pass, Put}

-- Entries of rows as contracts see them.
abbrev pub views_if_any : List (Option Row) → List (Option RowView)
views_if_any rows = map (option_map row_view) rows

-- The record of a row, where there is one.
abbrev pub record_if_any : Option RowView → List ℕ
record_if_any None = []
record_if_any (Some row) = row_record row

-- The number of bytes of a row's record, 0 where there is no row.
abbrev pub len_if_any : Option RowView → ℕ
len_if_any None = 0
len_if_any (Some row) = row_len row

-- The number of rows among entries.
abbrev pub count_rows : List (Option RowView) → ℕ
count_rows [] = 0
count_rows (found ∷ rows) = length (option_to_list found) + count_rows rows

-- The bytes after edits: `Keep` copies a number of bytes, `Pass` leaves out a number of bytes, and
-- `Put` writes the record of the next entry of `rows`.
abbrev pub edited : List Edit → List (Option RowView) → List ℕ → List ℕ
edited [] rows bytes = []
edited (Keep n ∷ edits) rows bytes = take n bytes ++ edited edits rows (drop n bytes)
edited (Pass n ∷ edits) rows bytes = edited edits rows (drop n bytes)
edited (Put ∷ edits) [] bytes = edited edits [] bytes
edited (Put ∷ edits) (row ∷ rows) bytes = record_if_any row ++ edited edits rows bytes

-- The number of bytes that edits read.
abbrev pub bytes_in : List Edit → ℕ
bytes_in [] = 0
bytes_in (Keep n ∷ edits) = n + bytes_in edits
bytes_in (Pass n ∷ edits) = n + bytes_in edits
bytes_in (Put ∷ edits) = bytes_in edits

-- The number of bytes that an edit keeps.
abbrev pub kept_by : Edit → ℕ
kept_by (Keep n) = n
kept_by (Pass n) = 0
kept_by Put = 0

-- The number of bytes that edits keep.
abbrev pub bytes_kept : List Edit → ℕ
bytes_kept [] = 0
bytes_kept (edit ∷ edits) = kept_by edit + bytes_kept edits

-- The number of bytes of the records of entries.
abbrev pub bytes_put : List (Option RowView) → ℕ
bytes_put [] = 0
bytes_put (row ∷ rows) = len_if_any row + bytes_put rows

-- The number of entries that edits put.
abbrev pub puts_in : List Edit → ℕ
puts_in [] = 0
puts_in (Keep n ∷ edits) = puts_in edits
puts_in (Pass n ∷ edits) = puts_in edits
puts_in (Put ∷ edits) = 1 + puts_in edits

-- The number of bytes that edits write, where all bytes that they read are present.
abbrev pub bytes_out : List Edit → List (Option RowView) → ℕ
bytes_out [] rows = 0
bytes_out (Keep n ∷ edits) rows = n + bytes_out edits rows
bytes_out (Pass n ∷ edits) rows = bytes_out edits rows
bytes_out (Put ∷ edits) [] = bytes_out edits []
bytes_out (Put ∷ edits) (row ∷ rows) = len_if_any row + bytes_out edits rows
