-- The row under one key after puts, and after a test.
use Rattle.std.specs.Prelude.{ℕ, List, [], ◌∷◌, Bool, if◌then◌else◌, Option, Some, None}
use Rattle.row_map.specs.Database.{RowView, is_under}
use Rattle.row_map.specs.Put.{is_newer}

-- The row under a key after a put: the new row where there was none or the new one is newer, else
-- the old one.
abbrev pub winner : RowView → Option RowView → RowView
winner row None = row
winner row (Some old) = if is_newer row old then row else old

-- The row under a key after a put, given the row before.
abbrev pub left_by_put : List ℕ → Option RowView → RowView → Option RowView
left_by_put k found row = if is_under k row then Some (winner row found) else found

-- The row under a key after several puts in order, given the row before.
abbrev pub left_by_puts : List ℕ → Option RowView → List RowView → Option RowView
left_by_puts k found [] = found
left_by_puts k found (row ∷ new) = left_by_puts k (left_by_put k found row) new

-- The row, where there is one and it passes the test.
abbrev pub kept_if : (RowView → Bool) → Option RowView → Option RowView
kept_if p None = None
kept_if p (Some row) = if p row then Some row else None
