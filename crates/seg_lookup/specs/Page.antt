-- Pages of what a query shows. A page begins after an id, or at the first row.
use Rattle.std.specs.Prelude.{ℕ, List, Bool, length, filter, nat_lt, Option, Some, None}
use Rattle.row_map.specs.Database.{RowView}
use Rattle.path_db.specs.Answer.{is_shown}
use Rattle.row_map.specs.Ranges.{is_after}
use Rattle.seg_lookup.specs.declared.answers.TheConstants.{ANSWER_LIMIT}
use Rattle.seg_lookup.specs.Query.{QueryView}
use Rattle.seg_lookup.specs.Answer.{answer_to}

-- The rows whose keys are above that of the query's type and the id. Where there is no id, these
-- are all rows.
abbrev pub rows_after : List RowView → QueryView → Option (List ℕ) → List RowView
rows_after rows query None = rows
rows_after rows query (Some id) = filter (is_after query.kind id) rows

-- Those of them that match the query and expire after this moment.
abbrev pub wanted_after : List RowView → QueryView → Option (List ℕ) → ℕ → List RowView
wanted_after rows query after now = filter (is_shown query.kind query.start query.end now) (rows_after rows query after)

-- The page: the first 64 of those.
abbrev pub answer_after : List RowView → QueryView → Option (List ℕ) → ℕ → List RowView
answer_after rows query after now = answer_to (rows_after rows query after) query now

-- Further rows follow the page.
abbrev pub has_more : List RowView → QueryView → Option (List ℕ) → ℕ → Bool
has_more rows query after now = nat_lt ANSWER_LIMIT (length (wanted_after rows query after now))
