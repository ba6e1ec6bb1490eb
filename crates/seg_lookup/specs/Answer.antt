-- The rows of a database that a query shows.
use Rattle.std.specs.Prelude.{ℕ, List}
use Rattle.row_map.specs.Database.{RowView}
use Rattle.path_db.specs.Answer.{answer_of}
use Rattle.seg_lookup.specs.declared.answers.TheConstants.{ANSWER_LIMIT}
use Rattle.seg_lookup.specs.Query.{QueryView}

-- The first rows by key, at most `limit` of them, that match the query and expire after this
-- moment.
abbrev pub answer_within : ℕ → List RowView → QueryView → ℕ → List RowView
answer_within limit rows query now = answer_of limit rows query.kind query.start query.end now

-- The first 64 rows by key that match the query and expire after this moment.
abbrev pub answer_to : List RowView → QueryView → ℕ → List RowView
answer_to rows query now = answer_within ANSWER_LIMIT rows query now
