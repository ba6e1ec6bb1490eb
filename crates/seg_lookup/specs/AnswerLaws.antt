-- Laws of the rows that a query shows.
use Rattle.std.specs.Prelude.{◌≡◌, ℕ, ◌<◌, ◌≤◌, ◌⊎◌, List, length, IsTrue}
use Rattle.std.specs.List.{Contains, AllByRecursion}
use Rattle.std.specs.declared.cmp.Ordering.TheVariants.{Less}
use Rattle.seg_check.specs.Expiry.{expiry_of}
use Rattle.row_map.specs.Database.{RowView, key_order, IsRising}
use Rattle.path_db.specs.Answer.{matches}
use Rattle.seg_lookup.specs.Query.{QueryView}
use Rattle.seg_lookup.specs.Answer.{answer_within}

-- A query asks for a row, and the row is valid at the moment.
pub record IsWanted (query : QueryView) (now : ℕ) (row : RowView) : Type 0 where
  pub matching : IsTrue (matches query.kind query.start query.end row)
  pub valid : now < expiry_of row.1

-- An answer has at most as many rows as its limit.
abbrev pub AnswersAreShort : Type 0
AnswersAreShort =
    (limit : ℕ) (rows : List RowView) (query : QueryView) (now : ℕ) → length (answer_within limit rows query now) ≤ limit

-- Each row of an answer is a row of the database, and it is wanted.
abbrev pub AnswersAreWanted : Type 0
AnswersAreWanted =
    (limit : ℕ) (rows : List RowView) (query : QueryView) (now : ℕ) (row : RowView) → Contains (answer_within limit rows query now) row
    → Contains rows row × IsWanted query now row

-- The keys of an answer rise as those of the database do.
abbrev pub AnswersRise : Type 0
AnswersRise =
    (limit : ℕ) (rows : List RowView) (query : QueryView) (now : ℕ) → IsRising rows → IsRising (answer_within limit rows query now)

-- An answer has the number of rows of its limit, and their keys are all below that of this row.
pub record IsFullBelow (limit : ℕ) (row : RowView) (answer : List RowView) : Type 0 where
  pub full : length answer ≡ limit
  pub below : AllByRecursion (λ shown. key_order shown row ≡ Less) answer

-- Each row of the database that is wanted is in the answer, or the answer is full of rows below it.
abbrev pub AnswersAreComplete : Type 0
AnswersAreComplete =
    (limit : ℕ) (rows : List RowView) (query : QueryView) (now : ℕ) (row : RowView) → IsRising rows → Contains rows row → IsWanted query now row
    → Contains (answer_within limit rows query now) row ⊎ IsFullBelow limit row (answer_within limit rows query now)
