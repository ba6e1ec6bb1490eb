-- Laws of pages.
use Rattle.std.specs.Prelude.{◌≡◌, ℕ, zero, suc, ◌*◌, ◌≤◌, List, [], ◌++◌, length, Option, Some, None, if◌then◌else◌}
use Rattle.std.specs.List.{last_or}
use Rattle.std.specs.Option.{option_map}
use Rattle.seg_core.specs.Digest.{segment_digest}
use Rattle.row_map.specs.Database.{RowView, IsRising}
use Rattle.seg_lookup.specs.Query.{QueryView}
use Rattle.seg_lookup.specs.Answer.{answer_to}
use Rattle.seg_lookup.specs.Page.{wanted_after, answer_after, has_more}

-- The page without an id has the rows of the answer.
abbrev pub FirstPageIsTheAnswer : Type 0
FirstPageIsTheAnswer =
    (rows : List RowView) (query : QueryView) (now : ℕ) → answer_after rows query None now ≡ answer_to rows query now

-- The rows that are wanted after an id are those of the page, and then those that are wanted after
-- the id of its last row.
abbrev pub PagesFollowEachOther : Type 0
PagesFollowEachOther =
    (rows : List RowView) (query : QueryView) (after : Option (List ℕ)) (now : ℕ) (last : RowView) → IsRising rows
    → last_or None (answer_after rows query after now) ≡ Some last
    → wanted_after rows query after now ≡ answer_after rows query after now ++ wanted_after rows query (Some (segment_digest last.1)) now

-- The id of the last row of a page.
abbrev pub last_id : List RowView → Option (List ℕ)
last_id rows = option_map (λ row. segment_digest row.1) (last_or None rows)

-- The rows of pages one after the other, at most this many: each begins after the last id of the
-- page before it, and none comes after a page that nothing follows.
unfoldable pub pages_after : ℕ → List RowView → QueryView → Option (List ℕ) → ℕ → List RowView
pages_after zero rows query after now = []
pages_after (suc count) rows query after now =
    answer_after rows query after now
    ++ (if has_more rows query after now then pages_after count rows query (last_id (answer_after rows query after now)) now else [])

-- As many pages as the wanted rows need have all of these rows.
abbrev pub PagesAreComplete : Type 0
PagesAreComplete =
    (count : ℕ) (rows : List RowView) (query : QueryView) (after : Option (List ℕ)) (now : ℕ) → IsRising rows
    → length (wanted_after rows query after now) ≤ 64 * count
    → pages_after count rows query after now ≡ wanted_after rows query after now
