-- The rows that a lookup asks for.
use Rattle.std.specs.Prelude.{◌≡◌, ℕ, ◌+◌, ◌^◌, ◌<◌, List, Bool, true, ◌&&◌, take, filter, Option, Some, None}
use Rattle.isd_as.specs.IsdAs.{isd_as_number}
use Rattle.seg_core.specs.declared.seg_type.SegType.{SegType}
use Rattle.path_db.specs.declared.answers.Wanted.{Wanted}
use Rattle.row_map.specs.declared.end.End.{End}
use Rattle.row_map.specs.declared.end.End.TheVariants.{First, Last}
use Rattle.row_map.specs.declared.end.By.{By}
use Rattle.row_map.specs.EndKeys.{index_number, is_of}
use Rattle.row_map.specs.Database.{RowView}
use Rattle.path_db.specs.Answer.{is_shown}
use Rattle.row_map.specs.Ranges.{is_after}

-- A row's key is above that of the type and the id, where an id is given.
abbrev pub is_past : SegType → Option (List ℕ) → RowView → Bool
is_past kind None row = true
is_past kind (Some id) row = is_after kind id row

-- A lookup asks for a row: the row is of the type, its ends are covered, it expires after the
-- moment, and its id is above the one after which the lookup goes on.
abbrev pub is_wanted : Wanted → RowView → Bool
is_wanted wanted row = is_shown wanted.kind (isd_as_number wanted.start) (isd_as_number wanted.end) wanted.moment row && is_past wanted.kind wanted.after row

-- The first rows by key that a lookup asks for, at most `limit` of them.
abbrev pub answer_to_wanted : ℕ → List RowView → Wanted → List RowView
answer_to_wanted limit rows wanted = take limit (filter (is_wanted wanted) rows)

-- The pattern for an end.
abbrev pub pattern_at : End → Wanted → ℕ
pattern_at First wanted = isd_as_number wanted.start
pattern_at Last wanted = isd_as_number wanted.end

-- The number by which an index has each row that a lookup asks for.
pub record AllHave (by : By) (wanted : Wanted) (number : ℕ) : Type 0 where
  pub each : (row : RowView) → is_wanted wanted row ≡ true → is_of (index_number by row.1.entries) number ≡ true
  -- It is not the greatest number of 64 bits.
  pub next : number + 1 < 2 ^ 64
