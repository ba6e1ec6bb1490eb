-- The counts of an outcome.
use Rattle.std.specs.Prelude.{ℕ, ◌+◌, ◌-◌, ◌^◌, min, List, count_by, Bool, true, false}
use Rattle.row_map.specs.declared.change.Change.{Change}
use Rattle.row_map.specs.declared.change.Change.TheVariants.{Inserted, Updated, Kept}
use Rattle.path_db.specs.declared.outcome.Outcome.{Outcome}

-- A count, or 2^32 - 1 for a greater one.
abbrev pub capped : ℕ → ℕ
capped n = min n (2 ^ 32 - 1)

-- A put added a row.
abbrev pub is_inserted : Change → Bool
is_inserted Inserted = true
is_inserted Updated = false
is_inserted Kept = false

-- A put replaced a row.
abbrev pub is_updated : Change → Bool
is_updated Inserted = false
is_updated Updated = true
is_updated Kept = false

-- A put kept the row that was there.
abbrev pub is_kept : Change → Bool
is_kept Inserted = false
is_kept Updated = false
is_kept Kept = true

-- The outcome of several puts, given what each did.
abbrev pub outcome_of_puts : List Change → Outcome
outcome_of_puts changes = record {
  inserted = capped (count_by is_inserted changes);
  updated = capped (count_by is_updated changes);
  kept = capped (count_by is_kept changes);
  purged = 0;
}

-- The outcome of dropping n rows.
abbrev pub outcome_of_drops : ℕ → Outcome
outcome_of_drops n = record { inserted = 0; updated = 0; kept = 0; purged = capped n }

-- The outcome with one more put.
abbrev pub outcome_after : Change → Outcome → Outcome
outcome_after Inserted outcome = record outcome { inserted = capped (outcome.inserted + 1) }
outcome_after Updated outcome = record outcome { updated = capped (outcome.updated + 1) }
outcome_after Kept outcome = record outcome { kept = capped (outcome.kept + 1) }
