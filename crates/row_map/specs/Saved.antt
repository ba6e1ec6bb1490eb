-- The rows under keys before puts, and how they are put back.
use Rattle.std.specs.Prelude.{◌≡◌, ℕ, List, ◌++◌, Bool, true, false, Option, Some, None, IsSome, if◌then◌else◌}
use Rattle.std.specs.List.{AllByRecursion, list_any}
use Rattle.std.specs.Option.{option_map}
use Rattle.std.specs.Ordering.{nat_cmp, is_eq}
use Rattle.std.specs.Cmp.Lexicographic.{slice_cmp}
use Rattle.row_map.specs.declared.row_puts.Saved.{Saved}
use Rattle.row_map.specs.Database.{RowView, key, IsRising, row_under}
use Rattle.row_map.specs.Put.{is_newer, database_after_puts}
use Rattle.row_map.specs.Row.{row_view}

-- A key, and the row that was under it.
abbrev pub Stood : Type 0
Stood = List ℕ × Option RowView

-- A saved row as contracts see it.
abbrev pub saved_view : Saved → Stood
saved_view saved = (key saved.kind saved.id, option_map row_view saved.row)

-- A put of the row takes effect: there is no row under its key, or an older one.
abbrev pub wins : RowView → Option RowView → Bool
wins row None = true
wins row (Some old) = is_newer row old

-- The first ones of the new rows were put.
pub record AreFirstPut (old new now : List RowView) : Type 0 where
  -- The rows that were put.
  pub part : List RowView
  -- The rows that were not put.
  pub rest : List RowView
  pub parts : new ≡ part ++ rest
  pub put : now ≡ database_after_puts old part

-- Two keys are the same.
abbrev pub is_key : List ℕ → List ℕ → Bool
is_key k l = is_eq (slice_cmp nat_cmp k l)

-- The row under the key is what it was, where a row is there now if one was there before. All other
-- rows are unchanged.
abbrev pub PutsBack : Stood → List RowView → List RowView → Type 0
PutsBack stood old new =
    (orig : List RowView) → stood.1 ≡ row_under stood.0 orig → (IsSome stood.1 → IsSome (row_under stood.0 old))
    → (k : List ℕ) → row_under k new ≡ (if is_key k stood.0 then stood.1 else row_under k old)

-- One of the saved rows is that of this key.
abbrev pub is_saved : List Stood → List ℕ → Bool
is_saved saved k = list_any (λ stood. is_key k stood.0) saved

-- What is left to put back.
pub record IsLeft (orig : List RowView) (saved : List Stood) (now : List RowView) : Type 0 where
  -- Each saved row is the original one under its key.
  pub stood : AllByRecursion (λ stood. stood.1 ≡ row_under stood.0 orig) saved
  -- The row under each other key is the original one.
  pub others : (k : List ℕ) → is_saved saved k ≡ false → row_under k now ≡ row_under k orig
  -- Each key with an original row has a row now.
  pub there : (k : List ℕ) → IsSome (row_under k orig) → IsSome (row_under k now)

-- Of what was left to put back before, this is left now.
abbrev pub IsRestoring : List Stood → List RowView → List Stood → List RowView → Type 0
IsRestoring saved old left now = (orig : List RowView) → IsLeft orig saved old → IsLeft orig left now

-- Once what is saved is put back, the rows are the original ones, where the keys rise.
abbrev pub RestoresFrom : List Stood → List RowView → List RowView → Type 0
RestoresFrom saved now after = (orig : List RowView) → IsRising orig → IsRising now → IsLeft orig saved now → after ≡ orig
