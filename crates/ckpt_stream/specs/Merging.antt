-- The rows after commands, key by key in the order of the keys: the keys of the rows before, and
-- those that the commands name.
use Rattle.std.specs.Prelude.{◌≡◌, ℕ, List, [], ◌∷◌, ◌++◌, map, Bool, true, false, Option, if◌then◌else◌}
use Rattle.std.specs.List.{AllByRecursion}
use Rattle.std.specs.Option.{option_to_list}
use Rattle.std.specs.Ordering.{nat_cmp, is_eq}
use Rattle.std.specs.Cmp.Lexicographic.{slice_cmp}
use Rattle.std.specs.declared.cmp.Ordering.{Ordering}
use Rattle.std.specs.declared.cmp.Ordering.TheVariants.{Less, Equal, Greater}
use Rattle.path_db.specs.declared.command.Command.{Command}
use Rattle.path_db.specs.declared.command.Command.TheVariants.{Register, Purge, Remove}
use Rattle.row_map.specs.Database.{RowView, key, key_of}
use Rattle.row_map.specs.Drops.{is_valid_beyond}

-- The order of two keys, which is that of their bytes.
abbrev pub order_of : List ℕ → List ℕ → Ordering
order_of k l = slice_cmp nat_cmp k l

-- The keys that a command names: those of the rows that it registers, or the one that it removes.
abbrev pub keys_named : Command → List (List ℕ)
keys_named (Register new) = map key_of new
keys_named (Purge moment) = []
keys_named (Remove kind id) = key kind id ∷ []

-- The keys that commands name, in the order in which they name them.
abbrev pub keys_named_by : List Command → List (List ℕ)
keys_named_by [] = []
keys_named_by (command ∷ commands) = keys_named command ++ keys_named_by commands

-- A key is in a list of keys.
abbrev pub has_key : List (List ℕ) → List ℕ → Bool
has_key [] k = false
has_key (l ∷ ks) k = if is_eq (order_of k l) then true else has_key ks k

-- Each key is strictly below all those after it.
abbrev pub KeysRise : List (List ℕ) → Type 0
KeysRise [] = Unit {0}
KeysRise (k ∷ ks) = AllByRecursion (λ l. order_of k l ≡ Less) ks × KeysRise ks

-- Every key of the second list is in the first.
abbrev pub Includes : List (List ℕ) → List (List ℕ) → Type 0
Includes keys named = (k : List ℕ) → has_key named k ≡ true → has_key keys k ≡ true

-- A command is no purge that drops the row.
abbrev pub outlives_one : Command → RowView → Bool
outlives_one (Register new) row = true
outlives_one (Purge moment) row = is_valid_beyond moment row
outlives_one (Remove kind id) row = true

-- No purge among commands drops the row.
abbrev pub outlives : List Command → RowView → Bool
outlives [] row = true
outlives (Register new ∷ commands) row = outlives commands row
outlives (Purge moment ∷ commands) row = if is_valid_beyond moment row then outlives commands row else false
outlives (Remove kind id ∷ commands) row = outlives commands row

-- A row in a list, where it passes a test; else no row.
abbrev pub one_if : (RowView → Bool) → RowView → List RowView
one_if p row = if p row then row ∷ [] else []

-- The merge of one key and one row of before, by how the key compares to the row's key. A key below
-- the row's comes first, with the row that is left under it. An equal key replaces the row by the
-- one that is left. Before a greater key comes the row, where it passes the test. `more` is what
-- comes after the row, of the keys that are left, and `below` is what comes after the key.
abbrev pub by_order : Ordering → (List ℕ → Option RowView) → (RowView → Bool) → RowView → (List (List ℕ) → List RowView) → List ℕ → List (List ℕ) → List RowView → List RowView
by_order Less left p row more k ks below = option_to_list (left k) ++ below
by_order Equal left p row more k ks below = option_to_list (left k) ++ more ks
by_order Greater left p row more k ks below = one_if p row ++ more (k ∷ ks)

-- The merge of the keys up to a row's key with this row, and then what comes after the row.
abbrev pub up_to_row : (List ℕ → Option RowView) → (RowView → Bool) → RowView → (List (List ℕ) → List RowView) → List (List ℕ) → List RowView
up_to_row left p row more [] = one_if p row ++ more []
up_to_row left p row more (k ∷ ks) = by_order (order_of k (key_of row)) left p row more k ks (up_to_row left p row more ks)

-- The rows that are left under keys, in the order of the keys.
abbrev pub rows_left : (List ℕ → Option RowView) → List (List ℕ) → List RowView
rows_left left [] = []
rows_left left (k ∷ ks) = option_to_list (left k) ++ rows_left left ks

-- The rows of before merged with the rows that are left under keys. Under each of the keys is the
-- row that is left there, and under any other key the row of before where it passes the test, all
-- in the order of the keys.
abbrev pub merged : (List ℕ → Option RowView) → (RowView → Bool) → List (List ℕ) → List RowView → List RowView
merged left p keys [] = rows_left left keys
merged left p keys (row ∷ rows) = up_to_row left p row (λ ks. merged left p ks rows) keys
