-- The rows that are under keys. Rows and keys are both in the order of the keys.
use Rattle.std.specs.Prelude.{ℕ, List, [], ◌∷◌}
use Rattle.std.specs.declared.cmp.Ordering.{Ordering}
use Rattle.std.specs.declared.cmp.Ordering.TheVariants.{Less, Equal, Greater}
use Rattle.row_map.specs.Database.{RowView, key_of}
use Rattle.ckpt_stream.specs.Merging.{order_of}

-- The rows found for one key and one row, by how the key compares to the row's key: the row is
-- found where they are equal. `more` is what is found after the row, by the keys that are left, and
-- `below` is what is found by the keys after this one.
abbrev pub found_by_order : Ordering → RowView → (List (List ℕ) → List RowView) → List ℕ → List (List ℕ) → List RowView → List RowView
found_by_order Less row more k ks below = below
found_by_order Equal row more k ks below = row ∷ more ks
found_by_order Greater row more k ks below = more (k ∷ ks)

-- The rows found by the keys up to a row's key, and then those found after the row.
abbrev pub found_up_to : RowView → (List (List ℕ) → List RowView) → List (List ℕ) → List RowView
found_up_to row more [] = more []
found_up_to row more (k ∷ ks) = found_by_order (order_of k (key_of row)) row more k ks (found_up_to row more ks)

-- The rows whose keys are in the list of keys.
abbrev pub rows_found : List (List ℕ) → List RowView → List RowView
rows_found keys [] = []
rows_found keys (row ∷ rows) = found_up_to row (λ ks. rows_found ks rows) keys
