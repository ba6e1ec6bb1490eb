-- Keys and the rows under them.
use Rattle.std.proofs.Common.{◌≡◌, ℕ, Bool, true, false, List, [], ◌∷◌, if◌then◌else◌, Some, None, refl, ap, ◌∙◌}
use Rattle.std.specs.Prelude.{Option}
use Rattle.std.specs.List.{AllByRecursion}
use Rattle.std.specs.Ordering.{is_eq, ordering_reverse}
use Rattle.std.specs.declared.cmp.Ordering.{Ordering}
use Rattle.std.specs.declared.cmp.Ordering.TheVariants.{Less, Equal, Greater}
use Rattle.std.proofs.lemmas.Bool.{false≢true}
use Rattle.std.proofs.lemmas.Cmp.{nat_list_cmp_total, tied_itself}
use Rattle.std.proofs.lemmas.Map.Lookups.{exact_bytes}
use Rattle.row_map.specs.Database.{RowView, key_of, is_under, row_under}
use Rattle.ckpt_stream.specs.Merging.{order_of, has_key}

equal_from : (o : Ordering) → is_eq o ≡ true → o ≡ Equal
equal_from Less e = absurd (false≢true e)
equal_from Equal e = refl
equal_from Greater e = absurd (false≢true e)

pub same_key : (k l : List ℕ) → is_eq (order_of k l) ≡ true → k ≡ l
same_key k l e = exact_bytes k l (equal_from (order_of k l) e)

pub itself : (k : List ℕ) → is_eq (order_of k k) ≡ true
itself k = ap is_eq (tied_itself nat_list_cmp_total k)

pub less_trans : (a b c : List ℕ) → order_of a b ≡ Less → order_of b c ≡ Less → order_of a c ≡ Less
less_trans a b c e f = nat_list_cmp_total.trans a b c e f

pub turned_greater : (a b : List ℕ) → order_of a b ≡ Greater → order_of b a ≡ Less
turned_greater a b e = nat_list_cmp_total.antisymm b a ∙ ap ordering_reverse e

-- keys, and rows, that are all above a key
abbrev pub KeysAbove : List ℕ → List (List ℕ) → Type 0
KeysAbove k ks = AllByRecursion (λ l. order_of k l ≡ Less) ks

abbrev pub RowsAbove : List ℕ → List RowView → Type 0
RowsAbove k rows = AllByRecursion (λ row. order_of k (key_of row) ≡ Less) rows

pub not_above : (k : List ℕ) (ks : List (List ℕ)) → KeysAbove k ks → has_key ks k ≡ false
not_above k [] above = refl
not_above k (l ∷ ks) above = ap (λ (o : Ordering). if is_eq o then true else has_key ks k) above.0 ∙ not_above k ks above.1

pub none_above : (k : List ℕ) (rows : List RowView) → RowsAbove k rows → row_under k rows ≡ None
none_above k [] above = refl
none_above k (row ∷ rows) above = ap (λ (o : Ordering). if is_eq o then Some row else row_under k rows) above.0 ∙ none_above k rows above.1

pub keys_above : (a b : List ℕ) (ks : List (List ℕ)) → order_of a b ≡ Less → KeysAbove b ks → KeysAbove a ks
keys_above a b [] e above = tt
keys_above a b (k ∷ ks) e above = (less_trans a b k e above.0, keys_above a b ks e above.1)

pub rows_above : (a b : List ℕ) (rows : List RowView) → order_of a b ≡ Less → RowsAbove b rows → RowsAbove a rows
rows_above a b [] e above = tt
rows_above a b (row ∷ rows) e above = (less_trans a b (key_of row) e above.0, rows_above a b rows e above.1)

-- what was found under a key is under it
abbrev pub IsOf : List ℕ → Option RowView → Type 0
IsOf k None = Unit {0}
IsOf k (Some row) = is_under k row ≡ true

pub its_key : (k : List ℕ) (row : RowView) → is_under k row ≡ true → k ≡ key_of row
its_key k row e = same_key k (key_of row) e

first_of : (b : Bool) (k : List ℕ) (row : RowView) (rows : List RowView) → is_under k row ≡ b → IsOf k (row_under k rows) → IsOf k (if b then Some row else row_under k rows)
first_of true k row rows e later = e
first_of false k row rows e later = later

pub found_of : (k : List ℕ) (rows : List RowView) → IsOf k (row_under k rows)
found_of k [] = tt
found_of k (row ∷ rows) = first_of (is_under k row) k row rows refl (found_of k rows)
