-- The rows that are found under keys, put into no rows, are there under the keys: for `planner`.
use Rattle.std.proofs.Common.{◌≡◌, ℕ, Bool, true, false, List, [], ◌∷◌, if◌then◌else◌, Some, None, refl, sym, ap, ◌∙◌, subst}
use Rattle.std.specs.Prelude.{Option}
use Rattle.std.specs.List.{AllByRecursion}
use Rattle.std.specs.Ordering.{is_eq}
use Rattle.std.specs.declared.cmp.Ordering.{Ordering}
use Rattle.std.specs.declared.cmp.Ordering.TheVariants.{Less, Equal, Greater}
use Rattle.std.proofs.lemmas.Map.Lookups.{exact_bytes}
use Rattle.row_map.specs.Database.{RowView, key_of, is_under, row_under, IsRising}
use Rattle.row_map.specs.Left.{winner, left_by_puts}
use Rattle.ckpt_stream.specs.Merging.{order_of, has_key, KeysRise}
use Rattle.ckpt_stream.specs.Found.{found_by_order, found_up_to, rows_found}
use Rattle.ckpt_stream.proofs.Keys.{same_key, its_key, turned_greater, RowsAbove, not_above, none_above, keys_above, rows_above}

-- ---- what all rows are, those found are

module _ (P : RowView → Type 0) where
  abbrev AllAre : List RowView → Type 0
  AllAre rows = AllByRecursion P rows

  module _ (row : RowView) (more : List (List ℕ) → List RowView) (is : P row) (are : (ks : List (List ℕ)) → AllAre (more ks)) where
    by_order_are : (o : Ordering) (k : List ℕ) (ks : List (List ℕ)) (below : List RowView) → AllAre below → AllAre (found_by_order o row more k ks below)
    by_order_are Less k ks below all = all
    by_order_are Equal k ks below all = (is, are ks)
    by_order_are Greater k ks below all = are (k ∷ ks)

    up_to_are : (ks : List (List ℕ)) → AllAre (found_up_to row more ks)
    up_to_are [] = are []
    up_to_are (k ∷ ks) = by_order_are (order_of k (key_of row)) k ks (found_up_to row more ks) (up_to_are ks)

  found_are : (rows : List RowView) (ks : List (List ℕ)) → AllAre rows → AllAre (rows_found ks rows)
  found_are [] ks all = tt
  found_are (row ∷ rows) ks all = up_to_are row (λ ls. rows_found ls rows) all.0 (λ ls. found_are rows ls all.1) ks

-- rows of other keys leave what was found under a key
others_leave_it : (q : List ℕ) (found : Option RowView) (rows : List RowView) → AllByRecursion (λ row. is_under q row ≡ false) rows → left_by_puts q found rows ≡ found
others_leave_it q found [] none = refl
others_leave_it q found (row ∷ rows) none =
    ap (λ (b : Bool). left_by_puts q (if b then Some (winner row found) else found) rows) none.0 ∙ others_leave_it q found rows none.1

above_are_others : (q : List ℕ) (rows : List RowView) → RowsAbove q rows → AllByRecursion (λ row. is_under q row ≡ false) rows
above_are_others q [] above = tt
above_are_others q (row ∷ rows) above = (ap is_eq above.0, above_are_others q rows above.1)

-- ---- what is put of the rows found

module _ (q : List ℕ) where
  abbrev Puts : List (List ℕ) → List RowView → List RowView → Type 0
  Puts ks rows found = left_by_puts q None found ≡ (if has_key ks q then row_under q rows else None)

  module _ (row : RowView) (rows : List RowView) (rising : IsRising (row ∷ rows)) (more_puts : (ks : List (List ℕ)) → KeysRise ks → Puts ks rows (rows_found ks rows)) where
    -- a key below the row
    at_less : (b : Bool) (k : List ℕ) (ks : List (List ℕ)) → is_eq (order_of q k) ≡ b → order_of k (key_of row) ≡ Less → KeysRise (k ∷ ks)
        → (if has_key ks q then row_under q (row ∷ rows) else None) ≡ (if (if b then true else has_key ks q) then row_under q (row ∷ rows) else None)
    at_less true k ks is order rise =
        let same = same_key q k is in
        ap (λ (b : Bool). if b then row_under q (row ∷ rows) else None) (subst (λ (l : List ℕ). has_key ks l ≡ false) (sym same) (not_above k ks rise.0))
        ∙ sym (subst (λ (l : List ℕ). row_under l (row ∷ rows) ≡ None) (sym same) (none_above k (row ∷ rows) (order, rows_above k (key_of row) rows order rising.0)))
    at_less false k ks is order rise = refl

    -- the key of the row
    at_equal : (b : Bool) (ks : List (List ℕ)) → is_under q row ≡ b → KeysRise ks
        → left_by_puts q (if b then Some row else None) (rows_found ks rows)
        ≡ (if (if b then true else has_key ks q) then (if b then Some row else row_under q rows) else None)
    at_equal true ks under rise =
        others_leave_it q (Some row) (rows_found ks rows)
        (found_are (λ other. is_under q other ≡ false) rows ks
        (above_are_others q rows (subst (λ (l : List ℕ). RowsAbove l rows) (sym (its_key q row under)) rising.0)))
    at_equal false ks under rise = more_puts ks rise

    -- a key above the row
    at_greater : (b : Bool) (k : List ℕ) (ks : List (List ℕ)) → is_under q row ≡ b → order_of k (key_of row) ≡ Greater → KeysRise (k ∷ ks)
        → (if has_key (k ∷ ks) q then row_under q rows else None) ≡ (if has_key (k ∷ ks) q then (if b then Some row else row_under q rows) else None)
    at_greater true k ks under order rise =
        let over = turned_greater k (key_of row) order in
        let none : has_key (k ∷ ks) q ≡ false =
        subst (λ (l : List ℕ). has_key (k ∷ ks) l ≡ false) (sym (its_key q row under)) (not_above (key_of row) (k ∷ ks) (over, keys_above (key_of row) k ks over rise.0)) in
        ap (λ (b : Bool). if b then row_under q rows else None) none ∙ ap (λ (b : Bool). if b then Some row else None) (sym none)
    at_greater false k ks under order rise = refl

    by_puts : (o : Ordering) (k : List ℕ) (ks : List (List ℕ)) (below : List RowView) → order_of k (key_of row) ≡ o → KeysRise (k ∷ ks) → Puts ks (row ∷ rows) below
        → Puts (k ∷ ks) (row ∷ rows) (found_by_order o row (λ ls. rows_found ls rows) k ks below)
    by_puts Less k ks below order rise is = is ∙ at_less (is_eq (order_of q k)) k ks refl order rise
    by_puts Equal k ks below order rise is =
        at_equal (is_under q row) ks refl rise.1
        ∙ ap (λ (l : List ℕ). if (if is_eq (order_of q l) then true else has_key ks q) then row_under q (row ∷ rows) else None) (sym (exact_bytes k (key_of row) order))
    by_puts Greater k ks below order rise is = more_puts (k ∷ ks) rise ∙ at_greater (is_under q row) k ks refl order rise

    up_puts : (ks : List (List ℕ)) → KeysRise ks → Puts ks (row ∷ rows) (rows_found ks (row ∷ rows))
    up_puts [] rise = more_puts [] tt
    up_puts (k ∷ ks) rise = by_puts (order_of k (key_of row)) k ks (rows_found ks (row ∷ rows)) refl rise (up_puts ks rise.1)

  pub found_puts : (rows : List RowView) (ks : List (List ℕ)) → KeysRise ks → IsRising rows → Puts ks rows (rows_found ks rows)
  found_puts [] ks rise rising = nothing (has_key ks q)
    where
      nothing : (b : Bool) → None ≡ (if b then row_under q [] else None)
      nothing true = refl
      nothing false = refl
  found_puts (row ∷ rows) ks rise rising = up_puts row rows rising (λ ls is. found_puts rows ls is rising.1) ks rise
