-- The merge is the fold: for `laws`.
use Rattle.std.proofs.Common.{◌≡◌, ℕ, Bool, true, false, List, [], ◌∷◌, ◌++◌, if◌then◌else◌, Some, None, refl, sym, ap, ◌∙◌, subst}
use Rattle.std.specs.Prelude.{Option}
use Rattle.std.specs.List.{AllByRecursion}
use Rattle.std.specs.Option.{option_to_list}
use Rattle.std.specs.Ordering.{is_eq}
use Rattle.std.specs.declared.cmp.Ordering.{Ordering}
use Rattle.std.specs.declared.cmp.Ordering.TheVariants.{Less, Equal, Greater}
use Rattle.std.proofs.lemmas.Bool.{false≢true}
use Rattle.std.proofs.lemmas.Map.Lookups.{exact_bytes}
use Rattle.path_db.specs.declared.command.Command.{Command}
use Rattle.row_map.specs.Database.{RowView, key_of, is_under, row_under, IsRising, IsDatabase}
use Rattle.path_db.specs.Command.{database_after, database_after_all, HasWholeSegments}
use Rattle.path_db.specs.CommandLaws.{KeysAreSeparate, CommandsKeepDatabase, DatabaseIsCanonical}
use Rattle.row_map.specs.Left.{kept_if}
use Rattle.ckpt_stream.specs.Merging.{order_of, keys_named_by, has_key, KeysRise, Includes, outlives, one_if, by_order, up_to_row, rows_left, merged}
use Rattle.ckpt_stream.specs.Laws.{left_of, AreUnder}
use Rattle.ckpt_stream.proofs.Keys.{same_key, turned_greater, KeysAbove, RowsAbove, not_above, none_above, keys_above, rows_above, IsOf, its_key, found_of}
use Rattle.ckpt_stream.proofs.Untouched.{unnamed, left_of_key}

-- ---- what is under a key

-- after what is left under a key, if anything is
under_left : (q k : List ℕ) (found : Option RowView) (rest : List RowView) (later : Option RowView) (b : Bool) → is_eq (order_of q k) ≡ b → IsOf k found
    → row_under q rest ≡ later → (q ≡ k → later ≡ None) → row_under q (option_to_list found ++ rest) ≡ (if b then found else later)
under_left q k None rest later true e of is same = is ∙ same (same_key q k e)
under_left q k None rest later false e of is same = is
under_left q k (Some row) rest later true e of is same =
    ap (λ (b : Bool). if b then Some row else row_under q rest) (ap (λ (l : List ℕ). is_eq (order_of q l)) (sym (its_key k row of)) ∙ e)
under_left q k (Some row) rest later false e of is same =
    ap (λ (b : Bool). if b then Some row else row_under q rest) (ap (λ (l : List ℕ). is_eq (order_of q l)) (sym (its_key k row of)) ∙ e) ∙ is

-- one key more, or the others
pick : (left : List ℕ → Option RowView) (q k : List ℕ) (others : Bool) (one other : Option RowView) (b : Bool) → is_eq (order_of q k) ≡ b → (b ≡ false → one ≡ other)
    → (if b then left k else (if others then left q else one)) ≡ (if (if b then true else others) then left q else other)
pick left q k others one other true e same = ap left (sym (same_key q k e))
pick left q k others one other false e same = ap (λ (o : Option RowView). if others then left q else o) (same refl)

-- a row of before, if it passes
row_first : (q : List ℕ) (p : RowView → Bool) (row : RowView) (rows rest : List RowView) (b c : Bool) → is_under q row ≡ b → p row ≡ c → RowsAbove (key_of row) rows
    → row_under q rest ≡ kept_if p (row_under q rows) → row_under q ((if c then row ∷ [] else []) ++ rest) ≡ kept_if p (if b then Some row else row_under q rows)
row_first q p row rows rest true true under passes above is =
    ap (λ (b : Bool). if b then Some row else row_under q rest) under ∙ ap (λ (b : Bool). if b then Some row else None) (sym passes)
row_first q p row rows rest false true under passes above is = ap (λ (b : Bool). if b then Some row else row_under q rest) under ∙ is
row_first q p row rows rest true false under passes above is =
    is ∙ ap (kept_if p) (subst (λ (l : List ℕ). row_under l rows ≡ None) (sym (its_key q row under)) (none_above (key_of row) rows above))
    ∙ ap (λ (b : Bool). if b then Some row else None) (sym passes)
row_first q p row rows rest false false under passes above is = is

-- and one that is not under the key
row_passed : (q : List ℕ) (row : RowView) (rest : List RowView) (c : Bool) → is_under q row ≡ false → row_under q ((if c then row ∷ [] else []) ++ rest) ≡ row_under q rest
row_passed q row rest true under = ap (λ (b : Bool). if b then Some row else row_under q rest) under
row_passed q row rest false under = refl

module _ (q : List ℕ) (left : List ℕ → Option RowView) (p : RowView → Bool) (of : (k : List ℕ) → IsOf k (left k)) where
  abbrev Finds : List (List ℕ) → List RowView → List RowView → Type 0
  Finds ks rows all = row_under q all ≡ (if has_key ks q then left q else kept_if p (row_under q rows))

  left_found : (ks : List (List ℕ)) → KeysRise ks → Finds ks [] (rows_left left ks)
  left_found [] rise = refl
  left_found (k ∷ ks) rise =
      under_left q k (left k) (rows_left left ks) (if has_key ks q then left q else None) (is_eq (order_of q k)) refl (of k) (left_found ks rise.1)
      (λ same. ap (λ (b : Bool). if b then left q else None) (subst (λ (l : List ℕ). has_key ks l ≡ false) (sym same) (not_above k ks rise.0)))
      ∙ pick left q k (has_key ks q) None None (is_eq (order_of q k)) refl (λ is. refl)

  module _ (row : RowView) (rows : List RowView) (rising : IsRising (row ∷ rows)) (more_found : (ks : List (List ℕ)) → KeysRise ks → Finds ks rows (merged left p ks rows)) where
    abbrev more : List (List ℕ) → List RowView
    more ks = merged left p ks rows

    above_found : (b : Bool) (k : List ℕ) (ks : List (List ℕ)) → is_under q row ≡ b → order_of k (key_of row) ≡ Greater → KeysRise (k ∷ ks)
        → Finds (k ∷ ks) (row ∷ rows) (one_if p row ++ more (k ∷ ks))
    above_found true k ks under order rise =
        let below : KeysAbove (key_of row) (k ∷ ks) = (turned_greater k (key_of row) order, keys_above (key_of row) k ks (turned_greater k (key_of row) order) rise.0) in
        let none : has_key (k ∷ ks) q ≡ false = subst (λ (l : List ℕ). has_key (k ∷ ks) l ≡ false) (sym (its_key q row under)) (not_above (key_of row) (k ∷ ks) below) in
        row_first q p row rows (more (k ∷ ks)) (is_under q row) (p row) refl refl rising.0
        (more_found (k ∷ ks) rise ∙ ap (λ (b : Bool). if b then left q else kept_if p (row_under q rows)) none)
        ∙ ap (λ (b : Bool). if b then left q else kept_if p (row_under q (row ∷ rows))) (sym none)
    above_found false k ks under order rise =
        row_passed q row (more (k ∷ ks)) (p row) under ∙ more_found (k ∷ ks) rise
        ∙ ap (λ (b : Bool). if has_key (k ∷ ks) q then left q else kept_if p (if b then Some row else row_under q rows)) (sym under)

    by_found : (o : Ordering) (k : List ℕ) (ks : List (List ℕ)) (below : List RowView) → order_of k (key_of row) ≡ o → KeysRise (k ∷ ks) → Finds ks (row ∷ rows) below
        → Finds (k ∷ ks) (row ∷ rows) (by_order o left p row more k ks below)
    by_found Less k ks below order rise is =
        let other = kept_if p (row_under q (row ∷ rows)) in
        under_left q k (left k) below (if has_key ks q then left q else other) (is_eq (order_of q k)) refl (of k) is
        (λ same.
        ap (λ (b : Bool). if b then left q else other) (subst (λ (l : List ℕ). has_key ks l ≡ false) (sym same) (not_above k ks rise.0))
        ∙ ap (kept_if p) (subst (λ (l : List ℕ). row_under l (row ∷ rows) ≡ None) (sym same) (none_above k (row ∷ rows) (order, rows_above k (key_of row) rows order rising.0))))
        ∙ pick left q k (has_key ks q) other other (is_eq (order_of q k)) refl (λ is. refl)
    by_found Equal k ks below order rise is =
        let one = kept_if p (row_under q rows) in
        let other = kept_if p (row_under q (row ∷ rows)) in
        let itsown : k ≡ key_of row = exact_bytes k (key_of row) order in
        under_left q k (left k) (more ks) (if has_key ks q then left q else one) (is_eq (order_of q k)) refl (of k) (more_found ks rise.1)
        (λ same.
        ap (λ (b : Bool). if b then left q else one) (subst (λ (l : List ℕ). has_key ks l ≡ false) (sym same) (not_above k ks rise.0))
        ∙ ap (kept_if p) (subst (λ (l : List ℕ). row_under l rows ≡ None) (sym (same ∙ itsown)) (none_above (key_of row) rows rising.0)))
        ∙ pick left q k (has_key ks q) one other (is_eq (order_of q k)) refl
        (λ unlike. ap (λ (b : Bool). kept_if p (if b then Some row else row_under q rows)) (sym (ap (λ (l : List ℕ). is_eq (order_of q l)) (sym itsown) ∙ unlike)))
    by_found Greater k ks below order rise is = above_found (is_under q row) k ks refl order rise

    up_found : (ks : List (List ℕ)) → KeysRise ks → Finds ks (row ∷ rows) (up_to_row left p row more ks)
    up_found [] rise = row_first q p row rows (more []) (is_under q row) (p row) refl refl rising.0 (more_found [] rise)
    up_found (k ∷ ks) rise = by_found (order_of k (key_of row)) k ks (up_to_row left p row more ks) refl rise (up_found ks rise.1)

  pub all_found : (rows : List RowView) (ks : List (List ℕ)) → KeysRise ks → IsRising rows → Finds ks rows (merged left p ks rows)
  all_found [] ks rise rising = left_found ks rise
  all_found (row ∷ rows) ks rise rising = up_found row rows rising (λ ls above. all_found rows ls above rising.1) ks rise

-- ---- the order

above_left : (x k : List ℕ) (found : Option RowView) (rest : List RowView) → IsOf k found → order_of x k ≡ Less → RowsAbove x rest → RowsAbove x (option_to_list found ++ rest)
above_left x k None rest of below above = above
above_left x k (Some row) rest of below above = (subst (λ (l : List ℕ). order_of x l ≡ Less) (its_key k row of) below, above)

above_one : (x : List ℕ) (row : RowView) (rest : List RowView) (c : Bool) → order_of x (key_of row) ≡ Less → RowsAbove x rest → RowsAbove x ((if c then row ∷ [] else []) ++ rest)
above_one x row rest true below above = (below, above)
above_one x row rest false below above = above

rising_left : (k : List ℕ) (found : Option RowView) (rest : List RowView) → IsOf k found → RowsAbove k rest → IsRising rest → IsRising (option_to_list found ++ rest)
rising_left k None rest of above rising = rising
rising_left k (Some row) rest of above rising = (subst (λ (l : List ℕ). RowsAbove l rest) (its_key k row of) above, rising)

rising_one : (row : RowView) (rest : List RowView) (c : Bool) → RowsAbove (key_of row) rest → IsRising rest → IsRising ((if c then row ∷ [] else []) ++ rest)
rising_one row rest true above rising = (above, rising)
rising_one row rest false above rising = rising

module _ (left : List ℕ → Option RowView) (p : RowView → Bool) (of : (k : List ℕ) → IsOf k (left k)) where
  left_above : (x : List ℕ) (ks : List (List ℕ)) → KeysAbove x ks → RowsAbove x (rows_left left ks)
  left_above x [] above = tt
  left_above x (k ∷ ks) above = above_left x k (left k) (rows_left left ks) (of k) above.0 (left_above x ks above.1)

  left_rises : (ks : List (List ℕ)) → KeysRise ks → IsRising (rows_left left ks)
  left_rises [] rise = tt
  left_rises (k ∷ ks) rise = rising_left k (left k) (rows_left left ks) (of k) (left_above k ks rise.0) (left_rises ks rise.1)

  module _ (row : RowView) (more : List (List ℕ) → List RowView) (x : List ℕ) (below_row : order_of x (key_of row) ≡ Less)
      (more_above : (ks : List (List ℕ)) → KeysAbove x ks → RowsAbove x (more ks)) where
    by_above : (o : Ordering) (k : List ℕ) (ks : List (List ℕ)) (below : List RowView) → KeysAbove x (k ∷ ks) → RowsAbove x below → RowsAbove x (by_order o left p row more k ks below)
    by_above Less k ks below above is = above_left x k (left k) below (of k) above.0 is
    by_above Equal k ks below above is = above_left x k (left k) (more ks) (of k) above.0 (more_above ks above.1)
    by_above Greater k ks below above is = above_one x row (more (k ∷ ks)) (p row) below_row (more_above (k ∷ ks) above)

    up_above : (ks : List (List ℕ)) → KeysAbove x ks → RowsAbove x (up_to_row left p row more ks)
    up_above [] above = above_one x row (more []) (p row) below_row (more_above [] above)
    up_above (k ∷ ks) above = by_above (order_of k (key_of row)) k ks (up_to_row left p row more ks) above (up_above ks above.1)

  all_above : (x : List ℕ) (rows : List RowView) (ks : List (List ℕ)) → KeysAbove x ks → RowsAbove x rows → RowsAbove x (merged left p ks rows)
  all_above x [] ks above over = left_above x ks above
  all_above x (row ∷ rows) ks above over = up_above row (λ ls. merged left p ls rows) x over.0 (λ ls its. all_above x rows ls its over.1) ks above

  module _ (row : RowView) (rows : List RowView) (rising : IsRising (row ∷ rows)) (more_rises : (ks : List (List ℕ)) → KeysRise ks → IsRising (merged left p ks rows)) where
    abbrev more_of : List (List ℕ) → List RowView
    more_of ks = merged left p ks rows

    by_rises : (o : Ordering) (k : List ℕ) (ks : List (List ℕ)) (below : List RowView) → order_of k (key_of row) ≡ o → KeysRise (k ∷ ks) → RowsAbove k below → IsRising below
        → IsRising (by_order o left p row more_of k ks below)
    by_rises Less k ks below order rise above is = rising_left k (left k) below (of k) above is
    by_rises Equal k ks below order rise above is =
        rising_left k (left k) (more_of ks) (of k)
        (all_above k rows ks rise.0 (subst (λ (l : List ℕ). RowsAbove l rows) (sym (exact_bytes k (key_of row) order)) rising.0)) (more_rises ks rise.1)
    by_rises Greater k ks below order rise above is =
        let over = turned_greater k (key_of row) order in
        rising_one row (more_of (k ∷ ks)) (p row)
        (all_above (key_of row) rows (k ∷ ks) (over, keys_above (key_of row) k ks over rise.0) rising.0) (more_rises (k ∷ ks) rise)

    below_or : (o : Ordering) (k : List ℕ) (ks : List (List ℕ)) → order_of k (key_of row) ≡ o → KeysRise (k ∷ ks) → IsRising (up_to_row left p row more_of ks)
        → IsRising (by_order o left p row more_of k ks (up_to_row left p row more_of ks))
    below_or Less k ks order rise is =
        by_rises Less k ks (up_to_row left p row more_of ks) order rise
        (up_above row more_of k order (λ ls its. all_above k rows ls its (rows_above k (key_of row) rows order rising.0)) ks rise.0) is
    below_or Equal k ks order rise is =
        rising_left k (left k) (more_of ks) (of k)
        (all_above k rows ks rise.0 (subst (λ (l : List ℕ). RowsAbove l rows) (sym (exact_bytes k (key_of row) order)) rising.0)) (more_rises ks rise.1)
    below_or Greater k ks order rise is =
        let over = turned_greater k (key_of row) order in
        rising_one row (more_of (k ∷ ks)) (p row)
        (all_above (key_of row) rows (k ∷ ks) (over, keys_above (key_of row) k ks over rise.0) rising.0) (more_rises (k ∷ ks) rise)

    up_rises : (ks : List (List ℕ)) → KeysRise ks → IsRising (up_to_row left p row more_of ks)
    up_rises [] rise = rising_one row (more_of []) (p row) (all_above (key_of row) rows [] tt rising.0) (more_rises [] tt)
    up_rises (k ∷ ks) rise = below_or (order_of k (key_of row)) k ks refl rise (up_rises ks rise.1)

  pub all_rises : (rows : List RowView) (ks : List (List ℕ)) → KeysRise ks → IsRising rows → IsRising (merged left p ks rows)
  all_rises [] ks rise rising = left_rises ks rise
  all_rises (row ∷ rows) ks rise rising = up_rises row rows rising (λ ls its. all_rises rows ls its rising.1) ks rise

-- ---- the fold

module _ (separate : KeysAreSeparate) (canonical : DatabaseIsCanonical) (keep : CommandsKeepDatabase) where
  after_all : (rows : List RowView) (commands : List Command) → IsDatabase rows → AllByRecursion HasWholeSegments commands → IsDatabase (database_after_all rows commands)
  unfolding database_after_all
  after_all rows [] is whole = is
  after_all rows (command ∷ commands) is whole = after_all (database_after rows command) commands (keep rows command is whole.0) whole.1

  module _ (rows : List RowView) (commands : List Command) (keys : List (List ℕ)) (is : IsDatabase rows) (whole : AllByRecursion HasWholeSegments commands)
      (rise : KeysRise keys) (covers : Includes keys (keys_named_by commands)) where
    abbrev left : List ℕ → Option RowView
    left = left_of rows commands

    of : (k : List ℕ) → IsOf k (left k)
    of k = left_of_key k (row_under k rows) commands (found_of k rows)

    not_named : (k : List ℕ) (b : Bool) → has_key keys k ≡ false → has_key (keys_named_by commands) k ≡ b → b ≡ false
    not_named k true none e = absurd (false≢true (sym none ∙ covers k e))
    not_named k false none e = refl

    so : (q : List ℕ) (b : Bool) → has_key keys q ≡ b → (if b then left q else kept_if (outlives commands) (row_under q rows)) ≡ left q
    so q true e = refl
    so q false e = sym (unnamed q (row_under q rows) commands (found_of q rows) (not_named q (has_key (keys_named_by commands) q) e refl))

    pub merges : merged left (outlives commands) keys rows ≡ database_after_all rows commands
    merges =
        canonical (merged left (outlives commands) keys rows) (database_after_all rows commands)
        (all_rises left (outlives commands) of rows keys rise is.rising)
        (after_all rows commands is whole).rising
        (λ q. all_found q left (outlives commands) of rows keys rise is.rising ∙ so q (has_key keys q) refl ∙ sym (separate q rows commands is.rising))

    -- where each row is under one of the keys
    module _ (all : AreUnder keys rows) where
      nothing : (q : List ℕ) (found : Option RowView) → row_under q rows ≡ found → has_key keys q ≡ false → found ≡ None
      nothing q None e none = refl
      nothing q (Some row) e none = absurd (false≢true (sym none ∙ all q row e))

      so_all : (q : List ℕ) (b : Bool) → has_key keys q ≡ b → (if b then left q else None) ≡ left q
      so_all q true e = refl
      so_all q false e =
          sym (unnamed q (row_under q rows) commands (found_of q rows) (not_named q (has_key (keys_named_by commands) q) e refl)
          ∙ ap (kept_if (outlives commands)) (nothing q (row_under q rows) refl e))

      pub keys_make : rows_left left keys ≡ database_after_all rows commands
      keys_make =
          canonical (rows_left left keys) (database_after_all rows commands)
          (left_rises left (outlives commands) of keys rise)
          (after_all rows commands is whole).rising
          (λ q. left_found q left (outlives commands) of keys rise ∙ so_all q (has_key keys q) refl ∙ sym (separate q rows commands is.rising))
