-- A row whose key is above all others, and an index of index rows: for `index_of`.
use Rattle.std.proofs.Common.{◌≡◌, ◌⊎◌, inl, inr, ℕ, Bool, true, false, ◌||◌, List, [], ◌∷◌, ◌++◌, if◌then◌else◌, Option, Some, None, refl, sym, ap, ◌∙◌, subst}
use Rattle.std.specs.List.{AllByRecursion}
use Rattle.std.specs.List.Sorted.{IsPermutation}
use Rattle.std.specs.Ordering.{is_eq}
use Rattle.std.specs.declared.cmp.Ordering.TheVariants.{Less}
use Rattle.std.proofs.lemmas.Bool.{false≢true}
use Rattle.std.proofs.lemmas.List.{append_assoc}
use Rattle.std.proofs.lemmas.List.Elements.{All-from_recursion, recursion_from_All}
use Rattle.std.proofs.lemmas.List.Folds.{list_any-append}
use Rattle.std.proofs.lemmas.List.Sorted.{All-permutation, IsPermutation-sym, IsPermutation-trans, IsPermutation-middle, IsPermutation-to_front, list_any-IsPermutation}
use Rattle.row_map.specs.IndexKey.{IndexKey, is_same, has, AreKnown}
use Rattle.row_map.specs.Database.{RowView, key_of, key_order, IsRising, is_under, row_under}
use Rattle.row_map.specs.RowMap.{indexed_key}
use Rattle.row_map.specs.EndKeys.{is_of, is_index_key, ends_at, stands, row_of_key, IsEndIndex, IsCurrent, IsRowOf, IsRowIndex}
use Rattle.row_map.proofs.Order.{AllAbove, turned_less}
use Rattle.row_map.proofs.Keys.{its_key, under_first}
use Rattle.row_map.proofs.Purged.{append_none, last_good}
use Rattle.row_map.proofs.IndexKeys.{EndOf, first_from, both_ways, same_if, same_from, one_index_key, index_key_same, all_of_keys}

-- ---- the first ones of rows

above_front : (low : RowView) (rows more : List RowView) → AllAbove low (rows ++ more) → AllAbove low rows
above_front low [] more all = tt
above_front low (row ∷ rows) more all = (all.0, above_front low rows more all.1)

rising_front : (rows more : List RowView) → IsRising (rows ++ more) → IsRising rows
rising_front [] more rising = tt
rising_front (row ∷ rows) more rising = (above_front row rows more rising.0, rising_front rows more rising.1)

-- ---- the last one

last_above : (low : RowView) (rows : List RowView) (row : RowView) → AllAbove low (rows ++ row ∷ []) → key_order low row ≡ Less
last_above low [] row all = all.0
last_above low (r ∷ rows) row all = last_above low rows row all.1

none_last : (rows : List RowView) (row : RowView) → IsRising (rows ++ row ∷ []) → row_under (key_of row) rows ≡ None
none_last [] row rising = refl
none_last (old ∷ rows) row rising =
    under_first (key_of row) old rows false (ap is_eq (turned_less old row (last_above old rows row rising.0))) ∙ none_last rows row rising.1

-- a key of both rows would be that of one row
under_first_or_last : (k : List ℕ) (old row : RowView) (rows : List RowView) (b c : Bool) → is_under k old ≡ b → is_under k row ≡ c → key_order old row ≡ Less
    → row_under k (rows ++ row ∷ []) ≡ (if c then Some row else row_under k rows) → (if b then Some old else row_under k (rows ++ row ∷ [])) ≡ (if c then Some row else (if b then Some old else row_under k rows))
under_first_or_last k old row rows true true e f below later =
    let both : is_under (key_of row) old ≡ true = subst (λ l. is_under l old ≡ true) (its_key k row f) e in
    absurd (false≢true (sym (ap is_eq (turned_less old row below)) ∙ both))
under_first_or_last k old row rows true false e f below later = refl
under_first_or_last k old row rows false c e f below later = later

under_last : (k : List ℕ) (rows : List RowView) (row : RowView) → IsRising (rows ++ row ∷ []) → row_under k (rows ++ row ∷ []) ≡ (if is_under k row then Some row else row_under k rows)
under_last k [] row rising = refl
under_last k (old ∷ rows) row rising =
    under_first_or_last k old row rows (is_under k old) (is_under k row) refl refl (last_above old rows row rising.0) (under_last k rows row rising.1)

-- ---- an index

-- the tests of an index key and of a row's index key are the same
same_key : (end : EndOf) (p q : IndexKey) (row : RowView) → is_index_key end p row ≡ true → is_same q p ≡ is_index_key end q row
same_key end p q row its = both_ways (is_same q p) (is_index_key end q row)
    (λ same. index_key_same end q p row (same_from q p same) ∙ its)
    (λ other. same_if q p (one_index_key end q p row other its))

index_last : (end : EndOf) (rows : List RowView) (row : RowView) (p : IndexKey) (index_keys : List IndexKey) → IsRising (rows ++ row ∷ []) → IsEndIndex end rows index_keys
    → is_index_key end p row ≡ true → IsEndIndex end (rows ++ row ∷ []) (index_keys ++ p ∷ [])
index_last end rows row p index_keys rising index its q =
    list_any-append (is_same q) index_keys (p ∷ []) ∙ turned (has index_keys q) (is_same q p)
    ∙ ap (λ b. b || has index_keys q) (same_key end p q row its) ∙ ap (λ b. is_index_key end q row || b) (index q) ∙ at_key (is_under (indexed_key q) row) refl
    ∙ ap (ends_at end q.isd_as) (sym (under_last (indexed_key q) rows row rising))
  where
    turned : (b c : Bool) → (b || (c || false)) ≡ (c || b)
    turned true true = refl
    turned true false = refl
    turned false true = refl
    turned false false = refl

    or_none : (b : Bool) → (b || false) ≡ b
    or_none true = refl
    or_none false = refl

    at_key : (b : Bool) → is_under (indexed_key q) row ≡ b
        → (is_index_key end q row || stands end rows q) ≡ ends_at end q.isd_as (if is_under (indexed_key q) row then Some row else row_under (indexed_key q) rows)
    at_key true e =
        let none : row_under (indexed_key q) rows ≡ None = subst (λ l. row_under l rows ≡ None) (sym (its_key (indexed_key q) row e)) (none_last rows row rising) in
        rw (e, none) (or_none (is_of (end row.1.entries) q.isd_as))
    at_key false e = rw e refl

-- the rows of the index keys before stay the same
module _ (end : EndOf) (rows : List RowView) (row : RowView) (before : List IndexKey) (rising : IsRising (rows ++ row ∷ [])) (index : IsEndIndex end rows before) where
  front_row : (q : IndexKey) (b : Bool) → is_under (indexed_key q) row ≡ b → has before q ≡ true → row_of_key (rows ++ row ∷ []) q ≡ row_of_key rows q
  front_row q true e there =
      let none : row_under (indexed_key q) rows ≡ None = subst (λ l. row_under l rows ≡ None) (sym (its_key (indexed_key q) row e)) (none_last rows row rising) in
      absurd (false≢true (sym (ap (ends_at end q.isd_as) none) ∙ sym (index q) ∙ there))
  front_row q false e there = under_last (indexed_key q) rows row rising ∙ ap (λ b. if b then Some row else row_under (indexed_key q) rows) e

  current_last : (p : IndexKey) → AllByRecursion (IsCurrent rows) before → IsRowOf end p row → AllByRecursion (IsCurrent (rows ++ row ∷ [])) (before ++ p ∷ [])
  current_last p current its =
      let under = first_from (is_under (indexed_key p) row) (is_of (end row.1.entries) p.isd_as) its.0 in
      let last : row_of_key (rows ++ row ∷ []) p ≡ Some row = under_last (indexed_key p) rows row rising ∙ ap (λ b. if b then Some row else row_under (indexed_key p) rows) under in
      last_good (IsCurrent (rows ++ row ∷ [])) before p
      (all_of_keys (IsCurrent rows) (IsCurrent (rows ++ row ∷ [])) before (λ q there is. is ∙ sym (front_row q (is_under (indexed_key q) row) refl there)) current)
      (its.1 ∙ sym last)

-- ---- all rows, one after the other

-- the index has the first ones of the rows, and the others are left
pub record HasIndexed (end : EndOf) (all left : List RowView) (index_keys : List IndexKey) : Type 0 where
  pub front : List RowView
  pub split : all ≡ front ++ left
  pub index : IsEndIndex end front index_keys
  pub current : AllByRecursion (IsCurrent front) index_keys

pub indexing_begins : (end : EndOf) (all : List RowView) → HasIndexed end all all []
indexing_begins end all = record { front = []; split = refl; index = λ q. refl; current = tt }

pub indexing_goes_on : (end : EndOf) (all left : List RowView) (row : RowView) (p : IndexKey) (index_keys : List IndexKey) → IsRising all → IsRowOf end p row → HasIndexed end all (row ∷ left) index_keys → HasIndexed end all left (index_keys ++ p ∷ [])
indexing_goes_on end all left row p index_keys rising its indexed =
    let parts = indexed.split ∙ sym (append_assoc indexed.front (row ∷ []) left) in
    let front = rising_front (indexed.front ++ row ∷ []) left (subst IsRising parts rising) in
    record {
      front = indexed.front ++ row ∷ [];
      split = parts;
      index = index_last end indexed.front row p index_keys front indexed.index its.0;
      current = current_last end indexed.front row index_keys front indexed.index p indexed.current its;
    }

pub indexing_ends : (end : EndOf) (all left : List RowView) (index_keys : List IndexKey) → left ≡ [] → HasIndexed end all left index_keys → IsRowIndex end all index_keys
indexing_ends end all left index_keys none indexed =
    let whole = sym (indexed.split ∙ ap (λ l. indexed.front ++ l) none ∙ append_none indexed.front) in
    record {
      keys = subst (λ rows. IsEndIndex end rows index_keys) whole indexed.index;
      current = subst (λ rows. AllByRecursion (IsCurrent rows) index_keys) whole indexed.current;
    }

-- ---- index rows in another order

all_permuted : (P : IndexKey → Type 0) (xs ys : List IndexKey) → IsPermutation xs ys → AllByRecursion P xs → AllByRecursion P ys
all_permuted P xs ys same all = recursion_from_All P ys (All-permutation P xs ys same (All-from_recursion P xs all))

pub row_index_permuted : (end : EndOf) (rows : List RowView) (xs ys : List IndexKey) → IsPermutation xs ys → IsRowIndex end rows xs → IsRowIndex end rows ys
row_index_permuted end rows xs ys same index = record {
  keys = λ q. sym (list_any-IsPermutation (is_same q) xs ys same) ∙ index.keys q;
  current = all_permuted (IsCurrent rows) xs ys same index.current;
}

-- an index and the index rows that are left have the index keys of the rows
pub record IsIndexWith (end : EndOf) (rows : List RowView) (left index_keys : List IndexKey) : Type 0 where
  pub keys : (q : IndexKey) → (has left q || has index_keys q) ≡ stands end rows q
  pub left_current : AllByRecursion (IsCurrent rows) left
  pub current : AllByRecursion (IsCurrent rows) index_keys

module _ (end : EndOf) (rows : List RowView) where
  pub all_added : (index_keys : List IndexKey) → IsIndexWith end rows [] index_keys → IsRowIndex end rows index_keys
  all_added index_keys all = record { keys = all.keys; current = all.current }

  left_permuted : (xs ys now : List IndexKey) → IsPermutation xs ys → IsIndexWith end rows xs now → IsIndexWith end rows ys now
  left_permuted xs ys now same all = record {
    keys = λ q. ap (λ b. b || has now q) (sym (list_any-IsPermutation (is_same q) xs ys same)) ∙ all.keys q;
    left_current = all_permuted (IsCurrent rows) xs ys same all.left_current;
    current = all.current;
  }

  -- the last one comes first
  last_first : (others left : List IndexKey) (p : IndexKey) → IsPermutation (others ++ (left ++ p ∷ [])) (p ∷ (others ++ left))
  last_first others left p = subst (λ l. IsPermutation l (p ∷ (others ++ left))) (append_assoc others left (p ∷ [])) (IsPermutation-to_front (others ++ left) p)

  first_added : (left now after : List IndexKey) (p : IndexKey) → ((q : IndexKey) → has after q ≡ (is_same q p || has now q))
      → ((known : IndexKey → Bool) (r : IndexKey → Option RowView) → AreKnown known r now → (known p ≡ true) ⊎ (p.row ≡ r p) → AreKnown known r after) → IsIndexWith end rows (p ∷ left) now → IsIndexWith end rows left after
  first_added left now after p added known all =
      let before : AreKnown (λ q. false) (row_of_key rows) now = all_of_keys (IsCurrent rows) (λ q. (false ≡ true) ⊎ (q.row ≡ row_of_key rows q)) now (λ q there is. inr is) all.current in
      record {
        keys = λ q. ap (λ b. has left q || b) (added q) ∙ moved (has left q) (is_same q p) (has now q) ∙ all.keys q;
        left_current = all.left_current.1;
        current = all_of_keys (λ q. (false ≡ true) ⊎ (q.row ≡ row_of_key rows q)) (IsCurrent rows) after
            (λ q e one. elim one [
              | inl so ↦ absurd (false≢true so)
              | inr is ↦ is
            ])
            (known (λ q. false) (row_of_key rows) before (inr all.left_current.0));
      }
    where
      moved : (a b c : Bool) → (a || (b || c)) ≡ ((b || a) || c)
      moved true true c = refl
      moved true false c = refl
      moved false true c = refl
      moved false false c = refl

  pub last_added : (others left now after : List IndexKey) (p : IndexKey) → ((q : IndexKey) → has after q ≡ (is_same q p || has now q))
      → ((known : IndexKey → Bool) (r : IndexKey → Option RowView) → AreKnown known r now → (known p ≡ true) ⊎ (p.row ≡ r p) → AreKnown known r after) → IsIndexWith end rows (others ++ (left ++ p ∷ [])) now
      → IsIndexWith end rows (others ++ left) after
  last_added others left now after p added known all =
      first_added (others ++ left) now after p added known (left_permuted (others ++ (left ++ p ∷ [])) (p ∷ (others ++ left)) now (last_first others left p) all)

  pub last_kept : (others left now : List IndexKey) (p : IndexKey) → IsIndexWith end rows (others ++ (left ++ p ∷ [])) now → IsIndexWith end rows ((others ++ p ∷ []) ++ left) now
  last_kept others left now p =
      let first = p ∷ (others ++ left) in
      let kept : IsPermutation ((others ++ p ∷ []) ++ left) first = subst (λ l. IsPermutation l first) (sym (append_assoc others (p ∷ []) left)) (IsPermutation-middle others p left) in
      left_permuted (others ++ (left ++ p ∷ [])) ((others ++ p ∷ []) ++ left) now
      (IsPermutation-trans (others ++ (left ++ p ∷ [])) first ((others ++ p ∷ []) ++ left) (last_first others left p) (IsPermutation-sym ((others ++ p ∷ []) ++ left) first kept))
