-- The row under a key after puts, and after a test.
use Rattle.std.proofs.Common.{◌≡◌, ◌≢◌, ℕ, Bool, true, false, cond, List, [], ◌∷◌, if◌then◌else◌, Some, None, refl, sym, ap, ◌∙◌, subst}
use Rattle.std.specs.List.{filter}
use Rattle.std.specs.Ordering.{nat_cmp, is_eq}
use Rattle.std.specs.Cmp.Lexicographic.{slice_cmp}
use Rattle.std.specs.declared.cmp.Ordering.{Ordering}
use Rattle.std.specs.declared.cmp.Ordering.TheVariants.{Less, Equal, Greater}
use Rattle.std.proofs.lemmas.Map.Lookups.{exact_bytes}
use Rattle.std.proofs.lemmas.Bool.{false≢true}
use Rattle.row_map.specs.Database.{RowView, key_of, key_order, IsRising, is_under, row_under}
use Rattle.row_map.specs.Put.{is_newer, put_before, database_after_put, database_after_puts}
use Rattle.row_map.specs.Left.{winner, left_by_put, left_by_puts, kept_if}
use Rattle.row_map.proofs.Order.{AllAbove, above_less}
use Rattle.row_map.proofs.Rising.{rising_put}
use Rattle.row_map.proofs.Found.{AreOthers, none_under, others_above, under_itself}

-- ---- one row and a key

pub equal_from : (o : Ordering) → is_eq o ≡ true → o ≡ Equal
equal_from Less e = absurd (false≢true e)
equal_from Equal e = refl
equal_from Greater e = absurd (false≢true e)

-- a row under a key has that key
pub its_key : (k : List ℕ) (row : RowView) → is_under k row ≡ true → k ≡ key_of row
its_key k row under = exact_bytes k (key_of row) (equal_from (slice_cmp nat_cmp k (key_of row)) under)

-- a row that is not under a key has another key
pub another_key : (k : List ℕ) (row : RowView) → is_under k row ≡ false → k ≢ key_of row
another_key k row other same = false≢true (sym other ∙ subst (λ l. is_under l row ≡ true) (sym same) (under_itself row))

-- a row of another key is not under it
pub under_other : (k : List ℕ) (row : RowView) (b : Bool) → is_under k row ≡ b → k ≢ key_of row → is_under k row ≡ false
under_other k row true e other = absurd (other (its_key k row e))
under_other k row false e other = e

-- after a row under a key there is none under the same key
pub others_behind : (k : List ℕ) (row : RowView) (rows : List RowView) → is_under k row ≡ true → AllAbove row rows → AreOthers k rows
others_behind k row rows under above = subst (λ l. AreOthers l rows) (sym (its_key k row under)) (others_above row rows above)

pub none_behind : (k : List ℕ) (row : RowView) (rows : List RowView) → is_under k row ≡ true → AllAbove row rows → row_under k rows ≡ None
none_behind k row rows under above = none_under k rows (others_behind k row rows under above)

-- the first row is the result if it is under the key
pub under_first : (k : List ℕ) (row : RowView) (rows : List RowView) (b : Bool) → is_under k row ≡ b → row_under k (row ∷ rows) ≡ (if b then Some row else row_under k rows)
under_first k row rows b e = ap (λ b. if b then Some row else row_under k rows) e

-- ---- a put

either_wins : (k : List ℕ) (row old : RowView) (others : List RowView) (newer : Bool) → is_under k row ≡ true → is_under k old ≡ true → row_under k ((if newer then row else old) ∷ others) ≡ Some (if newer then row else old)
either_wins k row old others true new_under old_under = under_first k row others true new_under
either_wins k row old others false new_under old_under = under_first k old others true old_under

-- rows of one key are under the same keys
pub under_both : (k : List ℕ) (row old : RowView) (b : Bool) → key_order row old ≡ Equal → is_under k row ≡ b → is_under k old ≡ b
under_both k row old b same e = subst (λ l. is_eq (slice_cmp nat_cmp k l) ≡ b) (exact_bytes (key_of row) (key_of old) same) e

either_passed : (k : List ℕ) (row old : RowView) (others : List RowView) (newer : Bool) → is_under k row ≡ false → is_under k old ≡ false → row_under k ((if newer then row else old) ∷ others) ≡ row_under k others
either_passed k row old others true new_other old_other = under_first k row others false new_other
either_passed k row old others false new_other old_other = under_first k old others false old_other

-- a row below or above a row under a key is not under that key
pub not_under : (k : List ℕ) (row old : RowView) (o : Ordering) → key_order row old ≡ o → is_eq o ≡ false → is_under k row ≡ true → is_under k old ≡ false
not_under k row old o e other under = subst (λ l. is_eq (slice_cmp nat_cmp l (key_of old)) ≡ false) (sym (its_key k row under)) (ap is_eq e ∙ other)

leaves_before : (o : Ordering) (b : Bool) (k : List ℕ) (row old : RowView) (others : List RowView) → key_order row old ≡ o → is_under k row ≡ b → IsRising (old ∷ others)
    → row_under k (database_after_put others row) ≡ (if b then Some (winner row (row_under k others)) else row_under k others)
    → row_under k (put_before o row old others (database_after_put others row)) ≡ (if b then Some (winner row (row_under k (old ∷ others))) else row_under k (old ∷ others))
leaves_before Less true k row old others e under rising later =
    under_first k row (old ∷ others) true under
    ∙ ap (λ found. Some (winner row found)) (sym (under_first k old others false (not_under k row old Less e refl under) ∙ none_behind k row others under (above_less row old others e rising.0)))
leaves_before Equal true k row old others e under rising later =
    let both = under_both k row old true e under in
    either_wins k row old others (is_newer row old) under both ∙ ap (λ found. Some (winner row found)) (sym (under_first k old others true both))
leaves_before Greater true k row old others e under rising later =
    let passed = not_under k row old Greater e refl under in
    under_first k old (database_after_put others row) false passed ∙ later ∙ ap (λ found. Some (winner row found)) (sym (under_first k old others false passed))
leaves_before Less false k row old others e under rising later = under_first k row (old ∷ others) false under
leaves_before Equal false k row old others e under rising later =
    let both = under_both k row old false e under in
    either_passed k row old others (is_newer row old) under both ∙ sym (under_first k old others false both)
leaves_before Greater false k row old others e under rising later = ap (λ found. if is_under k old then Some old else found) later

pub put_leaves : (k : List ℕ) (rows : List RowView) (row : RowView) → IsRising rows → row_under k (database_after_put rows row) ≡ left_by_put k (row_under k rows) row
unfolding database_after_put
put_leaves k [] row rising = refl
put_leaves k (old ∷ others) row rising =
    leaves_before (key_order row old) (is_under k row) k row old others refl refl rising (put_leaves k others row rising.1)

pub puts_leave : (k : List ℕ) (rows new : List RowView) → IsRising rows → row_under k (database_after_puts rows new) ≡ left_by_puts k (row_under k rows) new
unfolding database_after_puts
puts_leave k rows [] rising = refl
puts_leave k rows (row ∷ new) rising =
    puts_leave k (database_after_put rows row) new (rising_put rows row rising) ∙ ap (λ found. left_by_puts k found new) (put_leaves k rows row rising)

-- ---- a test

kept_first : (b c : Bool) (k : List ℕ) (p : RowView → Bool) (row : RowView) (rows kept : List RowView) → is_under k row ≡ b → p row ≡ c → AllAbove row rows
    → row_under k kept ≡ kept_if p (row_under k rows) → row_under k (cond c (row ∷ kept) kept) ≡ kept_if p (if b then Some row else row_under k rows)
kept_first true true k p row rows kept under passes above later = under_first k row kept true under ∙ sym (ap (λ c. if c then Some row else None) passes)
kept_first false true k p row rows kept under passes above later = under_first k row kept false under ∙ later
kept_first true false k p row rows kept under passes above later =
    later ∙ ap (kept_if p) (none_behind k row rows under above) ∙ sym (ap (λ c. if c then Some row else None) passes)
kept_first false false k p row rows kept under passes above later = later

pub test_leaves : (k : List ℕ) (p : RowView → Bool) (rows : List RowView) → IsRising rows → row_under k (filter p rows) ≡ kept_if p (row_under k rows)
test_leaves k p [] rising = refl
test_leaves k p (row ∷ rows) rising =
    kept_first (is_under k row) (p row) k p row rows (filter p rows) refl refl rising.0 (test_leaves k p rows rising.1)
