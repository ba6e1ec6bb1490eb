-- The index keys between the bounds of a type and of ISD-AS numbers: for `keys_at`, `keys_after` and
-- `keys_between`.
use Rattle.std.proofs.Common.{◌≡◌, ◌≢◌, ◌⊎◌, inl, inr, ℕ, zero, suc, ◌+◌, ◌<◌, ◌≤◌, Bool, true, false, not, ◌&&◌, ◌==◌, nat_lt, nat_le, List, [], ◌∷◌, length, refl, sym, ap, ◌∙◌, arith}
use Rattle.std.specs.Ordering.{nat_cmp, is_eq, is_lt, is_le, ordering_then, MatchOrdering}
use Rattle.std.specs.Cmp.{ranks}
use Rattle.std.specs.Cmp.Lexicographic.{slice_cmp}
use Rattle.std.specs.declared.cmp.Ordering.{Ordering}
use Rattle.std.specs.declared.cmp.Ordering.TheVariants.{Less, Equal, Greater}
use Rattle.std.proofs.lemmas.Bool.{false≢true}
use Rattle.std.proofs.lemmas.Bool.Decides.{eqb_tells, leb_tells}
use Rattle.std.proofs.Math.Dec.{eqb, leb}
use Rattle.row_map.specs.IndexKey.{IndexKey, stands_at, stands_between, is_after_id}

abbrev pub zeros : ℕ → List ℕ
zeros zero = []
zeros (suc n) = 0 ∷ zeros n

-- no number is below zero
from_zero : (o later : Ordering) (b : ℕ) → MatchOrdering o (0 < b) (0 ≡ b) (b < 0) → is_le later ≡ true → is_le (ordering_then o later) ≡ true
from_zero Less later b says e = refl
from_zero Equal later b says e = e
from_zero Greater later b says e = absurd (omega (arith, says))

-- no id of this length is below the id of zeros
pub zeros_first : (n : ℕ) (id : List ℕ) → length id ≡ n → is_le (slice_cmp nat_cmp (zeros n) id) ≡ true
zeros_first zero [] e = refl
zeros_first zero (b ∷ id) e = absurd (omega (arith, e))
zeros_first (suc n) [] e = absurd (omega (arith, e))
zeros_first (suc n) (b ∷ id) e = from_zero (nat_cmp 0 b) (slice_cmp nat_cmp (zeros n) id) b (ranks 0 b) (zeros_first n id (omega (arith, e)))

-- the order of two numbers, and the order of the first number's successor and the second
abbrev pub IsNext : Ordering → Ordering → Type 0
IsNext o p = MatchOrdering o (is_le p ≡ true) (is_le p ≡ false) (Unit {0})

pub next_rank : (o p : Ordering) (a b : ℕ) → MatchOrdering o (a < b) (a ≡ b) (b < a) → MatchOrdering p (a + 1 < b) (a + 1 ≡ b) (b < a + 1) → IsNext o p
next_rank Less Less a b one other = refl
next_rank Less Equal a b one other = refl
next_rank Less Greater a b one other = absurd (omega (arith, one, other))
next_rank Equal Less a b one other = absurd (omega (arith, one, other))
next_rank Equal Equal a b one other = absurd (omega (arith, one, other))
next_rank Equal Greater a b one other = refl
next_rank Greater p a b one other = tt

-- the cases by the orders of the type, of the ISD-AS, of its successor, and of the least id
table : (o p r later : Ordering) → is_le later ≡ true → IsNext p r → (is_le (ordering_then o (ordering_then p later)) && not (is_le (ordering_then o (ordering_then r later)))) ≡ (is_eq o && is_eq p)
table Less p r later e next = refl
table Greater p r later e next = refl
table Equal Less Less later e next = refl
table Equal Less Equal later e next = ap not e
table Equal Less Greater later e next = sym next
table Equal Equal Greater later e next = ap (λ b. b && true) e
table Equal Equal Less later e next = absurd (false≢true (sym next))
table Equal Equal Equal later e next = absurd (false≢true (sym next))
table Equal Greater r later e next = refl

-- a number compares as equal to itself alone
pub same_number : (o : Ordering) (a b : ℕ) → MatchOrdering o (a < b) (a ≡ b) (b < a) → ((eqb b a ≡ true) × (b ≡ a)) ⊎ ((eqb b a ≡ false) × (b ≢ a)) → is_eq o ≡ (b == a)
same_number Less a b says (inl same) = absurd (omega (arith, says, same.1))
same_number Less a b says (inr other) = sym other.0
same_number Equal a b says (inl same) = sym same.0
same_number Equal a b says (inr other) = absurd (other.1 (sym says))
same_number Greater a b says (inl same) = absurd (omega (arith, says, same.1))
same_number Greater a b says (inr other) = sym other.0

-- no id is below the empty one
nothing_first : (id : List ℕ) → is_le (slice_cmp nat_cmp [] id) ≡ true
nothing_first [] = refl
nothing_first (b ∷ id) = refl

-- the index keys between the bound of an ISD-AS and that of the next one
pub between : (kind isd_as : ℕ) (q : IndexKey)
    → (is_le (ordering_then (nat_cmp kind q.kind) (ordering_then (nat_cmp isd_as q.isd_as) (slice_cmp nat_cmp [] q.id))) && not (is_le (ordering_then (nat_cmp kind q.kind) (ordering_then (nat_cmp (isd_as + 1) q.isd_as) (slice_cmp nat_cmp [] q.id)))))
    ≡ stands_at kind isd_as q
between kind isd_as q =
    table (nat_cmp kind q.kind) (nat_cmp isd_as q.isd_as) (nat_cmp (isd_as + 1) q.isd_as) (slice_cmp nat_cmp [] q.id)
    (nothing_first q.id)
    (next_rank (nat_cmp isd_as q.isd_as) (nat_cmp (isd_as + 1) q.isd_as) isd_as q.isd_as (ranks isd_as q.isd_as) (ranks (isd_as + 1) q.isd_as))
    ∙ ap (λ a. a && is_eq (nat_cmp isd_as q.isd_as)) (same_number (nat_cmp kind q.kind) kind q.kind (ranks kind q.kind) (eqb_tells q.kind kind))
    ∙ ap (λ b. (q.kind == kind) && b) (same_number (nat_cmp isd_as q.isd_as) isd_as q.isd_as (ranks isd_as q.isd_as) (eqb_tells q.isd_as isd_as))

-- ---- the index keys after an id

and_true : (b : Bool) → (b && true) ≡ b
and_true true = refl
and_true false = refl

-- the cases by the same orders, and by that of an id
table_after : (o p r s later : Ordering) → is_le later ≡ true → IsNext p r
    → (is_lt (ordering_then o (ordering_then p s)) && not (is_le (ordering_then o (ordering_then r later)))) ≡ ((is_eq o && is_eq p) && is_lt s)
table_after Less p r s later e next = refl
table_after Greater p r s later e next = refl
table_after Equal Less Less s later e next = refl
table_after Equal Less Equal s later e next = ap not e
table_after Equal Less Greater s later e next = sym next
table_after Equal Equal Greater s later e next = and_true (is_lt s)
table_after Equal Equal Less s later e next = absurd (false≢true (sym next))
table_after Equal Equal Equal s later e next = absurd (false≢true (sym next))
table_after Equal Greater r s later e next = refl

-- the index keys of an ISD-AS above an id, and below the least index key of the next one
pub between_after : (kind isd_as : ℕ) (id : List ℕ) (q : IndexKey)
    → (is_lt (ordering_then (nat_cmp kind q.kind) (ordering_then (nat_cmp isd_as q.isd_as) (slice_cmp nat_cmp id q.id))) && not (is_le (ordering_then (nat_cmp kind q.kind) (ordering_then (nat_cmp (isd_as + 1) q.isd_as) (slice_cmp nat_cmp [] q.id)))))
    ≡ (stands_at kind isd_as q && is_after_id id q)
between_after kind isd_as id q =
    table_after (nat_cmp kind q.kind) (nat_cmp isd_as q.isd_as) (nat_cmp (isd_as + 1) q.isd_as) (slice_cmp nat_cmp id q.id) (slice_cmp nat_cmp [] q.id)
    (nothing_first q.id)
    (next_rank (nat_cmp isd_as q.isd_as) (nat_cmp (isd_as + 1) q.isd_as) isd_as q.isd_as (ranks isd_as q.isd_as) (ranks (isd_as + 1) q.isd_as))
    ∙ ap (λ a. (a && is_eq (nat_cmp isd_as q.isd_as)) && is_after_id id q) (same_number (nat_cmp kind q.kind) kind q.kind (ranks kind q.kind) (eqb_tells q.kind kind))
    ∙ ap (λ b. ((q.kind == kind) && b) && is_after_id id q) (same_number (nat_cmp isd_as q.isd_as) isd_as q.isd_as (ranks isd_as q.isd_as) (eqb_tells q.isd_as isd_as))

-- ---- the index keys of a range of numbers

-- the cases by the orders of the type, of the range's ends and of the least id
table_range : (o p r later : Ordering) → is_le later ≡ true → (is_le (ordering_then o (ordering_then p later)) && not (is_le (ordering_then o (ordering_then r later)))) ≡ (is_eq o && (is_le p && not (is_le r)))
table_range Less p r later e = refl
table_range Greater p r later e = refl
table_range Equal Less Less later e = refl
table_range Equal Less Equal later e = ap not e
table_range Equal Less Greater later e = refl
table_range Equal Equal Less later e = ap (λ b. b && false) e
table_range Equal Equal Equal later e = ap (λ b. b && not b) e
table_range Equal Equal Greater later e = ap (λ b. b && true) e
table_range Equal Greater r later e = refl

at_least : (o : Ordering) (a b : ℕ) → MatchOrdering o (a < b) (a ≡ b) (b < a) → ((leb a b ≡ true) × (a ≤ b)) ⊎ ((leb a b ≡ false) × (b < a)) → is_le o ≡ nat_le a b
at_least Less a b says (inl so) = sym so.0
at_least Less a b says (inr other) = absurd (omega (arith, says, other.1))
at_least Equal a b says (inl so) = sym so.0
at_least Equal a b says (inr other) = absurd (omega (arith, says, other.1))
at_least Greater a b says (inl so) = absurd (omega (arith, says, so.1))
at_least Greater a b says (inr other) = sym other.0

below : (o : Ordering) (a b : ℕ) → MatchOrdering o (a < b) (a ≡ b) (b < a) → ((leb (suc b) a ≡ true) × (suc b ≤ a)) ⊎ ((leb (suc b) a ≡ false) × (a < suc b)) → not (is_le o) ≡ nat_lt b a
below Less a b says (inl so) = absurd (omega (arith, says, so.1))
below Less a b says (inr other) = sym other.0
below Equal a b says (inl so) = absurd (omega (arith, says, so.1))
below Equal a b says (inr other) = sym other.0
below Greater a b says (inl so) = sym so.0
below Greater a b says (inr other) = absurd (omega (arith, says, other.1))

-- the index keys between the least index keys of two ISD-AS
pub between_numbers : (kind low high : ℕ) (q : IndexKey)
    → (is_le (ordering_then (nat_cmp kind q.kind) (ordering_then (nat_cmp low q.isd_as) (slice_cmp nat_cmp [] q.id))) && not (is_le (ordering_then (nat_cmp kind q.kind) (ordering_then (nat_cmp high q.isd_as) (slice_cmp nat_cmp [] q.id)))))
    ≡ stands_between kind low high q
between_numbers kind low high q =
    table_range (nat_cmp kind q.kind) (nat_cmp low q.isd_as) (nat_cmp high q.isd_as) (slice_cmp nat_cmp [] q.id) (nothing_first q.id)
    ∙ ap (λ a. a && (is_le (nat_cmp low q.isd_as) && not (is_le (nat_cmp high q.isd_as)))) (same_number (nat_cmp kind q.kind) kind q.kind (ranks kind q.kind) (eqb_tells q.kind kind))
    ∙ ap (λ b. (q.kind == kind) && (b && not (is_le (nat_cmp high q.isd_as)))) (at_least (nat_cmp low q.isd_as) low q.isd_as (ranks low q.isd_as) (leb_tells low q.isd_as))
    ∙ ap (λ b. (q.kind == kind) && (nat_le low q.isd_as && b)) (below (nat_cmp high q.isd_as) high q.isd_as (ranks high q.isd_as) (leb_tells (suc q.isd_as) high))
