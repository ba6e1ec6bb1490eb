-- The buckets of keys: for `expiry_bounds` and `bucket_walk`.
use Rattle.std.proofs.Common.{rules, ◌≡◌, ℕ, ◌+◌, ◌-◌, ◌*◌, ◌/◌, ◌%◌, ◌<◌, ◌≤◌, Bool, true, false, not, ◌&&◌, List, [], ◌∷◌, length, get_or, replicate, if◌then◌else◌, refl, sym, ap, ◌∙◌, subst, arith}
use Rattle.std.specs.List.{AllByRecursion}
use Rattle.std.specs.Ordering.{nat_cmp, is_lt, is_le, ordering_then, ordering_reverse, MatchOrdering}
use Rattle.std.specs.Cmp.{ranks}
use Rattle.std.specs.Cmp.Lexicographic.{slice_cmp}
use Rattle.std.specs.declared.cmp.Ordering.{Ordering}
use Rattle.std.specs.declared.cmp.Ordering.TheVariants.{Less, Equal, Greater}
use Rattle.std.proofs.Math.Nat.{div-div-eq-div-mul}
use Rattle.std.proofs.lemmas.Bool.{false≢true, and_parts}
use Rattle.std.proofs.lemmas.Cmp.{nat_list_cmp_total}
use Rattle.std.proofs.lemmas.Nat.{div-add-mod', mod_below}
use Rattle.row_map.proofs.Bounds.{zeros, zeros_first}
use Rattle.seg_core.specs.declared.seg_type.SegType.TheVariants.{Up, Down, Core}
use Rattle.seg_core.specs.Digest.{segment_digest}
use Rattle.seg_check.specs.Expiry.{expiry_of}
use Rattle.seg_check.proofs.Exports.{digest-length}
use Rattle.row_map.specs.Database.{RowView, key_of, key_order}
use Rattle.row_map.specs.Buckets.{bucket_count, first_key, is_before, is_among, IsBounded}
use Rattle.row_map.specs.Purge.{Outlasts}

-- what each row that has one fact has besides
pub all_implied : (P Q : RowView → Type 0) (rows : List RowView) → ((row : RowView) → P row → Q row) → AllByRecursion P rows → AllByRecursion Q rows
all_implied P Q [] so all = tt
all_implied P Q (row ∷ rows) so all = (so row all.0, all_implied P Q rows so all.1)

pub all_both : (P Q R : RowView → Type 0) (rows : List RowView) → ((row : RowView) → P row → Q row → R row) → AllByRecursion P rows → AllByRecursion Q rows → AllByRecursion R rows
all_both P Q R [] so all more = tt
all_both P Q R (row ∷ rows) so all more = (so row all.0 more.0, all_both P Q R rows so all.1 more.1)

pub all_of : (P : RowView → Type 0) (rows : List RowView) → ((row : RowView) → P row) → AllByRecursion P rows
all_of P [] so = tt
all_of P (row ∷ rows) so = (so row, all_of P rows so)

-- ---- the order of keys, and their numbers

not_lower : (o p : Ordering) → p ≡ ordering_reverse o → is_le o ≡ true → is_lt p ≡ false
not_lower Less p e le = ap is_lt e
not_lower Equal p e le = ap is_lt e
not_lower Greater p e le = absurd (false≢true le)

-- no list is below as many zeros
none_below : (n : ℕ) (id : List ℕ) → length id ≡ n → is_lt (slice_cmp nat_cmp id (zeros n)) ≡ false
none_below n id long = not_lower (slice_cmp nat_cmp (zeros n) id) (slice_cmp nat_cmp id (zeros n)) (nat_list_cmp_total.antisymm id (zeros n)) (zeros_first n id long)

-- three bytes that are not below three others are no lower number
number_from : (o p r s : Ordering) (k a b l c d : ℕ) → MatchOrdering o (k < l) (k ≡ l) (l < k) → MatchOrdering p (a < c) (a ≡ c) (c < a) → MatchOrdering r (b < d) (b ≡ d) (d < b)
    → c < 256 → d < 256 → is_lt (ordering_then o (ordering_then p (ordering_then r s))) ≡ false → l * 65536 + c * 256 + d ≤ k * 65536 + a * 256 + b
number_from Less p r s k a b l c d x y z small low e = absurd (false≢true (sym e))
number_from Greater p r s k a b l c d x y z small low e = omega (arith, x, small, low)
number_from Equal Less r s k a b l c d x y z small low e = absurd (false≢true (sym e))
number_from Equal Greater r s k a b l c d x y z small low e = omega (arith, x, y, low)
number_from Equal Equal Less s k a b l c d x y z small low e = absurd (false≢true (sym e))
number_from Equal Equal Equal s k a b l c d x y z small low e = omega (arith, x, y, z)
number_from Equal Equal Greater s k a b l c d x y z small low e = omega (arith, x, y, z)

-- three bytes that are below three others are a lower number
number_below : (o p r s : Ordering) (k a b l c d : ℕ) → MatchOrdering o (k < l) (k ≡ l) (l < k) → MatchOrdering p (a < c) (a ≡ c) (c < a) → MatchOrdering r (b < d) (b ≡ d) (d < b)
    → a < 256 → b < 256 → is_lt s ≡ false → is_lt (ordering_then o (ordering_then p (ordering_then r s))) ≡ true → k * 65536 + a * 256 + b < l * 65536 + c * 256 + d
number_below Less p r s k a b l c d x y z small low last e = omega (arith, x, small, low)
number_below Greater p r s k a b l c d x y z small low last e = absurd (false≢true e)
number_below Equal Less r s k a b l c d x y z small low last e = omega (arith, x, y, low)
number_below Equal Greater r s k a b l c d x y z small low last e = absurd (false≢true e)
number_below Equal Equal Less s k a b l c d x y z small low last e = omega (arith, x, y, z)
number_below Equal Equal Equal s k a b l c d x y z small low last e = absurd (false≢true (sym last ∙ e))
number_below Equal Equal Greater s k a b l c d x y z small low last e = absurd (false≢true e)

-- the number of a bucket's least key
first_number : (n : ℕ) → (n / 65536 + 1) * 65536 + (n / 256 % 256) * 256 + n % 256 ≡ n + 65536
first_number n = omega (arith, div-div-eq-div-mul n 256 256, div-add-mod' n 256, div-add-mod' (n / 256) 256)

-- a key that is not below a bucket's least key
key_from : (k a b n : ℕ) (id : List ℕ) → is_lt (slice_cmp nat_cmp (k ∷ a ∷ b ∷ id) (first_key n)) ≡ false → n + 65536 ≤ k * 65536 + a * 256 + b
key_from k a b n id e =
    let le = number_from (nat_cmp k (n / 65536 + 1)) (nat_cmp a (n / 256 % 256)) (nat_cmp b (n % 256)) (slice_cmp nat_cmp id (replicate 30 0)) k a b (n / 65536 + 1) (n / 256 % 256) (n % 256)
    (ranks k (n / 65536 + 1)) (ranks a (n / 256 % 256)) (ranks b (n % 256)) (mod_below (n / 256) 256 (omega arith)) (mod_below n 256 (omega arith)) e in
    subst (λ m. m ≤ k * 65536 + a * 256 + b) (first_number n) le

-- a key that is below a bucket's least key
key_below : (k a b n : ℕ) (id : List ℕ) → length id ≡ 30 → a < 256 → b < 256 → is_lt (slice_cmp nat_cmp (k ∷ a ∷ b ∷ id) (first_key n)) ≡ true → k * 65536 + a * 256 + b < n + 65536
key_below k a b n id long small low e =
    let lt = number_below (nat_cmp k (n / 65536 + 1)) (nat_cmp a (n / 256 % 256)) (nat_cmp b (n % 256)) (slice_cmp nat_cmp id (replicate 30 0)) k a b (n / 65536 + 1) (n / 256 % 256) (n % 256)
    (ranks k (n / 65536 + 1)) (ranks a (n / 256 % 256)) (ranks b (n % 256)) small low (none_below 30 id long) e in
    subst (λ m. k * 65536 + a * 256 + b < m) (first_number n) lt

not_from : (b : Bool) → not b ≡ true → b ≡ false
not_from true e = absurd (false≢true e)
not_from false e = refl

-- a key is in one bucket alone
pub bucket_is : (k : ℕ) (id : List ℕ) (row : RowView) (n : ℕ) → length id ≡ 32 → get_or id 0 0 < 256 → get_or id 1 0 < 256 → k ∷ id ≡ key_of row → is_among n (n + 1) row ≡ true
    → (k - 1) * 65536 + get_or id 0 0 * 256 + get_or id 1 0 ≡ n
bucket_is k [] row n long small low its among = absurd (omega (arith, long))
bucket_is k (a ∷ []) row n long small low its among = absurd (omega (arith, long))
bucket_is k (a ∷ b ∷ id) row n long small low its among =
    let parts = and_parts (not (is_before (first_key n) row)) (is_before (first_key (n + 1)) row) among in
    let above = subst (λ l. is_lt (slice_cmp nat_cmp l (first_key n)) ≡ false) (sym its) (not_from (is_before (first_key n) row) parts.0) in
    let under = subst (λ l. is_lt (slice_cmp nat_cmp l (first_key (n + 1))) ≡ true) (sym its) parts.1 in
    omega (arith, key_from k a b n id above, key_below k a b (n + 1) id (omega (arith, long)) small low under)

-- ---- the ends of the buckets

-- no row is below the first bucket
pub none_before : (row : RowView) → is_before (first_key 0) row ≡ false
unfolding key_of
none_before (Up, segment) = none_below 32 (segment_digest segment) (digest-length segment)
none_before (Down, segment) = refl
none_before (Core, segment) = refl

-- each row is below the end of the buckets
pub all_before : (row : RowView) → is_before (first_key bucket_count) row ≡ true
unfolding key_of
all_before (Up, segment) = refl
all_before (Down, segment) = refl
all_before (Core, segment) = refl

-- no row is both below the first of some buckets and in one of them
pub not_among : (low high : ℕ) (row : RowView) → is_before (first_key low) row ≡ true → is_among low high row ≡ false
not_among low high row e = ap (λ b. not b && is_before (first_key high) row) e

-- a row below a key that another row is not below is below that row
pub below_stop : (k : List ℕ) (row stop : RowView) → is_before k row ≡ true → is_before k stop ≡ false → key_order row stop ≡ Less
below_stop k row stop below above = by_order (key_order row stop) refl
  where
    less : (o : Ordering) → is_lt o ≡ true → o ≡ Less
    less Less e = refl
    less Equal e = absurd (false≢true e)
    less Greater e = absurd (false≢true e)

    first : slice_cmp nat_cmp (key_of row) k ≡ Less
    first = less (slice_cmp nat_cmp (key_of row) k) below

    by_order : (o : Ordering) → key_order row stop ≡ o → key_order row stop ≡ Less
    by_order Less e = e
    by_order Equal e = absurd (false≢true (sym above ∙ ap is_lt (sym (nat_list_cmp_total.congr (key_of row) (key_of stop) k e) ∙ first)))
    by_order Greater e =
        let back : slice_cmp nat_cmp (key_of stop) (key_of row) ≡ Less = nat_list_cmp_total.antisymm (key_of stop) (key_of row) ∙ ap ordering_reverse e in
        absurd (false≢true (sym above ∙ ap is_lt (nat_list_cmp_total.trans (key_of stop) (key_of row) k back first)))

-- ---- bounds

no_bounds : (row : RowView) → IsBounded [] row
no_bounds row n within among = absurd (omega (arith, within))

-- bounds that were copied, or none
pub copied_bounded : (b : Bool) (from copy : List ℕ) (row : RowView) → copy ≡ (if b then from else []) → IsBounded from row → IsBounded copy row
copied_bounded true from copy row e all = subst (λ l. IsBounded l row) (sym e) all
copied_bounded false from copy row e all = subst (λ l. IsBounded l row) (sym e) (no_bounds row)

-- the rows below a bucket, and those from it up to another one
pub passed_more : (P : RowView → Type 0) (low high : ℕ) (row : RowView) → (is_before (first_key low) row ≡ true → P row) → (is_among low high row ≡ true → P row) → is_before (first_key high) row ≡ true → P row
passed_more P low high row before among e = either (is_before (first_key low) row) refl
  where
    either : (b : Bool) → is_before (first_key low) row ≡ b → P row
    either true so = before so
    either false so = among (ap (λ b. not b && is_before (first_key high) row) so ∙ e)

pub outlasts_lowered : (moment least lower : ℕ) (row : RowView) → lower ≤ least → Outlasts moment least row → Outlasts moment lower row
outlasts_lowered moment least lower row le so = (so.0, omega (arith, le, so.1))

-- a row of a bucket whose bound is after the moment
pub outlasts_by_bound : (moment bound lower : ℕ) (row : RowView) → moment < bound → bound ≤ expiry_of row.1 → lower ≤ bound → Outlasts moment lower row
outlasts_by_bound moment bound lower row after bounded le =
    let later : moment < expiry_of row.1 = omega (arith, after, bounded) in
    (search (rules, later), omega (arith, le, bounded))
