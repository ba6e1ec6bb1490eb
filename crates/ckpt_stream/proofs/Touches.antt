-- Keys in their order, each once: for `touched`.
use Rattle.std.proofs.Common.{◌≡◌, ℕ, zero, suc, ◌+◌, ◌-◌, ◌<◌, Bool, true, false, List, [], ◌∷◌, ◌++◌, map, length, take, drop, ◌||◌, get_or, if◌then◌else◌, Some, None, refl, sym, ap, ◌∙◌, subst, arith}
use Rattle.std.specs.Prelude.{Option, slice_get}
use Rattle.std.specs.Option.{option_map}
use Rattle.std.specs.List.{AllByRecursion, AllWithin, list_any}
use Rattle.std.specs.List.Sorted.{IsPartitionedBy, IsPermutation}
use Rattle.std.specs.Ordering.{is_eq, is_le, is_lt, ordering_reverse}
use Rattle.std.specs.declared.cmp.Ordering.{Ordering}
use Rattle.std.specs.declared.cmp.Ordering.TheVariants.{Less, Equal, Greater}
use Rattle.std.proofs.lemmas.Bool.{false≢true}
use Rattle.std.proofs.lemmas.Cmp.{nat_list_cmp_total}
use Rattle.std.proofs.lemmas.List.{append-nil, append_assoc, map-append, take-append-drop}
use Rattle.std.proofs.lemmas.List.Sorted.{IsPermutation-map, list_any-IsPermutation}
use Rattle.std.proofs.lemmas.Map.Lookups.{exact_bytes}
use Rattle.path_records.specs.declared.key.Key.{Key}
use Rattle.path_records.specs.Key.{key_bytes}
use Rattle.ckpt_stream.specs.Merging.{order_of, has_key, KeysRise}
use Rattle.ckpt_stream.specs.Touched.{IsKeyOrder, is_key_above, last_key, with_above, AreUpTo, AreAbove, IsUnion}
use Rattle.ckpt_stream.proofs.Keys.{KeysAbove, less_trans, same_key, itself, turned_greater}
use Rattle.ckpt_stream.proofs.Seen.{has_both}

either : (b r : Bool) → (if b then true else r) ≡ b || r
either true r = refl
either false r = refl

any_key : (ks : List (List ℕ)) (x : List ℕ) → has_key ks x ≡ list_any (λ l. is_eq (order_of x l)) ks
any_key [] x = refl
any_key (k ∷ ks) x = either (is_eq (order_of x k)) (has_key ks x) ∙ ap (λ (r : Bool). is_eq (order_of x k) || r) (any_key ks x)

-- keys in another order are the same keys
pub moved_keys : (old new : List Key) → IsPermutation old new → (x : List ℕ) → has_key (map key_bytes new) x ≡ has_key (map key_bytes old) x
moved_keys old new moved x =
    any_key (map key_bytes new) x
    ∙ sym (list_any-IsPermutation (λ (l : List ℕ). is_eq (order_of x l)) (map key_bytes old) (map key_bytes new) (IsPermutation-map key_bytes old new moved))
    ∙ sym (any_key (map key_bytes old) x)

-- a key is not below the last one, where there is one
abbrev IsFrom : Option (List ℕ) → List ℕ → Type 0
IsFrom None k = Unit {0}
IsFrom (Some last) k = is_lt (order_of k last) ≡ false

-- the same of each key and the one before it
abbrev pub Climb : Option (List ℕ) → List (List ℕ) → Type 0
Climb last [] = Unit {0}
Climb last (k ∷ ks) = IsFrom last k × Climb (Some k) ks

climb_after : (k : Key) (keys : List Key) → IsKeyOrder (k ∷ keys) → Climb (Some (key_bytes k)) (map key_bytes keys)
climb_after k [] order = tt
climb_after k (l ∷ keys) order = (order 0 k (omega arith) (omega arith), climb_after l keys later)
  where
    later : IsKeyOrder (l ∷ keys)
    later i d low high =
        let next : suc i + 1 ≡ suc (i + 1) = omega arith in
        subst (λ (n : ℕ). is_lt (order_of (key_bytes (get_or (k ∷ l ∷ keys) n d)) (key_bytes (get_or (l ∷ keys) i d))) ≡ false) next (order (suc i) d (omega arith) (omega (arith, high)))

pub climbs : (keys : List Key) → IsKeyOrder keys → Climb None (map key_bytes keys)
climbs [] order = tt
climbs (k ∷ keys) order = (tt, climb_after k keys order)

-- where keys rise, those up to a key are in front of those above it
less_from : (o : Ordering) → is_lt o ≡ true → o ≡ Less
less_from Less e = refl
less_from Equal e = absurd (false≢true e)
less_from Greater e = absurd (false≢true e)

up_to_by : (o : Ordering) (l m k : List ℕ) → order_of m k ≡ o → order_of l m ≡ Less → is_le o ≡ true → is_le (order_of l k) ≡ true
up_to_by Less l m k e below le = ap is_le (less_trans l m k below e)
up_to_by Equal l m k e below le = subst (λ (n : List ℕ). is_le (order_of l n) ≡ true) (exact_bytes m k e) (ap is_le below)
up_to_by Greater l m k e below le = absurd (false≢true le)

up_to_before : (k l : List ℕ) (keys : List Key) (j : ℕ) (d : Key) → KeysAbove l (map key_bytes keys) → j < length keys
    → is_le (order_of (key_bytes (get_or keys j d)) k) ≡ true → is_le (order_of l k) ≡ true
up_to_before k l [] j d above inside le = absurd (omega (arith, inside))
up_to_before k l (m ∷ keys) zero d above inside le = up_to_by (order_of (key_bytes m) k) l (key_bytes m) k refl above.0 le
up_to_before k l (m ∷ keys) (suc j) d above inside le = up_to_before k l keys j d above.1 (omega (arith, inside)) le

pub parted : (k : List ℕ) (keys : List Key) → KeysRise (map key_bytes keys) → IsPartitionedBy (λ (l : Key). is_le (order_of (key_bytes l) k)) keys
parted k [] rise i j d before inside le = absurd (omega (arith, inside))
parted k (l ∷ keys) rise zero zero d before inside le = le
parted k (l ∷ keys) rise zero (suc j) d before inside le = up_to_before k (key_bytes l) keys j d rise.0 (omega (arith, inside)) le
parted k (l ∷ keys) rise (suc i) zero d before inside le = absurd (omega (arith, before))
parted k (l ∷ keys) rise (suc i) (suc j) d before inside le = parted k keys rise.1 i j d (omega (arith, before)) (omega (arith, inside)) le

pub front_up_to : (k : List ℕ) (keys : List Key) (n : ℕ) → AllWithin (λ (l : Key). is_le (order_of (key_bytes l) k) ≡ true) keys 0 n → AreUpTo k (map key_bytes (take n keys))
front_up_to k keys zero within = tt
front_up_to k [] (suc n) within = tt
front_up_to k (l ∷ keys) (suc n) within = (within 0 l (omega arith) (omega arith), front_up_to k keys n (λ i d low high. within (suc i) d (omega arith) (omega (arith, high))))

greater_from : (o : Ordering) → is_le o ≡ false → o ≡ Greater
greater_from Less e = absurd (false≢true (sym e))
greater_from Equal e = absurd (false≢true (sym e))
greater_from Greater e = refl

pub back_above : (k : List ℕ) (keys : List Key) (n : ℕ) → AllWithin (λ (l : Key). is_le (order_of (key_bytes l) k) ≡ false) keys n (length keys) → AreAbove k (map key_bytes (drop n keys))
back_above k [] zero within = tt
back_above k (l ∷ keys) zero within = (
  turned_greater (key_bytes l) k (greater_from (order_of (key_bytes l) k) (within 0 l (omega arith) (omega arith))),
  back_above k keys 0 (λ i d low high. within (suc i) d (omega arith) (omega (arith, high))),
)
back_above k [] (suc n) within = tt
back_above k (l ∷ keys) (suc n) within = back_above k keys n (λ i d low high. within (suc i) d (omega (arith, low)) (omega (arith, high)))

-- the last key by its index
pub last_is : (keys : List Key) → option_map key_bytes (slice_get keys (length keys - 1)) ≡ last_key (map key_bytes keys)
last_is [] = refl
last_is (k ∷ keys) = ap (λ (n : ℕ). option_map key_bytes (slice_get (k ∷ keys) n)) (less_one (length keys)) ∙ last_by_length k keys
  where
    less_one : (n : ℕ) → suc n - 1 ≡ n
    less_one n = omega arith

    last_by_length : (l : Key) (ls : List Key) → option_map key_bytes (slice_get (l ∷ ls) (length ls)) ≡ last_key (map key_bytes (l ∷ ls))
    last_by_length l [] = refl
    last_by_length l (m ∷ ls) = last_by_length m ls

last_pushed : (ks : List (List ℕ)) (k : List ℕ) → last_key (ks ++ k ∷ []) ≡ Some k
last_pushed [] k = refl
last_pushed (l ∷ []) k = refl
last_pushed (l ∷ m ∷ ks) k = last_pushed (m ∷ ks) k

-- a key is not below the last one of keys that end in a run up to it
not_below : (o : Ordering) (l k : List ℕ) → order_of l k ≡ o → is_le o ≡ true → is_lt (order_of k l) ≡ false
not_below o l k e le = ap is_lt (nat_list_cmp_total.antisymm k l ∙ ap ordering_reverse e) ∙ turned o le
  where
    turned : (p : Ordering) → is_le p ≡ true → is_lt (ordering_reverse p) ≡ false
    turned Less up = refl
    turned Equal up = refl
    turned Greater up = absurd (false≢true up)

from_last : (k : List ℕ) (run : List (List ℕ)) → AreUpTo k run → IsFrom (last_key run) k
from_last k [] up = tt
from_last k (l ∷ []) up = not_below (order_of l k) l k refl up.0
from_last k (l ∷ m ∷ run) up = from_last k (m ∷ run) up.1

from_run : (k : List ℕ) (ks run : List (List ℕ)) → IsFrom (last_key ks) k → AreUpTo k run → IsFrom (last_key (ks ++ run)) k
from_run k [] run from up = from_last k run up
from_run k (l ∷ []) [] from up = from
from_run k (l ∷ []) (m ∷ run) from up = from_last k (m ∷ run) up
from_run k (l ∷ m ∷ ks) run from up = from_run k (m ∷ ks) run from up

-- a key above the last one is put between keys
front_rises : (ks ls : List (List ℕ)) → KeysRise (ks ++ ls) → KeysRise ks
front_rises [] ls rise = tt
front_rises (k ∷ ks) ls rise = (front_above k ks ls rise.0, front_rises ks ls rise.1)
  where
    front_above : (k : List ℕ) (ks ls : List (List ℕ)) → KeysAbove k (ks ++ ls) → KeysAbove k ks
    front_above k [] ls above = tt
    front_above k (l ∷ ks) ls above = (above.0, front_above k ks ls above.1)

pub back_rises : (ks ls : List (List ℕ)) → KeysRise (ks ++ ls) → KeysRise ls
back_rises [] ls rise = rise
back_rises (k ∷ ks) ls rise = back_rises ks ls rise.1

abbrev KeysBelow : List ℕ → List (List ℕ) → Type 0
KeysBelow k ks = AllByRecursion (λ l. order_of l k ≡ Less) ks

below_last : (k : List ℕ) (ks : List (List ℕ)) → KeysRise ks → is_key_above (last_key ks) k ≡ true → KeysBelow k ks
below_last k [] rise e = tt
below_last k (l ∷ []) rise e = (less_from (order_of l k) e, tt)
below_last k (l ∷ m ∷ ks) rise e =
    let later : KeysBelow k (m ∷ ks) = below_last k (m ∷ ks) rise.1 e in
    (less_trans l m k rise.0.0 later.0, later)

above_put : (l k : List ℕ) (ks ls : List (List ℕ)) → KeysAbove l (ks ++ ls) → order_of l k ≡ Less → KeysAbove l (ks ++ k ∷ ls)
above_put l k [] ls above e = (e, above)
above_put l k (m ∷ ks) ls above e = (above.0, above_put l k ks ls above.1 e)

put_rises : (k : List ℕ) (ks ls : List (List ℕ)) → KeysRise (ks ++ ls) → KeysBelow k ks → KeysAbove k ls → KeysRise (ks ++ k ∷ ls)
put_rises k [] ls rise below above = (above, rise)
put_rises k (l ∷ ks) ls rise below above = (above_put l k ks ls rise.0 below.0, put_rises k ks ls rise.1 below.1 above)

-- a key that is not above the last one, and not below it, is the last one
same_last : (last k : List ℕ) → is_lt (order_of last k) ≡ false → is_lt (order_of k last) ≡ false → last ≡ k
same_last last k e from = by_order (order_of last k) refl e
  where
    by_order : (o : Ordering) → order_of last k ≡ o → is_lt o ≡ false → last ≡ k
    by_order Less is up = absurd (false≢true (sym up))
    by_order Equal is up = exact_bytes last k is
    by_order Greater is up = absurd (false≢true (sym from ∙ ap is_lt (turned_greater last k is)))

kept_climb : (last : Option (List ℕ)) (k : List ℕ) (ks : List (List ℕ)) → is_key_above last k ≡ false → IsFrom last k → Climb (Some k) ks → Climb last ks
kept_climb None k ks e from climb = absurd (false≢true (sym e))
kept_climb (Some last) k ks e from climb = subst (λ (l : List ℕ). Climb (Some l) ks) (sym (same_last last k e from)) climb

kept_has : (k : List ℕ) (ks : List (List ℕ)) → is_key_above (last_key ks) k ≡ false → IsFrom (last_key ks) k → has_key ks k ≡ true
kept_has k [] e from = absurd (false≢true (sym e))
kept_has k (l ∷ []) e from = ap (λ (b : Bool). if b then true else false) (subst (λ (m : List ℕ). is_eq (order_of k m) ≡ true) (sym (same_last l k e from)) (itself k))
kept_has k (l ∷ m ∷ ks) e from = ap (λ (b : Bool). if is_eq (order_of k l) then true else b) (kept_has k (m ∷ ks) e from) ∙ true_both (is_eq (order_of k l))
  where
    true_both : (b : Bool) → (if b then true else true) ≡ true
    true_both true = refl
    true_both false = refl

-- what is merged so far, then the rest of the keys before, and the new keys that are left
pub record IsMerging (before new out rest left : List (List ℕ)) : Type 0 where
  pub rise : KeysRise (out ++ rest)
  pub climb : Climb (last_key out) left
  pub just : (k : List ℕ) → has_key (out ++ rest ++ left) k ≡ has_key (before ++ new) k

either_key : (out rest left : List (List ℕ)) (k : List ℕ)
    → has_key (out ++ rest ++ left) k ≡ (if (if has_key out k then true else has_key rest k) then true else has_key left k)
either_key out rest left k = has_both (out ++ rest) left k ∙ ap (λ (b : Bool). if b then true else has_key left k) (has_both out rest k)

module _ (before new front back : List (List ℕ)) (k : List ℕ) (left : List (List ℕ)) (rise : KeysRise (front ++ back)) (from : IsFrom (last_key front) k) (climb : Climb (Some k) left)
    (above : AreAbove k back) (just : (x : List ℕ) → has_key (front ++ back ++ k ∷ left) x ≡ has_key (before ++ new) x) where
  put_just : (x : List ℕ) → has_key ((front ++ k ∷ []) ++ back ++ left) x ≡ has_key (before ++ new) x
  put_just x =
      either_key (front ++ k ∷ []) back left x
      ∙ ap (λ (b : Bool). if (if b then true else has_key back x) then true else has_key left x) (has_both front (k ∷ []) x)
      ∙ moved (has_key front x) (is_eq (order_of x k)) (has_key back x) (has_key left x)
      ∙ sym (either_key front back (k ∷ left) x)
      ∙ just x
    where
      moved : (f e b l : Bool) → (if (if (if f then true else (if e then true else false)) then true else b) then true else l) ≡ (if (if f then true else b) then true else (if e then true else l))
      moved true e b l = refl
      moved false true true l = refl
      moved false true false l = refl
      moved false false b l = refl

  kept_just : is_key_above (last_key front) k ≡ false → (x : List ℕ) → has_key (front ++ back ++ left) x ≡ has_key (before ++ new) x
  kept_just e x =
      either_key front back left x
      ∙ there (has_key front x) (is_eq (order_of x k)) (has_key back x) (has_key left x) (λ is. subst (λ (l : List ℕ). has_key front l ≡ true) (sym (same_key x k is)) (kept_has k front e from))
      ∙ sym (either_key front back (k ∷ left) x)
      ∙ just x
    where
      there : (f e b l : Bool) → (e ≡ true → f ≡ true) → (if (if f then true else b) then true else l) ≡ (if (if f then true else b) then true else (if e then true else l))
      there true e b l so = refl
      there false true b l so = absurd (false≢true (so refl))
      there false false b l so = refl

  merge_by : (b : Bool) → is_key_above (last_key front) k ≡ b → IsMerging before new (if b then front ++ k ∷ [] else front) back left
  merge_by true e = record {
    rise = subst KeysRise (sym (append_assoc front (k ∷ []) back)) (put_rises k front back rise (below_last k front (front_rises front back rise) e) above);
    climb = subst (λ (last : Option (List ℕ)). Climb last left) (sym (last_pushed front k)) climb;
    just = put_just;
  }
  merge_by false e = record { rise = rise; climb = kept_climb (last_key front) k left e from climb; just = kept_just e }

pub merge_step : (before new out run back : List (List ℕ)) (k : List ℕ) (left : List (List ℕ)) → IsMerging before new out (run ++ back) (k ∷ left)
    → AreUpTo k run → AreAbove k back → IsMerging before new (with_above (out ++ run) k) back left
merge_step before new out run back k left is up above =
    let same : out ++ (run ++ back) ≡ out ++ run ++ back = sym (append_assoc out run back) in
    merge_by before new (out ++ run) back k left (subst KeysRise same is.rise) (from_run k out run is.climb.0 up) is.climb.1 above
    (λ x. ap (λ (ks : List (List ℕ)). has_key (ks ++ k ∷ left) x) (sym same) ∙ is.just x)
    (is_key_above (last_key (out ++ run)) k) refl

-- a loop over the new keys
pub merge_start : (before : List (List ℕ)) (new : List Key) → KeysRise before → IsKeyOrder new → IsMerging before (map key_bytes new) [] before (map key_bytes new)
merge_start before new rise order = record { rise = rise; climb = climbs new order; just = λ k. refl }

pub merge_next : (before new : List (List ℕ)) (out rest : List Key) (n : ℕ) (run back longer next : List Key) (k : Key) (left : List Key)
    → IsMerging before new (map key_bytes out) (map key_bytes rest) (map key_bytes (k ∷ left)) → run ≡ take n rest → back ≡ drop n rest
    → AreUpTo (key_bytes k) (map key_bytes (take n rest)) → AreAbove (key_bytes k) (map key_bytes (drop n rest))
    → longer ≡ out ++ run → map key_bytes next ≡ with_above (map key_bytes longer) (key_bytes k) → IsMerging before new (map key_bytes next) (map key_bytes back) (map key_bytes left)
merge_next before new out rest n run back longer next k left is front behind up above copied pushed =
    let split : map key_bytes rest ≡ map key_bytes (take n rest) ++ map key_bytes (drop n rest) = ap (λ (l : List Key). map key_bytes l) (sym (take-append-drop n rest)) ∙ map-append key_bytes (take n rest) (drop n rest) in
    let both : map key_bytes longer ≡ map key_bytes out ++ map key_bytes (take n rest) = ap (λ (l : List Key). map key_bytes l) (copied ∙ ap (λ (l : List Key). out ++ l) front) ∙ map-append key_bytes out (take n rest) in
    let merged = merge_step before new (map key_bytes out) (map key_bytes (take n rest)) (map key_bytes (drop n rest)) (key_bytes k) (map key_bytes left)
    (subst (λ (ks : List (List ℕ)). IsMerging before new (map key_bytes out) ks (map key_bytes (k ∷ left))) split is) up above in
    subst (λ (ks : List (List ℕ)). IsMerging before new ks (map key_bytes back) (map key_bytes left)) (sym (pushed ∙ ap (λ (ks : List (List ℕ)). with_above ks (key_bytes k)) both))
    (subst (λ (l : List Key). IsMerging before new (with_above (map key_bytes out ++ map key_bytes (take n rest)) (key_bytes k)) (map key_bytes l) (map key_bytes left)) (sym behind) merged)

pub merge_end : (before new : List (List ℕ)) (out rest keys : List Key) → IsMerging before new (map key_bytes out) (map key_bytes rest) [] → keys ≡ out ++ rest → IsUnion before new (map key_bytes keys)
merge_end before new out rest keys is copied =
    let both : map key_bytes keys ≡ map key_bytes out ++ map key_bytes rest = ap (λ (l : List Key). map key_bytes l) copied ∙ map-append key_bytes out rest in
    record {
      rise = subst KeysRise (sym both) is.rise;
      just = λ k. ap (λ (ks : List (List ℕ)). has_key ks k) (both ∙ sym (append-nil (map key_bytes out ++ map key_bytes rest))) ∙ is.just k;
    }

-- a union with the same new keys in another order
pub union_same : (before new other keys : List (List ℕ)) → ((k : List ℕ) → has_key new k ≡ has_key other k) → IsUnion before new keys → IsUnion before other keys
union_same before new other keys same is = record {
  rise = is.rise;
  just = λ k. is.just k ∙ has_both before new k ∙ ap (λ (b : Bool). if has_key before k then true else b) (same k) ∙ sym (has_both before other k);
}

-- a union of the keys that a slice has
pub union_of : (slice keys : List Key) (named new : List (List ℕ)) → slice ≡ keys → KeysRise (map key_bytes keys)
    → (KeysRise (map key_bytes slice) → IsUnion (map key_bytes slice) named new) → IsUnion (map key_bytes keys) named new
union_of slice keys named new same rise is = subst (λ (l : List Key). IsUnion (map key_bytes l) named new) same (is (subst (λ (l : List Key). KeysRise (map key_bytes l)) (sym same) rise))
