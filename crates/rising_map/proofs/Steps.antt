-- The slots of a map after a call of `insert` or `remove`.
use Rattle.std.proofs.Common.{◌≡◌, ℕ, suc, ◌+◌, ◌-◌, ◌<◌, ◌≤◌, List, [], ◌∷◌, length, get_or, set, Option, Some, None, true, false, refl, sym, ap, ◌∙◌, subst, arith, length-set, Result, Ok, Err}
use Rattle.std.specs.Option.{is_some}
use Rattle.std.specs.Result.{OnErr}
use Rattle.std.specs.List.{insert}
use Rattle.std.specs.List.Sorted.{IsPartitionPoint, IsStrictlySortedBy}
use Rattle.std.specs.Ordering.{nat_cmp}
use Rattle.std.specs.BTreeMap.{insert_entry, is_at}
use Rattle.std.specs.Map.{keys_of, lookup, remove_entry}
use Rattle.std.proofs.lemmas.List.Edits.{length-insert}
use Rattle.rising_map.specs.declared.slots.Slot.{Slot}
use Rattle.rising_map.specs.Slots.{entries_of, with_entry, AreRisingSlots, AreSlots}
use Rattle.rising_map.proofs.Entries.{none_taken}
use Rattle.rising_map.proofs.Places.{count, keys_rise, value_here, value_missing, set_rising, set_counted, set_put, set_taken, inserted_rising, inserted_counted, inserted_put}

pub on_err : {T E : Type 0} (r : Result T E) {P : Type 0} → P → OnErr r P
on_err (Ok x) p = tt
on_err (Err e) p = p

count_none : {V : Type 0} (value : Option V) → is_some value ≡ false → count value ≡ 0
count_none None is = refl
count_none (Some v) is = absurd (cc (is))

count_some : {V : Type 0} (value : Option V) → is_some value ≡ true → count value ≡ 1
count_some None is = absurd (cc (is))
count_some (Some v) is = refl

module _ {V : Type 0} where
  entry_fits : (number n : ℕ) (value : Option V) (entries : List (ℕ × V)) → length entries ≤ n → length (with_entry number value entries) ≤ suc n
  entry_fits number n None entries fits = omega (arith, fits)
  entry_fits number n (Some v) entries fits = omega (arith, fits)

  -- there are no more entries than slots
  pub entries_fit : (slots : List (Slot V)) → length (entries_of slots) ≤ length slots
  entries_fit [] = omega arith
  entries_fit (s ∷ slots) = entry_fits s.number (length slots) s.value (entries_of slots) (entries_fit slots)

module _ {V : Type 0} (slots : List (Slot V)) (holes : ℕ) (has : AreSlots slots holes) (n at : ℕ) (place : (at < length slots) × ((d : Slot V) → (get_or slots at d).number ≡ n)) where
  module _ (s : Slot V) (is : s ≡ get_or slots at s) where
    pub its_number : s.number ≡ n
    its_number = ap (λ (t : Slot V). t.number) is ∙ place.1 s

    -- what is looked up, and what was a hole already
    pub found_so : (view : List (ℕ × V)) → entries_of slots ≡ view → s.value ≡ lookup (is_at (nat_cmp n)) view
    found_so view is_view = sym (value_here slots has.rising n at place.0 s is its_number) ∙ ap (λ (l : List (ℕ × V)). lookup (is_at (nat_cmp n)) l) is_view

    pub hole_so : (view : List (ℕ × V)) → entries_of slots ≡ view → s.value ≡ None → view ≡ remove_entry (is_at (nat_cmp n)) view
    hole_so view is_view none = sym (none_taken n view (sym (found_so view is_view) ∙ none))

    module _ (u : Slot V) (there : u ≡ get_or slots at u) where
      abbrev pub hole : Slot V
      hole = record { number = u.number; value = None }

      pub one_number : u.number ≡ n
      one_number = ap (λ (t : Slot V). t.number) there ∙ place.1 u

      hole_counted : length (entries_of (set slots at hole)) + count s.value ≡ length (entries_of slots) + 0
      hole_counted = set_counted slots has.rising n at place.0 s is its_number hole one_number

      pub taken_so : (view : List (ℕ × V)) → entries_of slots ≡ view → entries_of (set slots at hole) ≡ remove_entry (is_at (nat_cmp n)) view
      taken_so view is_view = set_taken slots has.rising n at place.0 s is its_number hole one_number refl ∙ ap (λ (l : List (ℕ × V)). remove_entry (is_at (nat_cmp n)) l) is_view

      -- a hole is left
      pub left_rising : AreRisingSlots (set slots at hole)
      left_rising = set_rising slots has.rising n at place.0 s is its_number hole one_number

      module _ (some : is_some s.value ≡ true) where
        left_counted : length (entries_of (set slots at hole)) + 1 ≡ length (entries_of slots)
        left_counted = omega (arith, hole_counted, count_some s.value some)

        pub left_fits : holes + 1 ≤ length slots
        left_fits = omega (arith, left_counted, has.counted)

        pub left : holes + 1 ≤ length slots - (holes + 1) → AreSlots (set slots at hole) (holes + 1)
        left few = record {
          rising = left_rising;
          counted = omega (arith, left_counted, has.counted, length-set slots at hole);
          half = omega (arith, few, left_counted, left_fits, has.counted, length-set slots at hole);
        }

    module _ (u : Slot V) (there : u ≡ get_or slots at u) (w : V) where
      abbrev pub one : Slot V
      one = record { number = u.number; value = Some w }

      one_counted : length (entries_of (set slots at one)) + count s.value ≡ length (entries_of slots) + 1
      one_counted = set_counted slots has.rising n at place.0 s is its_number one (one_number u there)

      pub put_so : (view : List (ℕ × V)) → entries_of slots ≡ view → entries_of (set slots at one) ≡ insert_entry nat_cmp view n w
      put_so view is_view = set_put slots has.rising n at place.0 s is its_number one (one_number u there) w refl ∙ ap (λ (l : List (ℕ × V)). insert_entry nat_cmp l n w) is_view

      -- a hole is filled
      pub filled_some : is_some s.value ≡ false → 1 ≤ holes
      filled_some none = omega (arith, one_counted, count_none s.value none, has.counted, entries_fit (set slots at one), length-set slots at one)

      pub filled : is_some s.value ≡ false → AreSlots (set slots at one) (holes - 1)
      filled none = record {
        rising = set_rising slots has.rising n at place.0 s is its_number one (one_number u there);
        counted = omega (arith, one_counted, count_none s.value none, has.counted, filled_some none, length-set slots at one);
        half = omega (arith, has.half, one_counted, count_none s.value none);
      }

      -- a value is replaced
      pub replaced : is_some s.value ≡ true → AreSlots (set slots at one) holes
      replaced some = record {
        rising = set_rising slots has.rising n at place.0 s is its_number one (one_number u there);
        counted = omega (arith, one_counted, count_some s.value some, has.counted, length-set slots at one);
        half = omega (arith, has.half, one_counted, count_some s.value some);
      }

-- where no slot has the number
module _ {V : Type 0} (slots : List (Slot V)) (rising : AreRisingSlots slots) (n at : ℕ)
    (place : (at ≤ length slots) × IsPartitionPoint (λ (s : Slot V). s.number < n) (λ (s : Slot V). n < s.number) slots at) (view : List (ℕ × V)) (is_view : entries_of slots ≡ view) where
  pub missing_so : lookup (is_at (nat_cmp n)) view ≡ None
  missing_so = ap (λ (l : List (ℕ × V)). lookup (is_at (nat_cmp n)) l) (sym is_view) ∙ value_missing slots rising n at place.0 place.1

  pub untaken_so : view ≡ remove_entry (is_at (nat_cmp n)) view
  untaken_so = sym (none_taken n view missing_so)

  pub added_so : (w : V) (more : List (Slot V)) → more ≡ insert slots at (record { number = n; value = Some w }) → entries_of more ≡ insert_entry nat_cmp view n w
  added_so w more is = ap entries_of is ∙ inserted_put slots rising n at place.0 place.1 w ∙ ap (λ (l : List (ℕ × V)). insert_entry nat_cmp l n w) is_view

-- the numbers of a view rise
pub view_rises : {X : Type 0} (slots : List (Slot X)) → AreRisingSlots slots → (view : List (ℕ × X)) → entries_of slots ≡ view → IsStrictlySortedBy nat_cmp (keys_of view)
view_rises {X} slots rising view is_view = subst (λ (l : List (ℕ × X)). IsStrictlySortedBy nat_cmp (keys_of l)) is_view (keys_rise slots rising)

-- no hole is left
pub closed : {X : Type 0} (old new : List (Slot X)) → entries_of new ≡ entries_of old → AreRisingSlots new → length new ≡ length (entries_of old) → AreSlots new 0
closed old new same rising full = record {
  rising = rising;
  counted = omega (arith, ap length same, full);
  half = omega arith;
}

-- a slot is added
pub added : {V : Type 0} (slots more : List (Slot V)) (holes n at : ℕ) → AreSlots slots holes
    → (at ≤ length slots) × IsPartitionPoint (λ (s : Slot V). s.number < n) (λ (s : Slot V). n < s.number) slots at → (w : V)
    → more ≡ insert slots at (record { number = n; value = Some w }) → AreSlots more holes
added slots more holes n at has place w is =
    let one = inserted_counted slots has.rising n at place.0 place.1 w in
    let long = length-insert slots at (record { number = n; value = Some w }) place.0 in
    rw (is) (record {
      rising = inserted_rising slots has.rising n at place.0 place.1 w;
      counted = omega (arith, one, long, has.counted);
      half = omega (arith, has.half, one);
    })
