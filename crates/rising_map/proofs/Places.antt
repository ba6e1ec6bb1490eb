-- What a look-up, an insertion and a removal do at the place of a number among slots that rise.
use Rattle.std.proofs.Common.{◌≡◌, ℕ, suc, ◌+◌, ◌<◌, ◌≤◌, List, [], ◌∷◌, ◌++◌, length, get_or, set, take, drop, Option, Some, None, sym, ap, ◌∙◌, subst, arith, length-take-le, length-drop, take-append-drop}
use Rattle.std.specs.List.{AllByRecursion, insert}
use Rattle.std.specs.List.Sorted.{IsPartitionPoint, IsStrictlySortedBy}
use Rattle.std.specs.Ordering.{nat_cmp}
use Rattle.std.specs.declared.cmp.Ordering.TheVariants.{Less}
use Rattle.std.specs.BTreeMap.{insert_entry, is_at}
use Rattle.std.specs.Map.{keys_of, lookup, remove_entry}
use Rattle.std.proofs.lemmas.List.{set_split, set-get_or, get_or-take, get_or-drop, get_or_read}
use Rattle.rising_map.specs.declared.slots.Slot.{Slot}
use Rattle.rising_map.specs.Slots.{entries_of, with_entry, AreRisingSlots}
use Rattle.rising_map.proofs.Rising.{all_from, rises, rising_inserted, rising_replaced}
use Rattle.rising_map.proofs.Entries.{less, found_behind, taken_behind, put_behind, not_found, put_first, found_here, taken_here, put_here}

-- how many entries a slot of this value has
abbrev pub count : {V : Type 0} → Option V → ℕ
count None = 0
count (Some v) = 1

module _ {V : Type 0} where
  first_counted : (number : ℕ) (value : Option V) (entries : List (ℕ × V)) → length (with_entry number value entries) ≡ count value + length entries
  first_counted number None entries = omega arith
  first_counted number (Some v) entries = omega arith

  counted : (below above : List (Slot V)) → length (entries_of (below ++ above)) ≡ length (entries_of below) + length (entries_of above)
  counted [] above = omega arith
  counted (s ∷ below) above =
      omega (arith, first_counted s.number s.value (entries_of (below ++ above)), first_counted s.number s.value (entries_of below), counted below above)

  middle_counted : (below above : List (Slot V)) (s : Slot V) → length (entries_of (below ++ s ∷ above)) ≡ length (entries_of below) + (count s.value + length (entries_of above))
  middle_counted below above s = omega (arith, counted below (s ∷ above), first_counted s.number s.value (entries_of above))

  above_keys_by : (n m : ℕ) (value : Option V) (entries : List (ℕ × V)) → n < m → AllByRecursion (λ k. nat_cmp n k ≡ Less) (keys_of entries) → AllByRecursion (λ k. nat_cmp n k ≡ Less) (keys_of (with_entry m value entries))
  above_keys_by n m None entries one all = all
  above_keys_by n m (Some v) entries one all = (less n m one, all)

  above_keys : (n : ℕ) (slots : List (Slot V)) → AllByRecursion (λ s. n < s.number) slots → AllByRecursion (λ k. nat_cmp n k ≡ Less) (keys_of (entries_of slots))
  above_keys n [] all = tt
  above_keys n (s ∷ slots) all = above_keys_by n s.number s.value (entries_of slots) all.0 (above_keys n slots all.1)

  keys_rise_by : (n : ℕ) (value : Option V) (entries : List (ℕ × V)) → AllByRecursion (λ k. nat_cmp n k ≡ Less) (keys_of entries) → IsStrictlySortedBy nat_cmp (keys_of entries)
      → IsStrictlySortedBy nat_cmp (keys_of (with_entry n value entries))
  unfolding IsStrictlySortedBy
  keys_rise_by n None entries all rising = rising
  keys_rise_by n (Some v) entries all rising = (all, rising)

  -- the entries' numbers rise
  pub keys_rise : (slots : List (Slot V)) → AreRisingSlots slots → IsStrictlySortedBy nat_cmp (keys_of (entries_of slots))
  unfolding IsStrictlySortedBy
  keys_rise [] rising = tt
  keys_rise (s ∷ slots) rising = keys_rise_by s.number s.value (entries_of slots) (above_keys s.number slots rising.0) (keys_rise slots rising.1)

-- at a slot of the number
module _ {V : Type 0} (slots : List (Slot V)) (rising : AreRisingSlots slots) (n at : ℕ) (inside : at < length slots) (s : Slot V) (is : s ≡ get_or slots at s) (same : s.number ≡ n) where
  abbrev below : List (Slot V)
  below = take at slots

  abbrev above : List (Slot V)
  above = drop (suc at) slots

  here : (d : Slot V) → (get_or slots at d).number ≡ n
  here d = ap (λ (t : Slot V). t.number) (sym (get_or_read slots at s inside is d)) ∙ same

  all_below : AllByRecursion (λ (t : Slot V). t.number < n) below
  all_below = all_from (λ (t : Slot V). t.number < n) below (λ k d lt.
      let long : length below ≡ at = length-take-le at slots (omega arith) in
      let under : k < at = omega (arith, lt, long) in
      let up = rises slots rising k at d under inside in
      let one = here d in
      rw get_or-take (omega (arith, up, one)))

  all_above : AllByRecursion (λ (t : Slot V). n < t.number) above
  all_above = all_from (λ (t : Slot V). n < t.number) above (λ k d lt.
      let long = length-drop (suc at) slots in
      let up = rises slots rising at (suc at + k) d (omega arith) (omega (arith, lt, long)) in
      let one = here d in
      rw get_or-drop (omega (arith, up, one)))

  apart : slots ≡ below ++ s ∷ above
  apart = sym (set-get_or slots at s) ∙ set_split slots at (get_or slots at s) inside ∙ ap (λ (t : Slot V). below ++ t ∷ above) (sym is)

  pub value_here : lookup (is_at (nat_cmp n)) (entries_of slots) ≡ s.value
  value_here =
      ap (λ (l : List (Slot V)). lookup (is_at (nat_cmp n)) (entries_of l)) apart ∙ found_behind n below (s ∷ above) all_below
      ∙ found_here n s.number s.value (entries_of above) same (not_found n above all_above)

  module _ (t : Slot V) (its : t.number ≡ n) where
    pub set_rising : AreRisingSlots (set slots at t)
    set_rising = rw (set_split slots at t inside) (rising_replaced below above s t (its ∙ sym same) (subst AreRisingSlots apart rising))

    pub set_counted : length (entries_of (set slots at t)) + count s.value ≡ length (entries_of slots) + count t.value
    set_counted =
        omega (arith, ap (λ (l : List (Slot V)). length (entries_of l)) (set_split slots at t inside), ap (λ (l : List (Slot V)). length (entries_of l)) apart, middle_counted below above s, middle_counted below above t)

    pub set_put : (w : V) → t.value ≡ Some w → entries_of (set slots at t) ≡ insert_entry nat_cmp (entries_of slots) n w
    set_put w is_w =
        ap entries_of (set_split slots at t inside)
        ∙ sym (
        ap (λ (l : List (Slot V)). insert_entry nat_cmp (entries_of l) n w) apart
        ∙ put_behind n w below (s ∷ above) (t ∷ above) all_below (
        put_here n s.number s.value w (entries_of above) same (put_first n w above all_above)
        ∙ ap (λ (m : ℕ). (m, w) ∷ entries_of above) (same ∙ sym its) ∙ ap (λ (v : Option V). with_entry t.number v (entries_of above)) (sym is_w)
        )
        )

    pub set_taken : t.value ≡ None → entries_of (set slots at t) ≡ remove_entry (is_at (nat_cmp n)) (entries_of slots)
    set_taken is_none =
        ap entries_of (set_split slots at t inside)
        ∙ sym (
        ap (λ (l : List (Slot V)). remove_entry (is_at (nat_cmp n)) (entries_of l)) apart
        ∙ taken_behind n below (s ∷ above) (t ∷ above) all_below (
        taken_here n s.number s.value (entries_of above) same (not_found n above all_above)
        ∙ ap (λ (v : Option V). with_entry t.number v (entries_of above)) (sym is_none)
        )
        )

-- where no slot has the number
module _ {V : Type 0} (slots : List (Slot V)) (rising : AreRisingSlots slots) (n at : ℕ) (inside : at ≤ length slots)
    (parts : IsPartitionPoint (λ (s : Slot V). s.number < n) (λ (s : Slot V). n < s.number) slots at) where
  abbrev before : List (Slot V)
  before = take at slots

  abbrev after : List (Slot V)
  after = drop at slots

  all_before : AllByRecursion (λ (t : Slot V). t.number < n) before
  all_before = all_from (λ (t : Slot V). t.number < n) before (λ k d lt.
      let long : length before ≡ at = length-take-le at slots inside in
      let under : k < at = omega (arith, lt, long) in
      rw get_or-take (parts.0 k d (omega arith) under))

  all_after : AllByRecursion (λ (t : Slot V). n < t.number) after
  all_after = all_from (λ (t : Slot V). n < t.number) after (λ k d lt.
      let long = length-drop at slots in
      rw get_or-drop (parts.1 (at + k) d (omega arith) (omega (arith, lt, long))))

  split : slots ≡ before ++ after
  split = sym (take-append-drop at slots)

  pub value_missing : lookup (is_at (nat_cmp n)) (entries_of slots) ≡ None
  value_missing = ap (λ (l : List (Slot V)). lookup (is_at (nat_cmp n)) (entries_of l)) split ∙ found_behind n before after all_before ∙ not_found n after all_after

  module _ (w : V) where
    abbrev new : Slot V
    new = record { number = n; value = Some w }

    pub inserted_rising : AreRisingSlots (insert slots at new)
    inserted_rising = rising_inserted before after new (subst AreRisingSlots split rising) all_before all_after

    pub inserted_counted : length (entries_of (insert slots at new)) ≡ length (entries_of slots) + 1
    inserted_counted =
        omega (arith, ap (λ (l : List (Slot V)). length (entries_of l)) split, counted before after, middle_counted before after new)

    pub inserted_put : entries_of (insert slots at new) ≡ insert_entry nat_cmp (entries_of slots) n w
    inserted_put =
        sym (
        ap (λ (l : List (Slot V)). insert_entry nat_cmp (entries_of l) n w) split
        ∙ put_behind n w before after (new ∷ after) all_before (put_first n w after all_after)
        )
