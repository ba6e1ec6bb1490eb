-- Slots without their holes: for `close_holes`.
use Rattle.std.proofs.Common.{◌≡◌, ℕ, suc, ◌<◌, List, [], ◌∷◌, length, Option, Some, None, Bool, true, false, cond, refl, ap, ◌∙◌}
use Rattle.std.specs.Option.{is_some}
use Rattle.std.specs.List.{AllByRecursion, filter}
use Rattle.rising_map.specs.declared.slots.Slot.{Slot}
use Rattle.rising_map.specs.Slots.{entries_of, with_entry, AreRisingSlots}

module _ {V : Type 0} where
  abbrev pub is_full : Slot V → Bool
  is_full s = is_some s.value

  abbrev pub full : List (Slot V) → List (Slot V)
  full slots = filter is_full slots

  first_entry : (s : Slot V) (value : Option V) (slots : List (Slot V)) → s.value ≡ value → entries_of (cond (is_some value) (s ∷ slots) slots) ≡ with_entry s.number value (entries_of slots)
  first_entry s None slots is = refl
  first_entry s (Some v) slots is = ap (λ w. with_entry s.number w (entries_of slots)) is

  pub same_entries : (slots : List (Slot V)) → entries_of (full slots) ≡ entries_of slots
  same_entries [] = refl
  same_entries (s ∷ slots) = first_entry s s.value (full slots) refl ∙ ap (with_entry s.number s.value) (same_entries slots)

  first_counted : (s : Slot V) (value : Option V) (slots : List (Slot V)) (entries : List (ℕ × V)) → length slots ≡ length entries → length (cond (is_some value) (s ∷ slots) slots) ≡ length (with_entry s.number value entries)
  first_counted s None slots entries same = same
  first_counted s (Some v) slots entries same = ap suc same

  pub all_full : (slots : List (Slot V)) → length (full slots) ≡ length (entries_of slots)
  all_full [] = refl
  all_full (s ∷ slots) = first_counted s s.value (full slots) (entries_of slots) (all_full slots)

  passed_above : (n : ℕ) (b : Bool) (s : Slot V) (slots : List (Slot V)) → n < s.number → AllByRecursion (λ t. n < t.number) slots → AllByRecursion (λ t. n < t.number) (cond b (s ∷ slots) slots)
  passed_above n true s slots one all = (one, all)
  passed_above n false s slots one all = all

  above_full : (n : ℕ) (slots : List (Slot V)) → AllByRecursion (λ t. n < t.number) slots → AllByRecursion (λ t. n < t.number) (full slots)
  above_full n [] all = tt
  above_full n (s ∷ slots) all = passed_above n (is_full s) s (full slots) all.0 (above_full n slots all.1)

  passed_rising : (b : Bool) (s : Slot V) (slots : List (Slot V)) → AllByRecursion (λ t. s.number < t.number) slots → AreRisingSlots slots → AreRisingSlots (cond b (s ∷ slots) slots)
  passed_rising true s slots first rest = (first, rest)
  passed_rising false s slots first rest = rest

  pub still_rising : (slots : List (Slot V)) → AreRisingSlots slots → AreRisingSlots (full slots)
  still_rising [] rising = tt
  still_rising (s ∷ slots) rising = passed_rising (is_full s) s (full slots) (above_full s.number slots rising.0) (still_rising slots rising.1)
