-- Slots by rising number, and the entries in them.
use Rattle.std.specs.Prelude.{ℕ, ◌+◌, ◌<◌, ◌≤◌, ◌≡◌, List, [], ◌∷◌, length, Option, Some, None, Result, MatchResult}
use Rattle.std.specs.List.{AllByRecursion, HoldsAt}
use Rattle.std.specs.List.Sorted.{IsPartitionPoint}
use Rattle.rising_map.specs.declared.slots.Slot.{Slot}

module _ {V : Type 0} where
  -- The entries, after one with this number where there is a value.
  abbrev pub with_entry : ℕ → Option V → List (ℕ × V) → List (ℕ × V)
  with_entry number None entries = entries
  with_entry number (Some value) entries = (number, value) ∷ entries

  -- The entries in these slots, without the holes.
  abbrev pub entries_of : List (Slot V) → List (ℕ × V)
  entries_of [] = []
  entries_of (s ∷ slots) = with_entry s.number s.value (entries_of slots)

  -- Each slot's number is below those of the slots after it.
  abbrev pub AreRisingSlots : List (Slot V) → Type 0
  AreRisingSlots [] = Unit {0}
  AreRisingSlots (s ∷ slots) = AllByRecursion (λ t. s.number < t.number) slots × AreRisingSlots slots

  -- The index of the slot that has this number, or as an error the number of slots below it where
  -- no slot has it.
  abbrev pub IsFoundSlot : List (Slot V) → ℕ → Result ℕ ℕ → Type 0
  IsFoundSlot slots number found =
      MatchResult found (λ at. (at < length slots) × HoldsAt (λ s. s.number ≡ number) slots at)
      (λ at. (at ≤ length slots) × IsPartitionPoint (λ s. s.number < number) (λ s. number < s.number) slots at)

  -- The slots of a map, `holes` of which are holes.
  pub record AreSlots (slots : List (Slot V)) (holes : ℕ) : Type 0 where
    -- The numbers of the slots rise.
    pub rising : AreRisingSlots slots
    -- Each slot is a hole or an entry.
    pub counted : holes + length (entries_of slots) ≡ length slots
    -- There are no more holes than entries.
    pub half : holes ≤ length (entries_of slots)
