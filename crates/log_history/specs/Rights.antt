-- The rule of a history that only grows, and what one step of it makes known. Who appends has a right,
-- which is a cell of the book that is not at home. The step that appends brings the cell home.
use Rattle.std.specs.Prelude.{ℕ, ◌≡◌, ◌<◌, ◌≤◌, true, false, List, [], ◌∷◌, ◌++◌, length}
use mathlib.Core.List.{IsPrefix}
use Rattle.logbook.specs.Pages.{Cell, cell, Step, View, Book, Named, Nib, nib, may_write, may_make}
use Rattle.log_history.specs.declared.rule.Entry.{Entry}

-- The entry of a step that appends none.
abbrev pub no_entry : Entry
no_entry = record { accepted = []; committed = 0; next = 0 }

-- The key of the right to append the first entry. A book has the cells 0 and 1 from the start.
abbrev pub FIRST_KEY : ℕ
FIRST_KEY = 2

-- The word that is 1 once a history has an owner.
abbrev pub head_of : Book → Named
head_of book = record { tracked = true; key = 0; book = book }

-- The key of the right to append after these entries, where that of the first one is given.
abbrev pub right_after : ℕ → List Entry → ℕ
right_after key [] = key
right_after key (entry ∷ entries) = right_after entry.next entries

-- The right of a key is spent.
abbrev pub IsSpent : List Cell → ℕ → Type 0
IsSpent cells key = (key < length cells) × ((cell cells key).1 ≡ true)

-- The rights by which these entries were appended are spent, where that of the first one is given.
abbrev pub AreSpent : List Cell → ℕ → List Entry → Type 0
AreSpent cells key [] = Unit {0}
AreSpent cells key (entry ∷ entries) = IsSpent cells key × AreSpent cells entry.next entries

-- The rule: the rights of all entries are spent. The first cell is 0 until the history has an owner.
pub record IsKept (cells : List Cell) (log : List Entry) : Type 0 where
  pub some : 0 < length cells
  pub home : (cell cells 0).1 ≡ true
  pub flag : (cell cells 0).0 ≤ 1
  pub fresh : (cell cells 0).0 ≡ 0 → (length cells ≡ FIRST_KEY) × (log ≡ [])
  pub spent : AreSpent cells FIRST_KEY log

-- The right of a key, which is not spent.
abbrev pub MayAppend : Nib → ℕ → Type 0
MayAppend right key = (right.right ≡ may_write) × (right.key ≡ key)

-- A new right is there. Where the history had no owner yet, it is the first one, and the history is
-- empty.
abbrev pub IsIssued : Step Entry → View Entry ℕ → ℕ → View Entry ℕ → Type 0
IsIssued step before found after =
    (after.1.0 ≡ nib may_make after.1.0.key 0) × (found ≡ 0 → (after.1.0.key ≡ FIRST_KEY) × (after.0 ≡ []))

-- The entry was appended to all that had been seen.
abbrev pub IsAppended : Step Entry → View Entry ℕ → ℕ → View Entry ℕ → Type 0
IsAppended step before found after = after.0 ≡ before.0 ++ step.ask ∷ []

-- The right is as it was. The entries after which it may append are all that were seen.
abbrev pub IsWhole : Step Entry → View Entry ℕ → ℕ → View Entry ℕ → Type 0
IsWhole step before found after =
    (after.1.0 ≡ before.1.0) × ((front : List Entry) → IsPrefix front before.0 → MayAppend before.1.0 (right_after FIRST_KEY front) → before.0 ≡ front)
