-- What is left to put back after the first of several puts: for `put_all`.
use Rattle.std.proofs.Common.{◌≡◌, ℕ, Bool, true, false, ◌||◌, List, [], ◌∷◌, ◌++◌, map, if◌then◌else◌, Option, Some, IsSome, refl, sym, ap, ◌∙◌, subst}
use Rattle.std.specs.List.{AllByRecursion}
use Rattle.std.proofs.lemmas.Bool.{false≢true}
use Rattle.row_map.specs.Database.{RowView, key_of, IsRising, is_under, row_under}
use Rattle.row_map.specs.Left.{winner, left_by_put, left_by_puts}
use Rattle.row_map.specs.Saved.{Stood, is_saved, AreFirstPut, IsLeft}
use Rattle.row_map.proofs.Exports.{puts_leave}

-- the row under the key of a row
abbrev pub stood_under : List RowView → RowView → Stood
stood_under rows row = (key_of row, row_under (key_of row) rows)

left_false : (a b : Bool) → (a || b) ≡ false → a ≡ false
left_false true b e = e
left_false false b e = refl

right_false : (a b : Bool) → (a || b) ≡ false → b ≡ false
right_false true b e = absurd (false≢true (sym e))
right_false false b e = e

stays : (rows : List RowView) (k : List ℕ) (found : Option RowView) (part rest : List RowView) → is_saved (map (stood_under rows) (part ++ rest)) k ≡ false → left_by_puts k found part ≡ found
stays rows k found [] rest none = refl
stays rows k found (row ∷ part) rest none =
    let other = left_false (is_under k row) (is_saved (map (stood_under rows) (part ++ rest)) k) none in
    ap (λ b. left_by_puts k (if b then Some (winner row found) else found) part) other
    ∙ stays rows k found part rest (right_false (is_under k row) (is_saved (map (stood_under rows) (part ++ rest)) k) none)

some_after : (b : Bool) (row : RowView) (found : Option RowView) → IsSome found → IsSome (if b then Some row else found)
some_after true row found some = refl
some_after false row found some = some

keeps : (k : List ℕ) (found : Option RowView) (new : List RowView) → IsSome found → IsSome (left_by_puts k found new)
keeps k found [] some = some
keeps k found (row ∷ new) some = keeps k (left_by_put k found row) new (some_after (is_under k row) (winner row found) found some)

all_stood : (rows new : List RowView) → AllByRecursion (λ (stood : Stood). stood.1 ≡ row_under stood.0 rows) (map (stood_under rows) new)
all_stood rows [] = tt
all_stood rows (row ∷ new) = (refl, all_stood rows new)

pub left_of_first : (rows new now : List RowView) → IsRising rows → AreFirstPut rows new now → IsLeft rows (map (stood_under rows) new) now
left_of_first rows new now rising first = record {
  stood = all_stood rows new;
  others = λ k none.
      ap (row_under k) first.put ∙ puts_leave k rows first.part rising
      ∙ stays rows k (row_under k rows) first.part first.rest (ap (λ l. is_saved (map (stood_under rows) l) k) (sym first.parts) ∙ none);
  there = λ k some. subst IsSome (sym (ap (row_under k) first.put ∙ puts_leave k rows first.part rising)) (keeps k (row_under k rows) first.part some);
}
