-- The row under a key after several puts is the newest of its candidates: for `command_laws`.
use Rattle.std.proofs.Common.{◌≡◌, ℕ, ◌<◌, ◌≤◌, Bool, true, false, cond, List, [], ◌∷◌, ◌++◌, if◌then◌else◌, Option, Some, None, MatchOption, refl, sym, ap, subst, arith}
use Rattle.std.specs.List.{AllByRecursion, filter}
use Rattle.std.specs.Option.{option_to_list}
use Rattle.std.proofs.lemmas.Bool.{ltb-true, ltb-false}
use Rattle.path_db.specs.declared.command.Command.TheVariants.{Register}
use Rattle.row_map.specs.Database.{RowView, is_under, row_under}
use Rattle.row_map.specs.Put.{is_newer}
use Rattle.path_db.specs.CommandLaws.{candidates, IsNewest, RegisterLeavesNewest}
use Rattle.row_map.specs.Left.{winner, left_by_puts}
use Rattle.path_db.proofs.Commands.{command_leaves}

abbrev AreOlder : RowView → List RowView → Type 0
AreOlder row rows = AllByRecursion (λ other. other.1.timestamp < row.1.timestamp) rows

-- the newest is at least as new as the first
first_at_most : (first newest : RowView) (rows before after : List RowView) → first ∷ rows ≡ before ++ newest ∷ after → AreOlder newest before → first.1.timestamp ≤ newest.1.timestamp
first_at_most first newest rows [] after split older =
    let one : first ≡ newest = cc in omega (arith, ap (λ (row : RowView). row.1.timestamp) one)
first_at_most first newest rows (b ∷ before) after split older =
    let one : first ≡ b = cc in omega (arith, ap (λ (row : RowView). row.1.timestamp) one, older.0)

-- the newest row after a strictly older row
behind_older : (old row : RowView) (rows : List RowView) (newest : RowView) → is_newer row old ≡ true → IsNewest (row ∷ rows) newest → IsNewest (old ∷ row ∷ rows) newest
behind_older old row rows newest newer all =
    let strictly : old.1.timestamp < row.1.timestamp = ltb-true _ _ newer in
    record {
      before = old ∷ all.before;
      after = all.after;
      split = ap (λ l. old ∷ l) all.split;
      older = (omega (arith, strictly, first_at_most row newest rows all.before all.after all.split all.older), all.older);
      no_newer = all.no_newer;
    }

-- the newest of rows with one more row, which is not newer than the first
behind_first : (old row newest : RowView) (rows before after : List RowView) → row.1.timestamp ≤ old.1.timestamp → old ∷ rows ≡ before ++ newest ∷ after → AreOlder newest before → AllByRecursion (λ other. other.1.timestamp ≤ newest.1.timestamp) after → IsNewest (old ∷ row ∷ rows) newest
behind_first old row newest rows [] after most split older no_newer =
    let one : old ≡ newest = cc in
    record {
      before = [];
      after = row ∷ after;
      split = cc;
      older = tt;
      no_newer = (omega (arith, most, ap (λ (r : RowView). r.1.timestamp) one), no_newer);
    }
behind_first old row newest rows (b ∷ before) after most split older no_newer =
    let one : old ≡ b = cc in
    record {
      before = b ∷ row ∷ before;
      after = after;
      split = cc;
      older = (older.0, (omega (arith, most, ap (λ (r : RowView). r.1.timestamp) one, older.0), older.1));
      no_newer = no_newer;
    }

behind_newest : (old row : RowView) (rows : List RowView) (newest : RowView) → is_newer row old ≡ false → IsNewest (old ∷ rows) newest → IsNewest (old ∷ row ∷ rows) newest
behind_newest old row rows newest older all =
    behind_first old row newest rows all.before all.after (ltb-false _ _ older) all.split all.older all.no_newer

-- there is no row and no candidate, or the row is the newest of the candidates
abbrev IsNewestOf : List RowView → Option RowView → Type 0
IsNewestOf rows found = MatchOption found (rows ≡ []) (λ row. IsNewest rows row)

with_more : (found : Option RowView) (first : RowView) (rows others : List RowView) → ((newest : RowView) → IsNewest (first ∷ rows) newest → IsNewest others newest) → IsNewestOf (first ∷ rows) found → IsNewestOf others found
with_more None first rows others more none = absurd (cc)
with_more (Some newest) first rows others more all = more newest all

module _ (k : List ℕ) (new : List RowView) (later : (found : Option RowView) → IsNewestOf (option_to_list found ++ filter (is_under k) new) (left_by_puts k found new)) where
  either_newest : (newer : Bool) (row old : RowView) → is_newer row old ≡ newer → IsNewestOf (old ∷ row ∷ filter (is_under k) new) (left_by_puts k (Some (if newer then row else old)) new)
  either_newest true row old e = with_more (left_by_puts k (Some row) new) row (filter (is_under k) new) (old ∷ row ∷ filter (is_under k) new) (λ newest all. behind_older old row (filter (is_under k) new) newest e all) (later (Some row))
  either_newest false row old e = with_more (left_by_puts k (Some old) new) old (filter (is_under k) new) (old ∷ row ∷ filter (is_under k) new) (λ newest all. behind_newest old row (filter (is_under k) new) newest e all) (later (Some old))

  one_more : (b : Bool) (found : Option RowView) (row : RowView) → IsNewestOf (option_to_list found ++ cond b (row ∷ filter (is_under k) new) (filter (is_under k) new)) (left_by_puts k (if b then Some (winner row found) else found) new)
  one_more false found row = later found
  one_more true None row = later (Some row)
  one_more true (Some old) row = either_newest (is_newer row old) row old refl

newest_of : (k : List ℕ) (found : Option RowView) (new : List RowView) → IsNewestOf (option_to_list found ++ filter (is_under k) new) (left_by_puts k found new)
newest_of k None [] = refl
newest_of k (Some old) [] = record { before = []; after = []; split = refl; older = tt; no_newer = tt }
newest_of k found (row ∷ new) = one_more k new (λ f. newest_of k f new) (is_under k row) found row

pub register_leaves_newest : RegisterLeavesNewest
register_leaves_newest k rows new rising =
    subst (λ found. IsNewestOf (candidates k rows new) found) (sym (command_leaves k rows (Register new) rising)) (newest_of k (row_under k rows) new)
