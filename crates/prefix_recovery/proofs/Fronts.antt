-- Values after fronts of an order.
use Rattle.std.proofs.Common.{◌≡◌, ℕ, suc, ◌+◌, ◌≤◌, List, [], ◌∷◌, ◌++◌, length, take, refl, sym, ◌∙◌, ap, arith, length-append}
use Rattle.std.proofs.lemmas.List.{length-take-le}
use Rattle.row_map.specs.Database.{RowView}
use Rattle.path_db.specs.declared.command.Command.{Command}
use Rattle.path_db.specs.Command.{database_after, database_after_all}
use Rattle.store_layout.specs.Opening.{StoreValue}
use Rattle.store_layout.specs.StoreFormat.{db_after}
use Rattle.store_layout.specs.StoreValues.{value_after}
use Rattle.store_open.specs.PathStores.{store_format}
use Rattle.prefix_recovery.specs.Survival.{IsAfterFront}

-- the value after no commands
pub none_after : (value : StoreValue (List RowView)) → value ≡ value_after store_format value []
none_after value = λ i. record { db = value.db; place = same i }
  where
    same : value.place ≡ value.place + 0
    same = omega arith

-- a store applies commands as the database does
folds_alike : (rows : List RowView) (commands : List Command) → db_after store_format rows commands ≡ database_after_all rows commands
unfolding database_after_all
folds_alike rows [] = refl
folds_alike rows (command ∷ commands) = folds_alike (database_after rows command) commands

pub after_front : (start value : StoreValue (List RowView)) (order : List Command) (n : ℕ) → n ≤ length order → value ≡ value_after store_format start (take n order) → IsAfterFront start order value
after_front start value order n inside is = record {
  kept = n;
  inside = inside;
  rows = ap (λ (v : StoreValue (List RowView)). v.db) is ∙ folds_alike start.db (take n order);
  place = ap (λ (v : StoreValue (List RowView)). v.place) is ∙ ap (λ (m : ℕ). start.place + m) (length-take-le n order inside);
}

-- applying commands in two parts
all_in_parts : (rows : List RowView) (front behind : List Command) → database_after_all (database_after_all rows front) behind ≡ database_after_all rows (front ++ behind)
unfolding database_after_all
all_in_parts rows [] behind = refl
all_in_parts rows (command ∷ front) behind = all_in_parts (database_after rows command) front behind

-- a front of an order, and then a front of another one
module _ (start middle last : StoreValue (List RowView)) (order later : List Command) (first : IsAfterFront start order middle) (second : IsAfterFront middle later last) where
  kept_long : length (take first.kept order) ≡ first.kept
  kept_long = length-take-le first.kept order first.inside

  pub split : take (first.kept + second.kept) (take first.kept order ++ later) ≡ take first.kept order ++ take second.kept later
  split =
      ap (λ (n : ℕ). take (n + second.kept) (take first.kept order ++ later)) (sym kept_long)
      ∙ take_past (take first.kept order) later second.kept
    where
      take_past : (front behind : List Command) (n : ℕ) → take (length front + n) (front ++ behind) ≡ front ++ take n behind
      take_past [] behind n = let same : 0 + n ≡ n = omega arith in ap (λ (m : ℕ). take m behind) same
      take_past (c ∷ front) behind n =
          let same : length (c ∷ front) + n ≡ suc (length front + n) = omega arith in
          ap (λ (m : ℕ). take m (c ∷ front ++ behind)) same ∙ ap (λ (l : List Command). c ∷ l) (take_past front behind n)

  pub front_then : IsAfterFront start (take first.kept order ++ later) last
  front_then = record {
    kept = first.kept + second.kept;
    inside = omega (arith, kept_long, second.inside, length-append (take first.kept order) later);
    rows =
        second.rows
        ∙ ap (λ (rows : List RowView). database_after_all rows (take second.kept later)) first.rows
        ∙ all_in_parts start.db (take first.kept order) (take second.kept later)
        ∙ ap (λ (l : List Command). database_after_all start.db l) (sym split);
    place = omega (arith, first.place, second.place);
  }

  pub place_rises : middle.place ≤ last.place
  place_rises = omega (arith, second.place)
