-- The counts of an outcome: for `outcome_laws`.
use Rattle.std.proofs.Common.{◌≡◌, ℕ, ◌+◌, ◌<◌, Bool, true, false, not, cond, List, [], ◌∷◌, length, if◌then◌else◌, Option, Some, refl, ap, arith}
use Rattle.std.specs.List.{count_by}
use Rattle.std.specs.Option.{is_some}
use Rattle.std.specs.declared.cmp.Ordering.{Ordering}
use Rattle.std.specs.declared.cmp.Ordering.TheVariants.{Less, Equal, Greater}
use Rattle.std.proofs.lemmas.List.Sums.{sum_by-cons}
use Rattle.row_map.specs.declared.change.Change.{Change}
use Rattle.row_map.specs.declared.change.Change.TheVariants.{Inserted, Updated, Kept}
use Rattle.path_db.specs.declared.command.Command.TheVariants.{Register, Purge, Remove}
use Rattle.row_map.specs.Database.{RowView, key, key_order, IsRising, is_under, row_under}
use Rattle.row_map.specs.Put.{is_newer, put_before, database_after_put, database_after_puts, change_before, change_of, changes_of}
use Rattle.path_db.specs.Outcome.{capped, is_inserted, is_updated, is_kept}
use Rattle.path_db.specs.Command.{database_after, outcome_of}
use Rattle.row_map.specs.Drops.{is_valid_beyond, database_after_removal}
use Rattle.path_db.specs.OutcomeLaws.{EachPutIsCounted, RowsAreCounted}
use Rattle.row_map.proofs.Exports.{others_behind, none_removed}
use Rattle.path_db.proofs.Drops.{left_and_dropped}

abbrev pub one_if : Bool → ℕ
one_if b = if b then 1 else 0

-- ---- puts

replaced_counted : (row old : RowView) (others : List RowView) (newer : Bool) → length ((if newer then row else old) ∷ others) ≡ length (old ∷ others) + one_if (is_inserted (if newer then Updated else Kept))
replaced_counted row old others true = omega arith
replaced_counted row old others false = omega arith

counted_before : (o : Ordering) (row old : RowView) (others later : List RowView) (change : Change) → length later ≡ length others + one_if (is_inserted change) → length (put_before o row old others later) ≡ length (old ∷ others) + one_if (is_inserted (change_before o row old change))
counted_before Less row old others later change so = omega arith
counted_before Equal row old others later change so = replaced_counted row old others (is_newer row old)
counted_before Greater row old others later change so = omega (arith, so)

put_counted : (rows : List RowView) (row : RowView) → length (database_after_put rows row) ≡ length rows + one_if (is_inserted (change_of rows row))
unfolding database_after_put change_of
put_counted [] row = refl
put_counted (old ∷ others) row = counted_before (key_order row old) row old others (database_after_put others row) (change_of others row) (put_counted others row)

puts_counted : (rows new : List RowView) → length (database_after_puts rows new) ≡ length rows + count_by is_inserted (changes_of rows new)
unfolding database_after_puts changes_of
puts_counted rows [] = omega arith
puts_counted rows (row ∷ new) =
    omega (arith, puts_counted (database_after_put rows row) new, put_counted rows row, sum_by-cons (λ c. one_if (is_inserted c)) (change_of rows row) (changes_of (database_after_put rows row) new))

changes_counted : (rows new : List RowView) → length (changes_of rows new) ≡ length new
unfolding changes_of
changes_counted rows [] = refl
changes_counted rows (row ∷ new) = omega (arith, changes_counted (database_after_put rows row) new)

one_counted : (change : Change) → one_if (is_inserted change) + one_if (is_updated change) + one_if (is_kept change) ≡ 1
one_counted Inserted = refl
one_counted Updated = refl
one_counted Kept = refl

each_counted : (changes : List Change) → count_by is_inserted changes + count_by is_updated changes + count_by is_kept changes ≡ length changes
each_counted [] = refl
each_counted (change ∷ changes) =
    omega (arith, each_counted changes, one_counted change, sum_by-cons (λ c. one_if (is_inserted c)) change changes, sum_by-cons (λ c. one_if (is_updated c)) change changes, sum_by-cons (λ c. one_if (is_kept c)) change changes)

pub each_put_is_counted : EachPutIsCounted
unfolding outcome_of
each_put_is_counted rows new few = omega (arith, each_counted (changes_of rows new), changes_counted rows new)

-- ---- drops

removed_first : (b : Bool) (row : RowView) (rows left : List RowView) (found : Option RowView) → (b ≡ true → left ≡ rows) → length left + one_if (is_some found) ≡ length rows
    → length (cond (not b) (row ∷ left) left) + one_if (is_some (if b then Some row else found)) ≡ length (row ∷ rows)
removed_first true row rows left found none so = omega (arith, ap length (none refl))
removed_first false row rows left found none so = omega (arith, so)

pub removed_counted : (k : List ℕ) (rows : List RowView) → IsRising rows → length (database_after_removal rows k) + one_if (is_some (row_under k rows)) ≡ length rows
removed_counted k [] rising = refl
removed_counted k (row ∷ rows) rising =
    removed_first (is_under k row) row rows (database_after_removal rows k) (row_under k rows) (λ e. none_removed k rows (others_behind k row rows e rising.0)) (removed_counted k rows rising.1)

-- fewer rows are left after a row is removed
pub fewer_after : (k : List ℕ) (row : RowView) (rows : List RowView) → IsRising rows → row_under k rows ≡ Some row → length (database_after_removal rows k) < length rows
fewer_after k row rows rising found = omega (arith, removed_counted k rows rising, ap (λ f. one_if (is_some f)) found)

capped_one : (b : Bool) → capped (one_if b) ≡ one_if b
capped_one true = refl
capped_one false = refl

pub rows_are_counted : RowsAreCounted
unfolding database_after outcome_of
rows_are_counted rows (Register new) rising few registered =
    omega (arith, puts_counted rows new, each_counted (changes_of rows new), changes_counted rows new)
rows_are_counted rows (Purge moment) rising few registered = omega (arith, left_and_dropped (is_valid_beyond moment) rows)
rows_are_counted rows (Remove kind id) rising few registered =
    omega (arith, removed_counted (key kind id) rows rising, capped_one (is_some (row_under (key kind id) rows)))
