-- Registrations commute, and can be repeated.
use Rattle.std.proofs.Common.{◌≡◌, ℕ, List, sym, ◌∙◌}
use Rattle.std.specs.List.{Contains, filter}
use Rattle.std.proofs.lemmas.List.Elements.{Contains-append_right}
use Rattle.std.specs.Option.{option_to_list}
use Rattle.path_db.specs.declared.command.Command.TheVariants.{Register}
use Rattle.row_map.specs.Database.{RowView, is_under, row_under}
use Rattle.path_db.specs.Command.{database_after, database_after_all}
use Rattle.path_db.specs.CommandLaws.{candidates, KeysAreSeparate, CommandsKeepDatabase, DatabaseIsCanonical, RegisterLeavesNewest}
use Rattle.path_db.specs.Agreement.{register_commands, all_rows_of, HaveDistinctTimestamps, RegistrationsCommute, RegistrationsRepeat}
use Rattle.row_map.proofs.Exports.{its_key}
use Rattle.path_db.proofs.Members.{passed, passes_in}
use Rattle.path_db.proofs.AgreedNewest.{agree, stays}
use Rattle.path_db.proofs.Folds.{database_left, newest_left}

-- rows of one list that are in another list are in it under a key too
under_too : (k : List ℕ) (xs ys : List RowView) → ((row : RowView) → Contains xs row → Contains ys row) → (row : RowView) → Contains (filter (is_under k) xs) row → Contains (filter (is_under k) ys) row
under_too k xs ys into row found =
    let both = passed (is_under k) xs row found in passes_in (is_under k) ys row (into row both.0) both.1

apart_under : (k : List ℕ) (xs : List RowView) → HaveDistinctTimestamps xs → (row other : RowView) → Contains (filter (is_under k) xs) row → Contains (filter (is_under k) xs) other → row.1.timestamp ≡ other.1.timestamp → row ≡ other
apart_under k xs apart row other found found_too same =
    let one = passed (is_under k) xs row found in
    let two = passed (is_under k) xs other found_too in
    apart row other one.0 two.0 (sym (its_key k row one.1) ∙ its_key k other two.1) same

-- what was registered under a key is a candidate
in_candidates : (k : List ℕ) (rows new : List RowView) (row : RowView) → Contains (filter (is_under k) new) row → Contains (candidates k rows new) row
in_candidates k rows new row found = Contains-append_right (option_to_list (row_under k rows)) (filter (is_under k) new) row found

module _ (separate : KeysAreSeparate) (keep : CommandsKeepDatabase) (newest : RegisterLeavesNewest) (canonical : DatabaseIsCanonical) where
  pub commute : RegistrationsCommute
  commute rows one other is whole whole_too same apart =
      canonical (database_after_all rows (register_commands one)) (database_after_all rows (register_commands other))
      (database_left separate keep newest rows one is whole).rising (database_left separate keep newest rows other is whole_too).rising
      (λ k. agree (filter (is_under k) (all_rows_of one)) (filter (is_under k) (all_rows_of other))
      (under_too k (all_rows_of one) (all_rows_of other) (λ row. (same row).0)) (under_too k (all_rows_of other) (all_rows_of one) (λ row. (same row).1))
      (apart_under k (all_rows_of one) apart) (row_under k rows) _ _
      (newest_left separate keep newest k rows one is.rising) (newest_left separate keep newest k rows other is.rising))

  pub repeat : RegistrationsRepeat
  repeat rows registrations again is whole whole_again known =
      let left = database_left separate keep newest rows registrations is whole in
      canonical (database_after (database_after_all rows (register_commands registrations)) (Register again)) (database_after_all rows (register_commands registrations))
      (keep (database_after_all rows (register_commands registrations)) (Register again) left whole_again).rising left.rising
      (λ k. stays (candidates k rows (all_rows_of registrations)) (filter (is_under k) again)
      (λ row found. in_candidates k rows (all_rows_of registrations) row (under_too k again (all_rows_of registrations) known row found))
      (row_under k (database_after_all rows (register_commands registrations))) _
      (newest_left separate keep newest k rows registrations is.rising)
      (newest k (database_after_all rows (register_commands registrations)) again left.rising))
