-- Several registrations, one after the other, as one registration of all their rows.
use Rattle.std.proofs.Common.{◌≡◌, ℕ, List, [], ◌∷◌, ◌++◌, Option, refl, sym, ◌∙◌, subst}
use Rattle.path_db.specs.declared.command.Command.TheVariants.{Register}
use Rattle.row_map.specs.Database.{RowView, IsRising, IsDatabase, AreWhole, row_under}
use Rattle.path_db.specs.Command.{database_after, database_after_all}
use Rattle.path_db.specs.CommandLaws.{left_under_all, candidates, KeysAreSeparate, CommandsKeepDatabase, RegisterLeavesNewest}
use Rattle.row_map.specs.Left.{left_by_put, left_by_puts}
use Rattle.path_db.specs.Agreement.{register_commands, all_rows_of}
use Rattle.path_db.proofs.AgreedNewest.{IsNewestOf}

puts_append : (k : List ℕ) (found : Option RowView) (xs ys : List RowView) → left_by_puts k found (xs ++ ys) ≡ left_by_puts k (left_by_puts k found xs) ys
puts_append k found [] ys = refl
puts_append k found (x ∷ xs) ys = puts_append k (left_by_put k found x) xs ys

registrations_leave : (k : List ℕ) (found : Option RowView) (registrations : List (List RowView)) → left_under_all k found (register_commands registrations) ≡ left_by_puts k found (all_rows_of registrations)
registrations_leave k found [] = refl
registrations_leave k found (rows ∷ registrations) =
    registrations_leave k (left_by_puts k found rows) registrations ∙ sym (puts_append k found rows (all_rows_of registrations))

-- if all rows of two lists together are whole, the rows of each list are
whole_first : (xs ys : List RowView) → AreWhole (xs ++ ys) → AreWhole xs
whole_first [] ys all = tt
whole_first (x ∷ xs) ys all = (all.0, whole_first xs ys all.1)

whole_rest : (xs ys : List RowView) → AreWhole (xs ++ ys) → AreWhole ys
whole_rest [] ys all = all
whole_rest (x ∷ xs) ys all = whole_rest xs ys all.1

module _ (separate : KeysAreSeparate) (keep : CommandsKeepDatabase) (newest : RegisterLeavesNewest) where
  pub database_left : (rows : List RowView) (registrations : List (List RowView)) → IsDatabase rows → AreWhole (all_rows_of registrations) → IsDatabase (database_after_all rows (register_commands registrations))
  unfolding database_after_all
  database_left rows [] is whole = is
  database_left rows (first ∷ registrations) is whole =
      database_left (database_after rows (Register first)) registrations (keep rows (Register first) is (whole_first first (all_rows_of registrations) whole)) (whole_rest first (all_rows_of registrations) whole)

  -- the row under each key is the newest of all its candidates
  under_each : (k : List ℕ) (rows : List RowView) (registrations : List (List RowView)) → IsRising rows
      → row_under k (database_after rows (Register (all_rows_of registrations))) ≡ row_under k (database_after_all rows (register_commands registrations))
  unfolding database_after_all
  under_each k rows registrations rising =
      separate k rows (Register (all_rows_of registrations) ∷ []) rising ∙ sym (registrations_leave k (row_under k rows) registrations) ∙ sym (separate k rows (register_commands registrations) rising)

  pub newest_left : (k : List ℕ) (rows : List RowView) (registrations : List (List RowView)) → IsRising rows
      → IsNewestOf (candidates k rows (all_rows_of registrations)) (row_under k (database_after_all rows (register_commands registrations)))
  newest_left k rows registrations rising =
      subst (λ (found : Option RowView). IsNewestOf (candidates k rows (all_rows_of registrations)) found) (under_each k rows registrations rising)
      (newest k rows (all_rows_of registrations) rising)
