use Rattle.std.proofs.Common.{◌≡◌}
use Rattle.row_map.specs.Database.{rows_len}
use Rattle.row_map.specs.Put.{database_after_puts, changes_of}
use Rattle.path_db.specs.Outcome.{outcome_of_puts}
use Rattle.row_map.specs.Row.{row_views}
use Rattle.path_db.proofs.all_puts.put_rows.Given as goal

abbrev pub invariant-loop-row : goal.invariant-loop-row
invariant-loop-row l = record {
  counted : l.bytes ≡ rows_len l.rows;
  put : l.rows ≡ database_after_puts l.fn.rows (row_views l.yielded);
  told : l.outcome ≡ outcome_of_puts (changes_of l.fn.rows (row_views l.yielded));
}
