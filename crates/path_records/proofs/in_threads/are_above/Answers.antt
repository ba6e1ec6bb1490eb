use Rattle.std.proofs.Common.{sym, ◌∙◌}
use Rattle.row_map.specs.Row.{row_views}
use Rattle.path_records.proofs.RowRuns.{database_behind, found_above}
use Rattle.path_records.proofs.in_threads.are_above.Goals as goal

pub returns-in-Some : goal.returns-in-Some
returns-in-Some c = λ above.
    let rows = row_views c.args.rows.now in
    database_behind rows (row_views c.args.more.now) c.requires.rows c.requires.more
    (found_above rows c.args.more.now c.first.result c.in-Some.first c.in-Some.is c.first.ensures.value (sym c.is_above_last.ensures ∙ above))
