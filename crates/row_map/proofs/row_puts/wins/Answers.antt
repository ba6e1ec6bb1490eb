use Rattle.std.proofs.Common.{ap, ◌∙◌}
use Rattle.row_map.specs.Database.{row_under}
use Rattle.row_map.specs.Row.{row_view}
use Rattle.row_map.specs.Saved.{wins}
use Rattle.row_map.proofs.Indices.{key_is}
use Rattle.row_map.proofs.row_puts.wins.Goals as goal

pub returns-in-Some-clause-same : goal.returns-in-Some-clause-same
returns-in-Some-clause-same c =
    rw (c.timestamp.ensures, c.timestamp-in-Some.ensures)
    (ap (wins (row_view c.args.row.now)) (c.in-Some.ensures.same ∙ ap (λ k. row_under k c.args.rows.now) (key_is c.args.row.now c.id.result.now c.id.ensures)))

pub returns-in-None-clause-same : goal.returns-in-None-clause-same
returns-in-None-clause-same c = ap (wins (row_view c.args.row.now)) (c.in-None.ensures.same ∙ ap (λ k. row_under k c.args.rows.now) (key_is c.args.row.now c.id.result.now c.id.ensures))
