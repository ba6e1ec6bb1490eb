use Rattle.std.proofs.Common.{ap, ◌∙◌}
use Rattle.row_map.specs.RowMap.{views_of}
use Rattle.row_map.proofs.Purged.{rows_from}
use Rattle.row_map.proofs.row_map.RowMap.from.Goals as goal

pub returns-clause-same : goal.returns-clause-same
returns-clause-same c = rw (← c.self.view_is) (c.of.ensures ∙ ap views_of (c.range.ensures.between tt) ∙ rows_from c.args.key c.self.inside.rows.entries c.self.invariant.own)
