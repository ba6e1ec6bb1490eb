use Rattle.std.proofs.Common.{ap, ◌∙◌}
use Rattle.std.specs.Option.{option_map}
use Rattle.row_map.specs.Database.{row_under}
use Rattle.row_map.specs.Row.{row_view}
use Rattle.row_map.specs.RowMap.{views_of}
use Rattle.row_map.proofs.Keyed.{found_by, copied_view}
use Rattle.row_map.proofs.row_map.RowMap.get.Goals as goal

pub returns-clause-same : goal.returns-clause-same
returns-clause-same c =
    rw (← c.self.view_is)
    (copied_view c.get.result ∙ ap (option_map row_view) c.get.ensures.value ∙ found_by c.row_key-key.result c.self.inside.rows.entries c.self.invariant.own
    ∙ ap (λ k. row_under k (views_of c.self.inside.rows.entries)) c.row_key-key.ensures)
