use Rattle.std.proofs.Common.{◌∙◌}
use Rattle.std.proofs.lemmas.List.Elements.{filter_agree}
use Rattle.seg_core.specs.Registration.{type_number}
use Rattle.row_map.specs.IndexKey.{stands_at}
use Rattle.row_map.proofs.Bounds.{between}
use Rattle.row_map.proofs.index.EndIndex.keys_at.Goals as goal

pub returns-clause-same : goal.returns-clause-same
returns-clause-same c =
    let kind = type_number c.args.kind in
    rw (← c.self.view_is)
    (c.range.ensures.between tt
    ∙ rw (c.below-low.ensures, c.below-high.ensures) (filter_agree _ (stands_at kind c.args.isd_as) (λ q. between kind c.args.isd_as q) c.self.inside.index_rows.keys))
