use Rattle.std.proofs.Common.{◌&&◌, ◌∙◌}
use Rattle.std.proofs.lemmas.List.Elements.{filter_agree}
use Rattle.seg_core.specs.Registration.{type_number}
use Rattle.row_map.specs.IndexKey.{stands_at, is_after_id}
use Rattle.row_map.proofs.Bounds.{between_after}
use Rattle.row_map.proofs.index.EndIndex.keys_after.Goals as goal

pub returns-clause-same : goal.returns-clause-same
returns-clause-same c =
    let kind = type_number c.args.kind in
    let isd_as = c.args.isd_as in
    let id = c.args.id.now in
    rw (← c.self.view_is)
    (c.range.ensures.between tt
    ∙ rw (c.in-Ok.ensures, c.below-high.ensures) (filter_agree _ (λ q. stands_at kind isd_as q && is_after_id id q) (λ q. between_after kind isd_as id q) c.self.inside.index_rows.keys))
