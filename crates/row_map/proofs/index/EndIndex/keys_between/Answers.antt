use Rattle.std.proofs.Common.{◌∙◌}
use Rattle.std.proofs.lemmas.List.Elements.{filter_agree}
use Rattle.seg_core.specs.Registration.{type_number}
use Rattle.row_map.specs.IndexKey.{stands_between}
use Rattle.row_map.proofs.Bounds.{between_numbers}
use Rattle.row_map.proofs.index.EndIndex.keys_between.Goals as goal

pub returns-clause-same : goal.returns-clause-same
returns-clause-same c =
    let kind = type_number c.args.kind in
    let low = c.args.low in
    let high = c.args.high in
    rw (← c.self.view_is)
    (c.range.ensures.between tt
    ∙ rw (c.below-first.ensures, c.below-behind.ensures) (filter_agree _ (stands_between kind low high) (λ q. between_numbers kind low high q) c.self.inside.index_rows.keys))
