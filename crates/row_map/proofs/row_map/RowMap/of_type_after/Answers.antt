use Rattle.std.proofs.Common.{◌==◌, ◌∷◌, ap, ◌∙◌}
use Rattle.std.specs.List.{filter}
use Rattle.std.specs.Ordering.{nat_cmp, is_lt}
use Rattle.std.specs.Cmp.Lexicographic.{slice_cmp}
use Rattle.seg_core.specs.Registration.{type_number}
use Rattle.row_map.specs.Database.{key_of}
use Rattle.row_map.specs.RowMap.{views_of}
use Rattle.row_map.proofs.After.{rows_typed_after}
use Rattle.row_map.proofs.row_map.RowMap.of_type_after.Goals as goal

pub returns : goal.returns
returns c =
    let id = c.args.id.now in
    let es = c.self.inside.rows.entries in
    rw (← c.self.view_is)
    (c.of.ensures ∙ ap views_of (c.range.ensures.between tt) ∙ rows_typed_after c.type_byte-number.result id es c.self.invariant.own
    ∙ ap (λ n. filter (λ row. type_number row.0 == n) (filter (λ row. is_lt (slice_cmp nat_cmp (n ∷ id) (key_of row))) (views_of es))) c.type_byte-number.ensures)
