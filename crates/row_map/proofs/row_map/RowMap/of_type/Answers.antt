use Rattle.std.proofs.Common.{◌+◌, ◌==◌, refl, ap, ◌∙◌}
use Rattle.std.specs.List.{filter}
use Rattle.row_map.proofs.Bounds.{zeros}
use Rattle.seg_core.specs.Registration.{type_number}
use Rattle.row_map.specs.declared.row_key.RowKey.{RowKey}
use Rattle.row_map.specs.RowMap.{views_of}
use Rattle.row_map.proofs.Typed.{rows_typed}
use Rattle.row_map.proofs.row_map.RowMap.of_type.Goals as goal

pub returns : goal.returns
returns c =
    let number = c.type_byte-number.result in
    let low : RowKey = record { kind = number; id = zeros 32; long = refl } in
    let high : RowKey = record { kind = number + 1; id = zeros 32; long = refl } in
    let es = c.self.inside.rows.entries in
    rw (← c.self.view_is)
    (c.of.ensures ∙ ap views_of (c.range.ensures.between tt) ∙ rows_typed low high es refl refl refl c.self.invariant.own
    ∙ ap (λ n. filter (λ row. type_number row.0 == n) (views_of es)) c.type_byte-number.ensures)
