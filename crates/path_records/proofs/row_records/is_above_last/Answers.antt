use Rattle.std.proofs.Common.{ℕ, List, ap, ◌∙◌}
use Rattle.std.specs.Ordering.{nat_cmp, is_lt}
use Rattle.std.specs.Cmp.Lexicographic.{slice_cmp}
use Rattle.row_map.specs.Database.{key, key_of}
use Rattle.row_map.specs.Row.{row_view}
use Rattle.path_records.proofs.RowsRead.{above_seen}
use Rattle.path_records.proofs.row_records.is_above_last.Goals as goal

pub returns-in-Some : goal.returns-in-Some
unfolding key_of
returns-in-Some c =
    let before = row_view c.in-Some.before.now in
    let row = c.args.row.now in
    let by_id = ap (λ (id : List ℕ). slice_cmp nat_cmp (key_of before) (key row.kind id)) c.id.ensures in
    c.is_lt.ensures ∙ ap is_lt (c.cmp_key.ensures ∙ by_id)
    ∙ above_seen c.args.rows.now c.last.result c.in-Some.before (row_view row) c.in-Some.is c.last.ensures.value
