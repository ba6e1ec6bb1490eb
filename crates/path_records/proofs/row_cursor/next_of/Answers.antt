use Rattle.std.proofs.Common.{rules, arith, inl, inr, ◌≡◌, ℕ, List, true, false, drop, refl, sym, ap, subst, ◌∙◌}
use Rattle.std.proofs.lemmas.Result.{err_from_is_err_and}
use Rattle.row_map.specs.Database.{RowView}
use Rattle.row_map.specs.Row.{row_view}
use Rattle.path_records.specs.RowRecord.{has_row, row_decoding}
use Rattle.path_records.specs.RowCursor.{is_above_key}
use Rattle.path_records.proofs.row_cursor.next_of.Goals as goal

pub returns-in_err-kind-clause-refused : goal.returns-in_err-kind-clause-refused
returns-in_err-kind-clause-refused c =
    let p = err_from_is_err_and c.from_residual-in_err-kind.result c.from_residual-in_err-kind.ensures.1 in
    let there : has_row c.args.left.now ≡ true = search rules in
    rw (p.1, p.2) (λ other. inr (there, inl (c.in_err-kind.ensures.decoding other)))
