use Rattle.std.proofs.Common.{rules, ◌≡◌, true, false, sym, ◌∙◌}
use Rattle.std.specs.Option.{is_some}
use Rattle.row_map.specs.Row.{row_view}
use Rattle.row_map.specs.EndKeys.{index_number}
use Rattle.row_map.proofs.IndexKeys.{settled_away, settled_new}
use Rattle.row_map.proofs.end_keys.settle.Goals as goal

pub returns-in_default : goal.returns-in_default
returns-in_default c = λ e rest all.
    let none : is_some c.standing.result ≡ false = search (rules, c.in_default) in
    settled_away (index_number c.args.by) c.args.rows.now c.args.index.now rest c.args.index_row.now all c.remove.new.self (sym c.standing.ensures.stands ∙ none) c.remove.ensures.gone c.remove.ensures.rows

pub returns-in-Ok : goal.returns-in-Ok
returns-in-Ok c = λ e rest all.
    let some : is_some c.standing.result ≡ true = search (rules, c.in-Some) in
    settled_new (index_number c.args.by) c.args.rows.now c.args.index.now rest c.args.index_row.now all c.in-Ok.now (row_view c.in-Some.row.now) c.in-Some.ensures.some (sym c.standing.ensures.stands ∙ some) c.in-Ok.ensures c.renew.new.self
    c.renew.ensures.kept c.renew.ensures.rows
