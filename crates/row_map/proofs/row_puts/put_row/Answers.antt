use Rattle.std.proofs.Common.{rules, ◌≡◌, true, false, ap, sym, ◌∙◌}
use Rattle.std.specs.Option.{option_map}
use Rattle.row_map.specs.Row.{row_view}
use Rattle.row_map.proofs.PutRow.{kept_rows, new_rows, kept_change, updated_change, inserted_change}
use Rattle.row_map.proofs.row_puts.put_row.Goals as goal

pub returns-then-not-wins-clause-rows : goal.returns-then-not-wins-clause-rows
returns-then-not-wins-clause-rows c =
    let lost : c.wins.result ≡ false = search (rules, c.if-not-wins.true) in
    kept_rows c.args.rows.now (row_view c.args.row) c.wins.ensures.rising (sym c.wins.ensures.same ∙ lost)

pub returns-then-not-wins-clause-change : goal.returns-then-not-wins-clause-change
returns-then-not-wins-clause-change c =
    let lost : c.wins.result ≡ false = search (rules, c.if-not-wins.true) in
    kept_change c.args.rows.now (row_view c.args.row) c.wins.ensures.rising (sym c.wins.ensures.same ∙ lost)

pub returns-in-Some-clause-rows : goal.returns-in-Some-clause-rows
returns-in-Some-clause-rows c =
    let won : c.wins.result ≡ true = search (rules, c.if-not-wins.false) in
    new_rows c.args.rows.now c.set.new.self (row_view c.args.row) c.wins.ensures.rising c.set.ensures.rising (sym c.wins.ensures.same ∙ won) c.in_ok-old.ensures.ok

pub returns-in-None-clause-rows : goal.returns-in-None-clause-rows
returns-in-None-clause-rows c =
    let won : c.wins.result ≡ true = search (rules, c.if-not-wins.false) in
    new_rows c.args.rows.now c.set.new.self (row_view c.args.row) c.wins.ensures.rising c.set.ensures.rising (sym c.wins.ensures.same ∙ won) c.in_ok-old.ensures.ok

pub returns-in-Some-clause-change : goal.returns-in-Some-clause-change
returns-in-Some-clause-change c =
    let won : c.wins.result ≡ true = search (rules, c.if-not-wins.false) in
    updated_change c.args.rows.now (row_view c.args.row) (row_view c.in-Some.old) c.wins.ensures.rising (sym c.wins.ensures.same ∙ won) (ap (option_map row_view) (sym c.in-Some.is) ∙ c.in_ok-old.ensures.old)

pub returns-in-None-clause-change : goal.returns-in-None-clause-change
returns-in-None-clause-change c =
    inserted_change c.args.rows.now (row_view c.args.row) c.wins.ensures.rising (ap (option_map row_view) (sym c.in-None.is) ∙ c.in_ok-old.ensures.old)
