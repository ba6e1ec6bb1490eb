use Rattle.std.proofs.Common.{rules, ◌≡◌, true, false}
use Rattle.row_map.specs.declared.end.By.TheVariants.{OneEnd}
use Rattle.row_map.specs.declared.end.End.TheVariants.{First, Last}
use Rattle.row_map.specs.Row.{row_view}
use Rattle.row_map.proofs.IndexKeys.{alike_by}
use Rattle.row_map.proofs.end_keys.keeps_keys.Goals as goal

pub returns-then-ends_alike-clause-yes : goal.returns-then-ends_alike-clause-yes
returns-then-ends_alike-clause-yes c = λ e.
    let first : c.ends_alike.result ≡ true = search (rules, c.if-ends_alike.true) in
    alike_by (row_view c.args.new.now) (row_view c.args.old.now) (c.ends_alike.ensures.yes first) (c.ends_alike-then-ends_alike.ensures.yes e)

pub returns-then-ends_alike-clause-no : goal.returns-then-ends_alike-clause-no
returns-then-ends_alike-clause-no c = λ e alike. c.ends_alike-then-ends_alike.ensures.no e (alike (OneEnd Last))

pub returns-else-ends_alike-clause-no : goal.returns-else-ends_alike-clause-no
returns-else-ends_alike-clause-no c = λ e alike.
    let first : c.ends_alike.result ≡ false = search (rules, c.if-ends_alike.false) in
    c.ends_alike.ensures.no first (alike (OneEnd First))
