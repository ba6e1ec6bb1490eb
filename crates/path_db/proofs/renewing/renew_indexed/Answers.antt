use Rattle.std.proofs.Common.{refl, sym, ◌∙◌}
use Rattle.row_map.specs.declared.end.End.TheVariants.{First, Last}
use Rattle.row_map.specs.declared.end.By.TheVariants.{OneEnd, BothEnds}
use Rattle.row_map.specs.Row.{row_view}
use Rattle.row_map.specs.EndKeys.{index_number}
use Rattle.path_db.proofs.Covered.{index_left, index_replaced}
use Rattle.path_db.proofs.renewing.renew_indexed.Goals as goal

pub returns-then-is_updated-clause-first : goal.returns-then-is_updated-clause-first
returns-then-is_updated-clause-first c = λ x is.
    let change = c.in_ok-change.change in
    index_replaced (index_number (OneEnd First)) c.args.rows.now (row_view c.args.row) c.args.by_first.now c.requires.rising c.requires.first (c.in_ok-change.ensures.alike change refl (OneEnd First)) c.renew.new.self (c.in_ok-change.ensures.rows change refl)
    c.in_ok-first.first c.in_ok-first.ensures.first (sym (c.is_updated.ensures.yes c.if-is_updated.true) ∙ c.in_ok-change.ensures.change change refl)
    c.renew-then-is_updated.new.self c.renew-then-is_updated.ensures.kept c.renew-then-is_updated.ensures.rows

pub returns-else-is_updated-clause-first : goal.returns-else-is_updated-clause-first
returns-else-is_updated-clause-first c = λ x is.
    let change = c.in_ok-change.change in
    index_left (index_number (OneEnd First)) c.args.rows.now (row_view c.args.row) c.args.by_first.now c.requires.rising c.requires.first (c.in_ok-change.ensures.alike change refl (OneEnd First)) c.renew.new.self (c.in_ok-change.ensures.rows change refl)
    (λ e. c.is_updated.ensures.no c.if-is_updated.false (c.in_ok-change.ensures.change change refl ∙ sym e))

pub returns-then-is_updated-clause-last : goal.returns-then-is_updated-clause-last
returns-then-is_updated-clause-last c = λ x is.
    let change = c.in_ok-change.change in
    index_replaced (index_number (OneEnd Last)) c.args.rows.now (row_view c.args.row) c.args.by_last.now c.requires.rising c.requires.last (c.in_ok-change.ensures.alike change refl (OneEnd Last)) c.renew.new.self (c.in_ok-change.ensures.rows change refl)
    c.in_ok-first.last c.in_ok-first.ensures.last (sym (c.is_updated.ensures.yes c.if-is_updated.true) ∙ c.in_ok-change.ensures.change change refl)
    c.renew-then-is_updated-2.new.self c.renew-then-is_updated-2.ensures.kept c.renew-then-is_updated-2.ensures.rows

pub returns-else-is_updated-clause-last : goal.returns-else-is_updated-clause-last
returns-else-is_updated-clause-last c = λ x is.
    let change = c.in_ok-change.change in
    index_left (index_number (OneEnd Last)) c.args.rows.now (row_view c.args.row) c.args.by_last.now c.requires.rising c.requires.last (c.in_ok-change.ensures.alike change refl (OneEnd Last)) c.renew.new.self (c.in_ok-change.ensures.rows change refl)
    (λ e. c.is_updated.ensures.no c.if-is_updated.false (c.in_ok-change.ensures.change change refl ∙ sym e))

pub returns-then-is_updated-clause-isds : goal.returns-then-is_updated-clause-isds
returns-then-is_updated-clause-isds c = λ x is.
    let change = c.in_ok-change.change in
    index_replaced (index_number BothEnds) c.args.rows.now (row_view c.args.row) c.args.by_isds.now c.requires.rising c.requires.isds (c.in_ok-change.ensures.alike change refl BothEnds) c.renew.new.self (c.in_ok-change.ensures.rows change refl)
    c.in_ok-first.isds c.in_ok-first.ensures.isds (sym (c.is_updated.ensures.yes c.if-is_updated.true) ∙ c.in_ok-change.ensures.change change refl)
    c.renew-then-is_updated-3.new.self c.renew-then-is_updated-3.ensures.kept c.renew-then-is_updated-3.ensures.rows

pub returns-else-is_updated-clause-isds : goal.returns-else-is_updated-clause-isds
returns-else-is_updated-clause-isds c = λ x is.
    let change = c.in_ok-change.change in
    index_left (index_number BothEnds) c.args.rows.now (row_view c.args.row) c.args.by_isds.now c.requires.rising c.requires.isds (c.in_ok-change.ensures.alike change refl BothEnds) c.renew.new.self (c.in_ok-change.ensures.rows change refl)
    (λ e. c.is_updated.ensures.no c.if-is_updated.false (c.in_ok-change.ensures.change change refl ∙ sym e))
