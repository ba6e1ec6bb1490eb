use Rattle.std.proofs.Common.{lit<, subst}
use Rattle.std.proofs.lemmas.Result.{err_from_is_err_and}
use Rattle.std.proofs.lemmas.Iterator.Consumers.{YieldsList-so_far, YieldsList-turn, YieldsList-end}
use Rattle.std.proofs.lemmas.Iterator.Splits.{YieldsList-from_str_split}
use Rattle.cli_once.specs.Cores.{IsCoreList}
use Rattle.cli_once.proofs.CoreLemmas.{IsCoreList-more, RefusesTexts-here}
use Rattle.cli_once.proofs.cores.check_texts.Goals as goal

pub loop-text-preserved : goal.loop-text-preserved
loop-text-preserved c = IsCoreList-more (λ text. text.now) c.loop-text.yielded c.in-Some.text c.in_ok-core_of.field-0 c.loop-text.invariant c.in_ok-core_of.ensures.ok

pub returns-in_err-core_of-clause-err : goal.returns-in_err-core_of-clause-err
returns-in_err-core_of-clause-err c =
    let p = err_from_is_err_and c.from_residual.result c.from_residual.ensures.1 in
    let front = YieldsList-so_far (YieldsList-from_str_split 44 c.args.list.now (lit< tt) (cc) (cc) (cc)) c.loop-text.yielded _ c.loop-text.yielded_by in
    let turn = YieldsList-turn (YieldsList-from_str_split 44 c.args.list.now (lit< tt) (cc) (cc) (cc)) c.loop-text.yielded _ c.loop-text.yielded_by _ c.next.new.self c.in-Some.text c.in-Some.is c.next.ensures.steps in
    rw (p.1, p.2) (RefusesTexts-here (λ text. text.now) c.loop-text.yielded c.in-Some.text c.args.list.now front turn.0 turn.1 _ c.loop-text.invariant c.in_err-core_of.ensures.err)

pub returns-clause-ok : goal.returns-clause-ok
returns-clause-ok c =
    let all = YieldsList-end (YieldsList-from_str_split 44 c.args.list.now (lit< tt) (cc) (cc) (cc)) c.loop-text.yielded _ c.loop-text.yielded_by _ c.next.new.self c.in-None.is c.next.ensures.steps in
    subst IsCoreList all.0 c.loop-text.invariant
