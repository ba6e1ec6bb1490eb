use Rattle.std.proofs.Common.{◌≡◌, ℕ, List, [], ◌∷◌, ◌++◌, lit<, subst, arith}
use Rattle.std.proofs.lemmas.Grind.{common_steps}
use Rattle.std.proofs.lemmas.Result.{err_from_is_err_and}
use Rattle.std.proofs.lemmas.Iterator.Consumers.{YieldsList-so_far, YieldsList-turn, YieldsList-end}
use Rattle.std.proofs.lemmas.Iterator.Splits.{YieldsList-from_str_split}
use Rattle.cli_once.specs.Cores.{AreCores}
use Rattle.cli_once.proofs.CoreLemmas.{AreCores-more, RefusesTexts-here, RefusesList-from}
use Rattle.cli_once.proofs.cores.cores_of.Goals as goal

pub returns-in_err-core-clause-err : goal.returns-in_err-core-clause-err
returns-in_err-core-clause-err c =
    let p = err_from_is_err_and c.from_residual-in_err-core.result c.from_residual-in_err-core.ensures.1 in
    let front = YieldsList-so_far (YieldsList-from_str_split 44 c.args.list.now (lit< tt) (cc) (cc) (cc)) c.loop-text.yielded _ c.loop-text.yielded_by in
    let turn = YieldsList-turn (YieldsList-from_str_split 44 c.args.list.now (lit< tt) (cc) (cc) (cc)) c.loop-text.yielded _ c.loop-text.yielded_by _ c.next.new.self c.in-Some.text c.in-Some.is c.next.ensures.steps in
    rw (p.1, p.2)
    (RefusesList-from c.args.list.now _
    (RefusesTexts-here (λ text. text.now) c.loop-text.yielded c.in-Some.text c.args.list.now front turn.0 turn.1 _
    (record { cores = c.loop-text.cores.items; are = c.loop-text.invariant }) c.in_err-core.ensures.err))

pub loop-text-preserved : goal.loop-text-preserved
loop-text-preserved c =
    let pushed : c.push.new.self.items ≡ c.loop-text.cores.items ++ c.in_ok-core.core ∷ [] = grind (arith, common_steps) in
    rw pushed (AreCores-more (λ text. text.now) c.loop-text.yielded c.in-Some.text c.loop-text.cores.items c.in_ok-core.core c.loop-text.invariant c.in_ok-core.ensures.ok)

pub returns-clause-ok : goal.returns-clause-ok
returns-clause-ok c =
    let all = YieldsList-end (YieldsList-from_str_split 44 c.args.list.now (lit< tt) (cc) (cc) (cc)) c.loop-text.yielded _ c.loop-text.yielded_by _ c.next.new.self c.in-None.is c.next.ensures.steps in
    subst (λ (texts : List (List ℕ)). AreCores texts c.loop-text.cores.items) all.0 c.loop-text.invariant
