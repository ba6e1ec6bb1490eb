use Rattle.std.proofs.lemmas.Result.{IfOk-weaker, IfErr-weaker}
use Rattle.group_recovery.proofs.Reopened.{has_value, reopens_machines, refuses_no_store}
use Rattle.group_recovery.proofs.reopening.reopen.Goals as goal

pub returns-clause-value : goal.returns-clause-value
returns-clause-value g c = IfOk-weaker c.open.result _ _ (λ store opened honest. has_value _ store (opened honest)) c.open.ensures.opened

pub returns-clause-machine : goal.returns-clause-machine
returns-clause-machine g c = IfOk-weaker c.open.result _ _ (λ store opened honest. reopens_machines _ store (opened honest)) c.open.ensures.opened

pub returns-clause-no_store : goal.returns-clause-no_store
returns-clause-no_store g c = IfErr-weaker c.open.result _ _ (λ back refused honest. refuses_no_store _ back.1 (refused.refused honest)) c.open.ensures.refused
