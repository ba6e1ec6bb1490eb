use Rattle.std.proofs.lemmas.Result.{IfOk-weaker, IfErr-weaker}
use Rattle.prefix_recovery.proofs.Recovered.{recovers_so, refused_so}
use Rattle.prefix_recovery.proofs.recovery.reopen_after.Goals as goal

pub returns-clause-recovers : goal.returns-clause-recovers
returns-clause-recovers g c =
    IfOk-weaker c.reopen-answer.result _ _
    (λ store has honest. recovers_so c.args.trace.now c.recovers.ensures (g.D.Device.disk c.args.device) (g.met.D.Device.whole c.args.device) honest store (has honest))
    c.reopen-answer.ensures.value

pub returns-clause-refused : goal.returns-clause-refused
returns-clause-refused g c =
    IfErr-weaker c.reopen-answer.result _ _
    (λ back refuses honest left. refused_so c.args.trace.now c.recovers.ensures (g.D.Device.disk c.args.device) (g.met.D.Device.whole c.args.device) honest back.1 (refuses honest) left)
    c.reopen-answer.ensures.no_store
