use Rattle.std.proofs.lemmas.Result.{IfOk-weaker, IfErr-weaker}
use Rattle.prefix_recovery.proofs.servers.Recovered.{recovers_so, recovers_again, refused_so, refused_again, left_again}
use Rattle.prefix_recovery.proofs.servers.reopening.reopen_left.Goals as goal

pub returns-clause-recovers : goal.returns-clause-recovers
returns-clause-recovers g c =
    IfOk-weaker c.reopen.result _ _
    (λ store has honest. recovers_so c.args.trace.now c.serves.ensures (g.D.Device.disk c.args.device) (g.met.D.Device.whole c.args.device) honest store (has honest))
    c.reopen.ensures.value

pub returns-clause-recovers_again : goal.returns-clause-recovers_again
returns-clause-recovers_again g c =
    IfOk-weaker c.reopen.result _ _
    (λ store has honest. recovers_again c.args.trace.now c.serves.ensures (g.D.Device.disk c.args.device) (g.met.D.Device.whole c.args.device) honest store (has honest))
    c.reopen.ensures.value

pub returns-clause-refused : goal.returns-clause-refused
returns-clause-refused g c =
    IfErr-weaker c.reopen.result _ _
    (λ back refuses honest. refused_so c.args.trace.now c.serves.ensures (g.D.Device.disk c.args.device) (g.met.D.Device.whole c.args.device) honest back.1 (refuses honest))
    c.reopen.ensures.no_store

pub returns-clause-refused_again : goal.returns-clause-refused_again
returns-clause-refused_again g c =
    IfErr-weaker c.reopen.result _ _
    (λ back refuses honest. refused_again c.args.trace.now c.serves.ensures (g.D.Device.disk c.args.device) (g.met.D.Device.whole c.args.device) honest back.1 (refuses honest))
    c.reopen.ensures.no_store

pub returns-clause-any_moment : goal.returns-clause-any_moment
returns-clause-any_moment g c = λ t holds. left_again c.args.trace.now _ _ t holds c.reopen.ensures.any_moment
