use Rattle.group_recovery.proofs.Reopened.{left_in_use, value_at_rest, moments_left, front_reopened, refused_so}
use Rattle.group_recovery.proofs.reopening.reopen_state.Goals as goal

pub returns-in-Err-clause-any_moment : goal.returns-in-Err-clause-any_moment
returns-in-Err-clause-any_moment g c = left_in_use c.args.state c.stops_leave_fronts.ensures.leaves c.in-Err.state c.in-Err.ensures.answer.1

pub returns-in-Ok-reopen-clause-at_rest : goal.returns-in-Ok-reopen-clause-at_rest
returns-in-Ok-reopen-clause-at_rest g c =
    let out = c.in-Ok.ensures in
    value_at_rest c.args.state c.stops_leave_fronts.ensures.leaves _ out.answer.1 out.at_rest c.in-Ok-reopen.store c.in-Ok-reopen.ensures.value

pub returns-in-Ok-reopen-clause-front : goal.returns-in-Ok-reopen-clause-front
returns-in-Ok-reopen-clause-front g c =
    front_reopened c.args.state c.stops_leave_fronts.ensures.leaves _ c.in-Ok.ensures.answer.1 (g.met.D.Device.whole c.in-Ok.device) c.in-Ok-reopen.store c.in-Ok-reopen.ensures.machine

pub returns-in-Ok-reopen-clause-any_moment : goal.returns-in-Ok-reopen-clause-any_moment
returns-in-Ok-reopen-clause-any_moment g c =
    moments_left c.args.state c.stops_leave_fronts.ensures.leaves _ c.in-Ok.ensures.answer.1 c.in-Ok-reopen.store.disk c.in-Ok-reopen.ensures.any_moment

pub returns-in-Err-reopen-clause-refused : goal.returns-in-Err-reopen-clause-refused
returns-in-Err-reopen-clause-refused g c =
    let out = c.in-Ok.ensures in
    let back = c.in-Err-reopen.ensures in
    refused_so c.args.state c.stops_leave_fronts.ensures.leaves _ out.answer.1 (g.met.D.Device.whole c.in-Ok.device) c.in-Err-reopen.e _ out.answer.0 back.refused back.no_store

pub returns-in-Err-reopen-clause-any_moment : goal.returns-in-Err-reopen-clause-any_moment
returns-in-Err-reopen-clause-any_moment g c =
    moments_left c.args.state c.stops_leave_fronts.ensures.leaves _ c.in-Ok.ensures.answer.1 (g.D.Device.disk c.in-Err-reopen.device) c.in-Err-reopen.ensures.any_moment
