use Rattle.std.proofs.Common.{arith}
use Rattle.session_core.proofs.AheadLemmas.{front_fits}
use Rattle.session_core.proofs.inbox.Inbox.front_after.Goals as goal

pub returns-clause-fits : goal.returns-clause-fits
returns-clause-fits c = front_fits c.args.kinds c.split_at-2.result.1.now c.args.at c.next_frame.result (omega (arith, c.split_at-2.ensures.back_len, c.split_at.ensures.front_len)) c.next_frame.ensures
