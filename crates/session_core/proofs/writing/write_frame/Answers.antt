use Rattle.session_core.specs.Reply.{reply_frame}
use Rattle.session_core.proofs.writing.write_frame.Goals as goal

pub returns-in-Registered-clause-ok : goal.returns-in-Registered-clause-ok
unfolding reply_frame
returns-in-Registered-clause-ok g c = rw c.in-Registered.is (rw c.ack_frame.ensures at c.write_all.ensures.ok)

pub returns-in-Purged-clause-ok : goal.returns-in-Purged-clause-ok
unfolding reply_frame
returns-in-Purged-clause-ok g c = rw c.in-Purged.is (rw c.ack_frame-in-Purged.ensures at c.write_all-in-Purged.ensures.ok)

pub returns-in-Removed-clause-ok : goal.returns-in-Removed-clause-ok
unfolding reply_frame
returns-in-Removed-clause-ok g c = rw c.in-Removed.is (rw c.ack_frame-in-Removed.ensures at c.write_all-in-Removed.ensures.ok)
