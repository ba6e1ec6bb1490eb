use Rattle.session_core.specs.declared.ahead.TheConstants.{MOST_AHEAD}
use Rattle.std.proofs.Common.{◌≡◌, ◌≤◌, length, drop}
use Rattle.session_core.specs.Ahead.{frames_len, AreHandedIn}
use Rattle.session_core.specs.HandedIn.{HandsInFrontOf}
use Rattle.session_core.proofs.Exchanges.{HasAnswered}
use Rattle.session_core.proofs.serving.answer_all.Given as goal

abbrev pub invariant-loop-reply : goal.invariant-loop-reply
invariant-loop-reply g l = record {
  kinds : l.session.kinds ≡ l.fn.session.kinds;
  answered : HasAnswered l.fn.session.kinds l.form g.S.Service.answers (g.S.Service.state l.fn.session.service) l.fn.session.inbox (g.S.Service.state l.session.service) l.session.inbox
      (g.W.Sink.contents l.fn.replies.writer) (g.W.Sink.contents l.replies.writer) l.count l.sum;
  ahead : AreHandedIn l.fn.session.kinds g.S.Service.is_for (g.S.Service.state l.session.service) l.session.ahead.queue.items l.session.inbox;
  few : length l.session.ahead.queue.items ≤ MOST_AHEAD;
  handed_in : HandsInFrontOf l.fn.session.kinds g.S.Service.hands_in l.fn.session.inbox (drop (frames_len l.session.ahead.queue.items) l.session.inbox)
      (g.S.Service.sent l.fn.session.service) (g.S.Service.sent l.session.service);
}

abbrev pub decreases-loop-reply : goal.decreases-loop-reply
decreases-loop-reply g l = length l.session.inbox
