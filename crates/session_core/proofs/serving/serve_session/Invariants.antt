use Rattle.std.proofs.Common.{◌≡◌, []}
use Rattle.session_core.proofs.HandedInLemmas.{HandsInSoFar}
use Rattle.session_core.proofs.SessionLemmas.{SoFar}
use Rattle.session_core.proofs.serving.serve_session.Given as goal

abbrev pub invariant-loop-turn : goal.invariant-loop-turn
invariant-loop-turn g l = record {
  kinds : l.session.kinds ≡ l.fn.session.kinds;
  none : l.session.ahead.queue.items ≡ [];
  so_far : SoFar l.fn.session.kinds g.S.Service.answers g.R.Source.gives (g.S.Service.state l.fn.session.service) (g.S.Service.state l.session.service) l.fn.reader l.reader l.session.inbox
      (g.W.Sink.contents l.fn.replies.writer) (g.W.Sink.contents l.replies.writer) l.count l._turn;
  sent : g.W.Sink.is_sent l.fn.replies.writer → g.W.Sink.is_sent l.replies.writer;
  handed_in : HandsInSoFar l.fn.session.kinds g.S.Service.hands_in g.R.Source.gives l.fn.reader l.reader l.session.inbox l._turn (g.S.Service.sent l.fn.session.service) (g.S.Service.sent l.session.service);
}
