use Rattle.std.proofs.Common.{◌≡◌, ◌+◌, ◌≤◌, length, drop}
use Rattle.session_core.specs.Ahead.{frames_len, AreHandedIn}
use Rattle.session_core.specs.HandedIn.{HandsInFrontOf}
use Rattle.session_core.proofs.session.Session.hand_in_after.Given as goal

abbrev pub invariant-loop-turn : goal.invariant-loop-turn
invariant-loop-turn g l = record {
  state : g.S.Service.state l.self.service ≡ g.S.Service.state l.fn.self.service;
  kinds : l.self.kinds ≡ l.fn.self.kinds;
  inbox : l.self.inbox ≡ l.fn.self.inbox;
  ahead : AreHandedIn l.fn.self.kinds g.S.Service.is_for (g.S.Service.state l.self.service) l.self.ahead.queue.items (drop l.len l.self.inbox);
  count : 1 + length l.self.ahead.queue.items ≡ l._turn;
  at_is : l.at ≡ l.len + frames_len l.self.ahead.queue.items;
  within : l.at ≤ length l.self.inbox;
  handed_in : HandsInFrontOf l.fn.self.kinds g.S.Service.hands_in (drop l.len l.self.inbox) (drop l.at l.self.inbox) (g.S.Service.sent l.fn.self.service) (g.S.Service.sent l.self.service);
}
