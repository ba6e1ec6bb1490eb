use Rattle.std.proofs.Common.{ap}
use Rattle.session_core.specs.Ahead.{frames_len}
use Rattle.session_core.proofs.HandedInLemmas.{hands_answered, hands_ahead}
use Rattle.session_core.proofs.session.Session.next_reply.Goals as goal

pub returns-in-Some-hand_in-clause-handed_in : goal.returns-in-Some-hand_in-clause-handed_in
returns-in-Some-hand_in-clause-handed_in g c =
    let framed = rw c.in-Some-2.is at c.in_ok-message.ensures in
    rw c.settle-in-Some-hand_in.ensures.same (hands_ahead g.S.Service.hands_in _ _ _ _ _ _ _ _ _ _ _ _ (ap frames_len c.in_default.ensures.0) framed
    c.in-Some-hand_in.ensures.handed_in c.hand_in_after.ensures.inbox c.hand_in_after.ensures.handed_in c.settle-in-Some-hand_in.ensures.left c.in-Some-hand_in.ensures.len
    c.settle-in-Some-hand_in.ensures.handed_in)

pub returns-clause-handed_in : goal.returns-clause-handed_in
returns-clause-handed_in g c =
    let framed = rw c.in-Some-2.is at c.in_ok-message.ensures in
    hands_answered g.S.Service.hands_in _ _ _ _ _ _ _ _ (ap frames_len c.in_default.ensures.0) (ap frames_len c.in_default.ensures.1) framed c.advance.ensures
    (rw c.in_default-hand_in.ensures.handed_in at c.answer-reply.ensures.handed_in)
