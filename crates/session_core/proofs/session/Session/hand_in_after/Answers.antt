use Rattle.std.proofs.Common.{◌≡◌, [], ◌∷◌, ◌++◌, length, ap, ◌∙◌, arith}
use Rattle.std.proofs.lemmas.List.{length-append}
use Rattle.session_core.specs.Ahead.{frames_len}
use Rattle.session_core.proofs.AheadLemmas.{frames_len-push, handed_in-next, within}
use Rattle.session_core.proofs.HandedInLemmas.{hands_next}
use Rattle.session_core.proofs.session.Session.hand_in_after.Goals as goal

pub loop-turn-preserved : goal.loop-turn-preserved
loop-turn-preserved g c =
    let h = c.in-Some.handed in
    let hs = c.loop-turn.self.ahead.queue.items in
    let one = rw (c.in-Some.is, c.loop-turn.invariant.kinds) at c.hand_in_at.ensures.handed in
    let pushed : c.push.new.self.queue.items ≡ hs ++ h ∷ [] = c.push.ensures ∙ ap (λ (ahead : _). ahead.queue.items ++ h ∷ []) c.hand_in_at.ensures.ahead in
    record {
      state = c.hand_in_at.ensures.state ∙ c.loop-turn.invariant.state;
      kinds = c.hand_in_at.ensures.kinds ∙ c.loop-turn.invariant.kinds;
      inbox = c.hand_in_at.ensures.inbox ∙ c.loop-turn.invariant.inbox;
      ahead = handed_in-next _ g.S.Service.is_for _ _ _ _ _ _ _ _ _ c.hand_in_at.ensures.state c.hand_in_at.ensures.inbox c.loop-turn.invariant.at_is pushed c.loop-turn.invariant.ahead one;
      count = omega (arith, ap length pushed, length-append hs (h ∷ []), c.loop-turn.invariant.count);
      at_is = omega (arith, c.loop-turn.invariant.at_is, frames_len-push hs h, ap frames_len pushed);
      handed_in = hands_next g.S.Service.hands_in _ _ _ _ _ _ _ _ c.hand_in_at.ensures.inbox c.loop-turn.invariant.handed_in (rw (c.in-Some.is, c.loop-turn.invariant.kinds) at c.hand_in_at.ensures.handed_in);
      within = within _ g.S.Service.is_for _ h c.hand_in_at.new.self.inbox c.loop-turn.at (omega (arith, ap length c.hand_in_at.ensures.inbox, c.loop-turn.invariant.within)) one;
    }
