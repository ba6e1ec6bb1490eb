use Rattle.std.proofs.Common.{◌≡◌, ℕ, Err, arith, refl, subst, ◌∙◌}
use Rattle.std.proofs.lemmas.Result.{err_from_is_err_and}
use Rattle.session_core.specs.declared.error.FrameError.TheVariants as error
use Rattle.session_core.specs.Session.{IsServed}
use Rattle.session_core.proofs.HandedInLemmas.{hands_none, hands_in_none, hands_in_more, hands_in_all, hands_in_failed}
use Rattle.session_core.proofs.SessionLemmas.{so_far_none, so_far_read, fails_to_take_in, ends_after_read, ends_at_read_piece, ends_at_turns}
use Rattle.session_core.proofs.serving.serve_session.Goals as goal

pub loop-turn-init : goal.loop-turn-init
loop-turn-init g c = record {
  kinds = refl;
  none = c.requires.none;
  so_far = so_far_none _ _ _ _ _ _ c.requires.fresh;
  sent = λ before. before;
  handed_in = hands_in_none _ _ _ _ _ c.requires.fresh;
}

pub returns-in_err-read_from-clause-served : goal.returns-in_err-read_from-clause-served
returns-in_err-read_from-clause-served g c =
    let p = err_from_is_err_and c.from_residual.result c.from_residual.ensures.1 in
    rw (p.1, p.2, c.read_from.ensures.service) (fails_to_take_in _ _ _ _ _ _ _ _ _ _ _ c.loop-turn.invariant.so_far _ _ _ _ c.loop-turn-test.true c.in_err-read_from.ensures.err)

pub returns-then-branch-eq0-clause-served : goal.returns-then-branch-eq0-clause-served
returns-then-branch-eq0-clause-served g c =
    rw c.read_from.ensures.service (ends_after_read _ _ _ _ _ _ _ _ _ _ _ c.loop-turn.invariant.so_far _ _ _ _ _ _ c.loop-turn-test.true
    c.in_ok-read_from.ensures.ok c.if-branch-eq0.true (c.in_ok-read_from.ensures.end c.if-branch-eq0.true) c.end.ensures.ok c.end.ensures.whole c.end.ensures.err)

pub returns-in_err-count-clause-served : goal.returns-in_err-count-clause-served
returns-in_err-count-clause-served g c =
    let p = err_from_is_err_and c.from_residual-in_err-count.result c.from_residual-in_err-count.ensures.1 in
    let fronts = rw (c.read_from.ensures.service, c.read_from.ensures.kinds, c.loop-turn.invariant.kinds) at c.in_err-count.ensures.fronts in
    rw (p.1, p.2) (ends_at_read_piece _ _ _ _ _ _ _ _ _ _ _ c.loop-turn.invariant.so_far _ _ _ c.in_ok-read_from.ensures.ok _ _ _ _ _ _ c.loop-turn-test.true fronts)

pub loop-turn-preserved : goal.loop-turn-preserved
loop-turn-preserved g c =
    let fronts = rw (c.read_from.ensures.service, c.read_from.ensures.kinds, c.loop-turn.invariant.kinds) at c.in_ok-count.ensures.fronts in
    let taken = rw (c.read_from.ensures.service, c.read_from.ensures.kinds, c.loop-turn.invariant.kinds, c.in_ok-count.ensures.none) at c.in_ok-count.ensures.handed_in in
    record {
      kinds = c.in_ok-count.ensures.kinds ∙ (c.read_from.ensures.kinds ∙ c.loop-turn.invariant.kinds);
      none = c.in_ok-count.ensures.none;
      so_far = so_far_read _ _ _ _ _ _ _ _ _ _ _ c.loop-turn.invariant.so_far _ _ _ c.in_ok-read_from.ensures.ok _ _ _ _ _ refl fronts;
      sent = λ before. c.in_ok-count.ensures.sent;
      handed_in = hands_in_more _ _ _ _ _ _ _ _ c.loop-turn.invariant.handed_in _ _ _ _ _ _ c.in_ok-read_from.ensures.ok refl taken;
    }

pub returns-clause-served : goal.returns-clause-served
returns-clause-served g c =
    let all : c.loop-turn._turn ≡ c.args.turns = omega arith in
    subst (λ (turns : ℕ). IsServed c.args.session.now.kinds g.S.Service.answers g.R.Source.gives turns (g.S.Service.state c.args.session.now.service) (g.S.Service.state c.loop-turn.session.service) c.args.reader.now c.loop-turn.reader (g.R.Source.is_at_end c.loop-turn.reader)
    (g.W.Sink.contents c.args.replies.now.writer) (g.W.Sink.contents c.loop-turn.replies.writer) (Err error.Turns)) all
    (ends_at_turns _ _ _ _ _ _ _ _ _ _ _ c.loop-turn.invariant.so_far _)

pub returns-in_err-read_from-clause-handed_in : goal.returns-in_err-read_from-clause-handed_in
returns-in_err-read_from-clause-handed_in g c =
    rw c.read_from.ensures.service (hands_in_failed _ _ _ _ _ _ _ _ c.loop-turn.invariant.handed_in _ _ _ c.loop-turn-test.true c.in_err-read_from.ensures.err)

pub returns-then-branch-eq0-clause-handed_in : goal.returns-then-branch-eq0-clause-handed_in
returns-then-branch-eq0-clause-handed_in g c =
    let after = hands_in_more _ _ _ _ _ _ _ _ c.loop-turn.invariant.handed_in _ _ _ _ _ _ c.in_ok-read_from.ensures.ok refl (hands_none _ _ _) in
    rw c.read_from.ensures.service (hands_in_all _ _ _ _ _ _ _ _ after _ (omega (arith, c.loop-turn-test.true)))

pub returns-in_err-count-clause-handed_in : goal.returns-in_err-count-clause-handed_in
returns-in_err-count-clause-handed_in g c =
    let taken = rw (c.read_from.ensures.service, c.read_from.ensures.kinds, c.loop-turn.invariant.kinds) at c.in_err-count.ensures.handed_in in
    let after = hands_in_more _ _ _ _ _ _ _ _ c.loop-turn.invariant.handed_in _ _ _ _ _ _ c.in_ok-read_from.ensures.ok refl taken in
    hands_in_all _ _ _ _ _ _ _ _ after _ (omega (arith, c.loop-turn-test.true))

pub returns-clause-handed_in : goal.returns-clause-handed_in
returns-clause-handed_in g c = hands_in_all _ _ _ _ _ _ _ _ c.loop-turn.invariant.handed_in _ (omega arith)
