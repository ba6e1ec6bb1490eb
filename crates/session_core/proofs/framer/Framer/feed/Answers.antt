use Rattle.std.proofs.Common.{◌≡◌, refl, ap, subst}
use Rattle.session_core.specs.declared.message_kinds.Kinds.{Kinds}
use Rattle.session_core.specs.Framer.{message_views, Continues, FramerView, IsFaultOf, ending_of}
use Rattle.session_core.proofs.FramerLemmas.{rest_is, not_faulty, feeds, fault-ending, stays_faulty}
use Rattle.session_core.proofs.framer.Framer.feed.Goals as goal

pub invariant_of-self-in-Ok : goal.invariant_of-self-in-Ok
invariant_of-self-in-Ok c = rw (c.drop_front.ensures, ← c.as_slice.ensures.value) c.in-Ok.ensures.fault

pub returns-in-Some : goal.returns-in-Some
returns-in-Some c =
    let kept = c.self.inside.kept.items in
    let both = stays_faulty kept c.args.piece.now (message_views c.new.result.items) c.self.inside.fault c.in-Some.fault c.args.self.now.ending
    (ap (λ (v : FramerView). v.ending) c.self.view_is) c.self.invariant c.in-Some.is (ap message_views c.new.ensures.items) in
    record {
      stream = subst (λ (kinds : Kinds). Continues kinds c.args.self.now.ending c.args.piece.now (message_views c.new.result.items) c.args.self.now.ending) (ap (λ (v : FramerView). v.kinds) c.self.view_is) both.0;
      fault = both.1;
      kinds = refl;
      silent = λ _. c.new.ensures.items;
      stopped = λ _. refl;
      ready = λ _. refl;
      err = tt;
    }

pub returns-in-Ok : goal.returns-in-Ok
returns-in-Ok c =
    let kept = c.self.inside.kept.items in
    let same_kinds : c.self.inside.kinds ≡ c.args.self.now.kinds = ap (λ (v : FramerView). v.kinds) c.self.view_is in
    let is = rest_is kept c.self.inside.fault c.args.self.now.ending (ap (λ (v : FramerView). v.ending) c.self.view_is) c.in_default.is in
    let left : IsFaultOf c.self.inside.kinds c.drop_front.new.bytes.items c.in-Ok.fed.fault = rw (c.drop_front.ensures, ← c.as_slice.ensures.value) c.in-Ok.ensures.fault in
    record {
      stream = subst (λ (kinds : Kinds). Continues kinds c.args.self.now.ending c.args.piece.now (message_views c.in-Ok.fed.messages.items) (ending_of c.drop_front.new.bytes.items c.in-Ok.fed.fault)) same_kinds (feeds kept c.args.piece.now c.extend_from_slice.new.self.items c.drop_front.new.bytes.items c.as_slice.result.now c.in-Ok.used (message_views c.in-Ok.fed.messages.items) c.in-Ok.fed.fault c.args.self.now.ending
          is c.in_ok-extend_from_slice.ensures.items c.as_slice.ensures.value c.drop_front.ensures c.in-Ok.ensures.messages c.in-Ok.ensures.fault);
      fault = fault-ending c.self.inside.kinds c.drop_front.new.bytes.items c.in-Ok.fed.fault left;
      kinds = same_kinds;
      silent = λ faulty. absurd (not_faulty kept c.args.self.now.ending is faulty);
      stopped = λ faulty. absurd (not_faulty kept c.args.self.now.ending is faulty);
      ready = λ _. refl;
      err = tt;
    }
