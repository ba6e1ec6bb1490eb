use Rattle.std.proofs.Common.{rules, ◌≡◌, subst, sym, IsTrue}
use Rattle.std.specs.Prelude.{◌↔◌}
use Rattle.seg_core.specs.EqualityLaws.{same_segment-iff}
use Rattle.seg_core.proofs.equality.SegmentPartialEq.eq.Goals as goal

pub returns-clause-same : goal.returns-clause-same
returns-clause-same c =
    let s = c.args.self.now in
    let t = c.args.other.now in
    subst (λ equal. (IsTrue equal) ↔ (s ≡ t)) (sym c.same_segment.ensures) (same_segment-iff s t)

pub returns-clause-test : goal.returns-clause-test
returns-clause-test c = search rules
