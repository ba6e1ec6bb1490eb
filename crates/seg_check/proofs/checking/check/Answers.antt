use Rattle.std.proofs.Common.{◌∙◌, sym, refl}
use Rattle.seg_check.proofs.Checks.{none-AllVerified, AllVerified-none}
use Rattle.seg_check.proofs.checking.check.Goals as goal

-- An entry was refused, so the segment is not accepted.
pub returns-in-Some-clause-accepted : goal.returns-in-Some-clause-accepted
returns-in-Some-clause-accepted g c = (
  λ is. absurd cc,
  λ accepted. absurd (let none = AllVerified-none (g.V.Verifier.verifies c.args.verifier.now) c.args.segment.now.info c.args.segment.now.entries accepted.verified in
      let some = c.first_bad.ensures.first in
      let is = c.in-Some.is in
      cc),
)

pub returns-clause-accepted : goal.returns-clause-accepted
returns-clause-accepted g c =
    let first = c.first_bad.ensures in (
      λ is. record {
        whole = first.whole;
        verified = none-AllVerified (g.V.Verifier.verifies c.args.verifier.now) c.args.segment.now.info c.args.segment.now.entries (sym first.first ∙ c.in_default.is);
        lasting = let later = c.if-expiry-now.false in let expires = c.expiry.ensures in rw (sym expires) later;
      },
      λ accepted. refl,
    )
