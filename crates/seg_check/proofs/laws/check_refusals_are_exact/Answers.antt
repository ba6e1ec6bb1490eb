use Rattle.seg_check.proofs.Checks.{none-IsAccepted, IsAccepted-none, bad-HasFirstBad, HasFirstBad-bad, expired-HasExpired, HasExpired-expired}
use Rattle.seg_check.proofs.laws.check_refusals_are_exact.Goals as goal

pub returns-clause-accepted : goal.returns-clause-accepted
returns-clause-accepted c verifies now s whole = (none-IsAccepted verifies now s whole, IsAccepted-none verifies now s)

pub returns-clause-bad_signature : goal.returns-clause-bad_signature
returns-clause-bad_signature c verifies now at s = (bad-HasFirstBad verifies now s at, HasFirstBad-bad verifies now s at)

pub returns-clause-expired : goal.returns-clause-expired
returns-clause-expired c verifies now s = (expired-HasExpired verifies now s, HasExpired-expired verifies now s)
