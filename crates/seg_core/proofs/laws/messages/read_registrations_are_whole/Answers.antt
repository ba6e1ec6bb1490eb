use Rattle.seg_core.proofs.Registered.{registration-HoldsFew}
use Rattle.seg_core.proofs.laws.messages.read_registrations_are_whole.Goals as goal

pub returns-clause-few : goal.returns-clause-few
returns-clause-few c = λ message rows are reading. (registration-HoldsFew message rows are reading).few

pub returns-clause-whole : goal.returns-clause-whole
returns-clause-whole c = λ message rows are reading. (registration-HoldsFew message rows are reading).whole

pub returns-clause-short : goal.returns-clause-short
returns-clause-short c = λ message rows are reading. (registration-HoldsFew message rows are reading).short
