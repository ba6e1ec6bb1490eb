use Rattle.pw_wire.proofs.Messages.{whole, until}
use Rattle.pw_wire.proofs.laws.all_fields.Goals as goal

pub returns-clause-whole : goal.returns-clause-whole
returns-clause-whole c = whole

pub returns-clause-until : goal.returns-clause-until
returns-clause-until c = until
