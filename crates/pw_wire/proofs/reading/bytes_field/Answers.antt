use Rattle.std.proofs.Common.{rules}
use Rattle.pw_wire.proofs.reading.bytes_field.Goals as goal

pub returns-clause-within : goal.returns-clause-within
returns-clause-within c = search rules
