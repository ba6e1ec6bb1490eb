use Rattle.std.proofs.Common.{rules}
use Rattle.pw_wire.proofs.writing.put_varint.Goals as goal

pub returns-clause-err : goal.returns-clause-err
returns-clause-err c = search rules
