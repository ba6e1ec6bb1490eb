use Rattle.pw_wire.proofs.Varints.{one_number, varint_encoding_is, varint_encoding_shortest}
use Rattle.pw_wire.proofs.laws.encoded_varint.Goals as goal

pub returns-clause-one_number : goal.returns-clause-one_number
returns-clause-one_number c = one_number

pub returns-clause-encoded : goal.returns-clause-encoded
returns-clause-encoded c = λ n lt. varint_encoding_is n lt

pub returns-clause-shortest : goal.returns-clause-shortest
returns-clause-shortest c = λ n bytes is. varint_encoding_shortest n bytes is
