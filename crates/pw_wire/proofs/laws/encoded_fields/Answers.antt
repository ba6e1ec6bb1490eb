use Rattle.pw_wire.proofs.Messages.{fields-varint_field, fault-varint_field, fields-bytes_field, fault-bytes_field}
use Rattle.pw_wire.proofs.laws.encoded_fields.Goals as goal

pub returns-clause-varint : goal.returns-clause-varint
returns-clause-varint c = λ number n positive below fits rest. (fields-varint_field number n rest positive below fits, fault-varint_field number n rest positive below fits)

pub returns-clause-bytes : goal.returns-clause-bytes
returns-clause-bytes c = λ number bytes positive below fits rest. (fields-bytes_field number bytes rest positive below fits, fault-bytes_field number bytes rest positive below fits)
