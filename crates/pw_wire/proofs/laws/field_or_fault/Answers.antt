use Rattle.pw_wire.proofs.FieldLemmas.{one_of_both, not_both, one_field, one_fault}
use Rattle.pw_wire.proofs.laws.field_or_fault.Goals as goal

pub returns-clause-one : goal.returns-clause-one
returns-clause-one c = one_of_both

pub returns-clause-not_both : goal.returns-clause-not_both
returns-clause-not_both c = λ bytes is fault. not_both bytes is.field_number is.value is.len fault.0 is.field fault.1

pub returns-clause-one_number : goal.returns-clause-one_number
returns-clause-one_number c = λ bytes m n v w k l some other. (one_field bytes m n v w k l some other).0

pub returns-clause-one_value : goal.returns-clause-one_value
returns-clause-one_value c = λ bytes m n v w k l some other. (one_field bytes m n v w k l some other).1

pub returns-clause-one_length : goal.returns-clause-one_length
returns-clause-one_length c = λ bytes m n v w k l some other. (one_field bytes m n v w k l some other).2

pub returns-clause-one_fault : goal.returns-clause-one_fault
returns-clause-one_fault c = one_fault
