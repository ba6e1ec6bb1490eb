use Rattle.std.proofs.Common.{sym}
use Rattle.seg_core.proofs.Types.{type_number-of, type_of-number}
use Rattle.seg_core.proofs.laws.decoding.type_numbers_are_exact.Goals as goal

pub returns-clause-number : goal.returns-clause-number
returns-clause-number c = λ kind. type_of-number kind

pub returns-clause-only : goal.returns-clause-only
returns-clause-only c = λ n kind is. sym (type_number-of n kind is)
