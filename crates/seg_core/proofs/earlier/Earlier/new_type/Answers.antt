use Rattle.std.proofs.Common.{rules}
use Rattle.seg_core.proofs.Types.{new_type-is}
use Rattle.seg_core.proofs.earlier.Earlier.new_type.Goals as goal

pub returns-in_err-check : goal.returns-in_err-check
returns-in_err-check c = λ numbers noted.
    let is = new_type-is numbers c.args.self c.args.number c.in_ok-kind.kind noted c.in_ok-kind.ensures in
    search rules

pub returns : goal.returns
returns c = λ numbers noted.
    let is = new_type-is numbers c.args.self c.args.number c.in_ok-kind.kind noted c.in_ok-kind.ensures in
    search rules
