use Rattle.std.proofs.Common.{arith}
use Rattle.path_records.proofs.Writable.{items_size}
use Rattle.path_records.proofs.command_records.read_registration.Goals as goal

pub returns-clause-limits : goal.returns-clause-limits
returns-clause-limits c =
    let so = items_size _ _ c.in_ok-rows.rows.items c.in_ok-rows.ensures.decoding in
    rw c.new.ensures (omega (arith, so.0), omega (arith, so.1))
