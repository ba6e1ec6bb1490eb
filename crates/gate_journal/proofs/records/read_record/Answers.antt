use Rattle.std.proofs.Common.{rules, arith, ◌≡◌, ℕ, ◌+◌, ◌-◌, take, drop, ap}
use Rattle.byte_lists.specs.Content.{part}
use Rattle.store_layout.specs.Limits.{limits_of}
use Rattle.store_layout.specs.GroupReading.{first_command}
use Rattle.gate_journal.specs.Commands.{command_format}
use Rattle.gate_journal.specs.Reading.{Refuses, found_in_records}
use Rattle.gate_journal.specs.RecordError.{error_of_record}
use Rattle.gate_journal.proofs.Found.{first_refused}
use Rattle.gate_journal.proofs.records.read_record.Goals as goal

pub returns-in_err-command-clause-first : goal.returns-in_err-command-clause-first
returns-in_err-command-clause-first c =
    let same : take (4 + c.read_u32-size.result - 4) (drop 4 c.args.bytes.now) ≡ part 4 c.read_u32-size.result c.args.bytes.now =
    let size : 4 + c.read_u32-size.result - 4 ≡ c.read_u32-size.result = omega arith in
    ap (λ (n : ℕ). take n (drop 4 c.args.bytes.now)) size in
    let refused : Refuses (error_of_record c.in_err-command.field-0.0) (found_in_records (first_command command_format (limits_of c.args.version) c.args.bytes.now)) =
    first_refused c.args.version c.args.bytes.now c.read_u32-size.result c.read_u32-size.ensures (omega arith) _ _ c.in_err-command.field-0.0 c.allows-removals.ensures same c.in_err-command.ensures.decoding in
    search (rules, refused)
