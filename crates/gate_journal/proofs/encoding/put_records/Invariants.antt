use Rattle.std.proofs.Common.{◌≡◌, ◌++◌, drop}
use Rattle.store_layout.specs.Group.{records_of}
use Rattle.gate_journal.specs.Commands.{command_format}
use Rattle.gate_journal.proofs.encoding.put_records.Given as goal

-- What was put and what is left are all of them, after what was there.
abbrev pub invariant-loop-command : goal.invariant-loop-command
invariant-loop-command l = l.out.items ++ records_of command_format (drop l.command-index l.commands) ≡ l.fn.out.items ++ records_of command_format l.commands
