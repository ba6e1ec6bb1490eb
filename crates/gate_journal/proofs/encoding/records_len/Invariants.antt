use Rattle.std.proofs.Common.{◌≡◌, ◌+◌, ◌*◌, ◌≤◌, length, drop}
use Rattle.store_layout.specs.Group.{records_of}
use Rattle.gate_journal.specs.Commands.{command_format}
use Rattle.gate_journal.proofs.encoding.records_len.Given as goal

-- The lengths so far, and those of the records that are left, are all.
abbrev pub invariant-loop-command : goal.invariant-loop-command
invariant-loop-command l = record {
  all : l.len + length (records_of command_format (drop l.command-index l.commands)) ≡ length (records_of command_format l.commands);
  small : l.len ≤ 131158 * l.command-index;
}
