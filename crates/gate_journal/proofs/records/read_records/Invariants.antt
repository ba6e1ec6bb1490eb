use Rattle.std.proofs.Common.{◌≡◌, ◌-◌, ◌<◌}
use Rattle.store_layout.specs.Limits.{limits_of}
use Rattle.store_layout.specs.GroupReading.{commands_in}
use Rattle.gate_journal.specs.Commands.{command_format}
use Rattle.gate_journal.specs.Reading.{FirstWantsMemory}
use Rattle.gate_journal.proofs.Found.{appended}
use Rattle.gate_journal.proofs.records.read_records.Given as goal

-- What is left, after the commands that were read so far, gives what all of it gives. The first
-- record was read, if one was.
abbrev pub invariant-loop : goal.invariant-loop
invariant-loop l = record {
  reading : appended l.fn.commands.items (commands_in command_format (limits_of l.version) l.count l.bytes)
      ≡ appended l.commands.items (commands_in command_format (limits_of l.version) (l.count - l.counter) l.rest);
  first : l.counter ≡ 0 → l.rest ≡ l.bytes;
  wanted : 0 < l.counter → FirstWantsMemory (limits_of l.version) l.bytes;
}
