-- What may be written as one group.
use Rattle.std.specs.Prelude.{ℕ, ◌+◌, ◌≤◌, List, length}
use Rattle.std.specs.List.{All}
use Rattle.path_db.specs.declared.command.Command.{Command}
use Rattle.path_records.specs.CommandRecord.{IsWithinLimits}
use Rattle.store_layout.specs.Group.{most_record_bytes, last_place, records_of}
use Rattle.gate_journal.specs.Commands.{command_format}

-- Commands can be one group: 1 to 32 commands, each within its limits, with records of at most
-- 262,144 bytes together, and with places for all of them.
pub record IsWithinGroupLimits (commands : List Command) (place : ℕ) : Type 0 where
  pub some : 1 ≤ length commands
  pub most : length commands ≤ 32
  pub each : All IsWithinLimits commands
  pub short : length (records_of command_format commands) ≤ most_record_bytes
  pub last : place + length commands ≤ last_place
