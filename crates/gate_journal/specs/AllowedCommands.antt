-- Which commands a journal allows.
use Rattle.path_db.specs.declared.command.Command.{Command}
use Rattle.path_db.specs.Command.{HasWholeSegments}
use Rattle.path_records.specs.CommandRecord.{IsWithinLimits}
use Rattle.path_records.specs.RecordLaws.{HasWidths, IsAllowedBy}
use Rattle.store_layout.specs.Limits.{Limits}
use Rattle.store_layout.specs.CommandFormat.{IsAllowed}
use Rattle.gate_journal.specs.Commands.{command_format}

-- The limits of a journal allow each command that is within its own limits, and a removal only
-- where they allow removals.
abbrev pub CommandsAreAllowed : Type 0
CommandsAreAllowed =
    (limits : Limits) (command : Command) → IsWithinLimits command → HasWholeSegments command → HasWidths command → IsAllowedBy limits.removals command
    → IsAllowed command_format limits command
