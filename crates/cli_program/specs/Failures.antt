-- Why a command line is not carried out, where its server ended early, and the status by that.
use Rattle.std.specs.Prelude.{◌≡◌, ℕ, if◌then◌else◌, codes}
use Rattle.clap.specs.declared.parser.matches.Found.{Found}
use Rattle.cli_commands.specs.Options.{IsNumberOf}
use Rattle.cli_words.specs.declared.command_line.Subcommand.{Subcommand}
use Rattle.cli_words.specs.declared.command_line.Subcommand.TheVariants.{Run}
use Rattle.cli_commands.specs.Failures.{is_lasting}
use Rattle.path_server.specs.declared.error.RunError.{RunError}
use Rattle.path_server.specs.declared.error.RunError.TheVariants as server
use Rattle.cli_commands.specs.declared.failure.Failure.{Failure}
use Rattle.cli_commands.specs.declared.failure.Failure.TheVariants as failure

-- The failure for an error of the server.
abbrev pub failure_of : RunError → Failure
failure_of server.NoMemory = failure.ServerMemory
failure_of server.Net = failure.BrokenListener

-- The status of a failure that a server meets again: for a server that of its words, which is 1
-- unless they name one, and else 1.
abbrev pub IsFinalStatusOf : Subcommand → Found → ℕ → Type 0
IsFinalStatusOf Run found status = IsNumberOf found (codes "final-status") 8 1 status
IsFinalStatusOf _ found status = status ≡ 1

-- The status of the program by a failure, where the words have this status for one that is met
-- again.
abbrev pub status_by : ℕ → Failure → ℕ
status_by final_status failure = if is_lasting failure then final_status else 1
