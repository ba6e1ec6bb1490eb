-- How the program ends.
use Rattle.std.specs.Prelude.{ℕ, List, ◌++◌, codes, Result, Ok, Err}
use Rattle.cli_once.specs.Fault as session
use Rattle.cli_store.specs.Fault as store
use Rattle.cli_ask.specs.Faults as asked
use Rattle.cli_commands.specs.declared.ending.Done.{Done}
use Rattle.cli_commands.specs.declared.ending.Done.TheVariants.{Carried, Refused}
use Rattle.cli_commands.specs.declared.ending.Ended.{Ended}
use Rattle.cli_commands.specs.declared.ending.Failed.{Failed}
use Rattle.cli_commands.specs.declared.ending.Ended.TheVariants.{Session, Store, Net, Ask}

-- The words that say why the program ends.
abbrev pub ended_text : Ended → List ℕ
ended_text (Session fault) = session.session_fault_text fault
ended_text (Store fault) = store.store_fault_text fault
ended_text Net = codes "net"
ended_text (Ask fault) = asked.ask_fault_text fault

-- The last line of the program on standard error.
abbrev pub ended_line : Ended → List ℕ
ended_line ended = codes "error: " ++ ended_text ended

-- The exit status of the program.
abbrev pub program_status : Result Done Failed → ℕ
program_status (Ok Carried) = 0
program_status (Ok Refused) = 2
program_status (Err failed) = failed.status
