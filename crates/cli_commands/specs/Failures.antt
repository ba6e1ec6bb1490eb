-- How the program ends, by why its words are not carried out.
use Rattle.std.specs.Prelude.{Bool, true, false}
use Rattle.std.specs.IoError.{error_kind}
use Rattle.std.specs.declared.io.ErrorKind.{ErrorKind}
use Rattle.std.specs.declared.io.ErrorKind.TheVariants.{OutOfMemory, NotFound, PermissionDenied, ReadOnlyFilesystem, FileTooLarge, InvalidInput}
use Rattle.cli_once.specs.declared.error.SessionFault.TheVariants as session_fault
use Rattle.store_open.specs.declared.error.OpenError.TheVariants as opening
use Rattle.cli_store.specs.declared.error.Fault.{Fault}
use Rattle.cli_store.specs.declared.error.Fault.TheVariants as store_fault
use Rattle.cli_ask.specs.declared.error.AskFault.TheVariants as ask_fault
use Rattle.cli_ask.specs.Faults.{ask_fault_of, word_number}
use Rattle.cli_commands.specs.declared.ending.Ended.{Ended}
use Rattle.cli_commands.specs.declared.ending.Ended.TheVariants as ended
use Rattle.cli_commands.specs.declared.failure.Failure.{Failure}
use Rattle.cli_commands.specs.declared.failure.Failure.TheVariants as failure

-- How the program ends where the system refuses a file or an address by this kind of error: as for
-- any other want of memory, or as for a refusal of another kind.
abbrev pub or_memory : ErrorKind → Ended → Ended
or_memory OutOfMemory other = ended.Session session_fault.Memory
or_memory _ other = other

-- How the program ends by a failure.
abbrev pub ended_by : Failure → Ended
ended_by (failure.Core text error) = ended.Session (session_fault.Text error)
ended_by failure.Key = ended.Session session_fault.Hex
ended_by (failure.Address option text) = ended.Net
ended_by (failure.Word word error) = ended.Ask (ask_fault.Word (word_number error))
ended_by (failure.Peer text) = ended.Net
ended_by (failure.Asked text error) = ended.Ask (ask_fault_of error)
ended_by (failure.File path error) = or_memory (error_kind error) (ended.Store store_fault.File)
ended_by (failure.Store path fault) = ended.Store fault
ended_by (failure.Device path fault cause) = ended.Store fault
ended_by (failure.Listen text error) = or_memory (error_kind error) ended.Net
ended_by failure.ServerMemory = ended.Session session_fault.Memory
ended_by failure.BrokenListener = ended.Net
ended_by (failure.Session fault) = ended.Session fault
ended_by failure.Memory = ended.Session session_fault.Memory
ended_by failure.Output = ended.Session session_fault.Output

-- How the program ends by a fault of a command over a store: by standard output, or by the store.
abbrev pub ended_by_fault : Fault → Ended
ended_by_fault store_fault.Output = ended.Session session_fault.Output
ended_by_fault fault = ended.Store fault

-- A store that could not be opened for this reason cannot be opened later, unless it is changed: it
-- is none, or is damaged.
abbrev pub is_lasting_fault : Fault → Bool
is_lasting_fault (store_fault.Open opening.NotAStore) = true
is_lasting_fault (store_fault.Open (opening.Pair error)) = true
is_lasting_fault (store_fault.Open (opening.Journal error)) = true
is_lasting_fault _ = false

-- The system refuses a file or an address by an error of this kind until an operator has changed
-- something: there is none, the program may not have it, its file system is read-only, or it is
-- longer than the program may write.
abbrev pub is_lasting_kind : ErrorKind → Bool
is_lasting_kind NotFound = true
is_lasting_kind PermissionDenied = true
is_lasting_kind ReadOnlyFilesystem = true
is_lasting_kind FileTooLarge = true
is_lasting_kind InvalidInput = true
is_lasting_kind _ = false

-- A server that is started again fails so, too, until its words, its file or its store are changed.
abbrev pub is_lasting : Failure → Bool
is_lasting (failure.Core text error) = true
is_lasting failure.Key = true
is_lasting (failure.Address option text) = true
is_lasting (failure.File path error) = is_lasting_kind (error_kind error)
is_lasting (failure.Listen text error) = is_lasting_kind (error_kind error)
is_lasting (failure.Store path fault) = is_lasting_fault fault
is_lasting (failure.Device path fault cause) = is_lasting_fault fault
is_lasting _ = false
