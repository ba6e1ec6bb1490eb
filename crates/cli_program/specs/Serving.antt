-- What each end of a server leaves of the file of its store.
use Rattle.std.specs.Prelude.{◌≡◌, List, ℕ, Result, Ok, Err}
use Rattle.sector_dev.specs.Disk.{Disk, IsHonest, reads_of, after_sync}
use Rattle.sector_dev.specs.FileDevice.{front}
use Rattle.sector_dev.specs.Image.{IsImage, IsFromImage}
use Rattle.sector_dev.specs.PositionedFile.{FileState, IsHonestFile, file_moment}
use Rattle.sector_dev.specs.Stretch.{Stretch}
use Rattle.store_open.specs.Open.{ComesBack, IsNoFault, IsOpened, OpensAlike}
use Rattle.store_open.specs.Store.{StoreView}
use Rattle.store_open.specs.declared.error.OpenError.{OpenError}
use Rattle.group_core.specs.Starting.{value_of_store}
use Rattle.logged_state.specs.Left.{OpensToLog}
use Rattle.command_queue.specs.Orders.{QueuedView, commands_of, IsWithin, AreAllOf}
use Rattle.prefix_recovery.specs.servers.Survival.{ServerView}
use Rattle.prefix_recovery.specs.servers.Serving.{IsServed}
use Rattle.path_server.specs.declared.error.RunError.{RunError}
use Rattle.cli_store.specs.Fault.{fault_of_opening}
use Rattle.cli_store.specs.declared.error.Fault.{Fault}
use Rattle.cli_commands.specs.declared.failure.Failure.{Failure}
use Rattle.cli_commands.specs.declared.failure.Failure.TheVariants as failure
use Rattle.cli_program.specs.Failures.{failure_of}

-- A store of a device over a file is opened and served: what the device has at the start, the
-- server's trace and what was handed in at its queue, and the file and the device at the end.
pub record ServesFile (start : Disk) (trace : ServerView) (queued : QueuedView) (file : FileState) (end : Disk) : Type 0 where
  -- The store is opened. Until then each image that a stop may leave is one of the start, or opens
  -- with what one of the start opens with.
  pub opens : IsHonest start → IsOpened (reads_of start) trace.start
  pub alike : Stretch start trace.start.disk (IsFromImage start.history.now OpensAlike)
  -- From then on, at every moment, each such image opens to its rows after a front of the log, with
  -- each acknowledged command from its commit on, and with what each session was shown last.
  pub served : IsServed trace.start trace.left trace.end
  pub ends : trace.end ≡ end
  -- Each command of the log was handed in by a sender, in the log's order and once.
  pub within : IsWithin trace.left.log.commands (commands_of queued.history)
  -- What a sender had handed in, if it was given back, is all that was handed in of it.
  pub sent : AreAllOf queued.history queued.senders
  -- Each content that a stop may leave of the file at the end opens, in the device's sectors,
  -- to these rows after a front of the log with all committed commands.
  pub leaves : IsHonestFile file → (content : List ℕ) → IsImage (file_moment file) content
      → OpensToLog (value_of_store trace.start) trace.left.log (front end.sectors content)

-- The failure names the file of this path, and this fault of its store.
abbrev pub NamesFault : List ℕ → Failure → Fault → Type 0
NamesFault path (failure.Store text fault) named = (text.now ≡ path) × (fault ≡ named)
NamesFault path _ named = ⊥

-- A store of a device over a file of this path is refused: what the device has at the start, the
-- failure, and what the device has at the end.
pub record RefusesStore (path : List ℕ) (start : Disk) (why : Failure) (end : Disk) : Type 0 where
  -- Why the opening refuses the store, which the failure names.
  pub error : OpenError
  pub named : NamesFault path why (fault_of_opening error)
  -- An error of the contents is the refusal of these contents.
  pub refused : ComesBack error start end
  -- The contents are as they were found, unless a call of the device failed.
  pub untouched : IsHonest start → IsNoFault error → end.history ≡ after_sync start.history
  -- Also then each image that a stop may leave is one of the start, or opens with what one of the
  -- start opens with.
  pub alike : Stretch start end (IsFromImage start.history.now OpensAlike)

-- Why a store that was opened is not served: there are no listeners, or the server ended early.
abbrev pub WhyUnserved : {A : Type 0} → Result A Failure → Result ℕ Failure → Type 0
WhyUnserved (Err why) served = served ≡ Err why
WhyUnserved (Ok listeners) served = (error : RunError) × (served ≡ Err (failure_of error))

-- A store is opened and not served: what the device has at the start and at the end, the listeners
-- or why there are none, and what is said of the sessions.
pub record LeavesUnserved {A : Type 0} (start : Disk) (listeners : Result A Failure) (served : Result ℕ Failure) (end : Disk) : Type 0 where
  -- The store that was opened.
  pub store : StoreView
  pub opens : IsHonest start → IsOpened (reads_of start) store
  -- The opening alone has written, and each image that a stop may leave is one of the start, or
  -- opens with what one of the start opens with.
  pub alike : Stretch start store.disk (IsFromImage start.history.now OpensAlike)
  pub same : end ≡ store.disk
  pub why : WhyUnserved listeners served

-- What a server has returned, by the failure of its error.
abbrev pub told_by : Result ℕ RunError → Result ℕ Failure
told_by (Ok count) = Ok count
told_by (Err error) = Err (failure_of error)
