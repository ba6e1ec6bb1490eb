-- Why a session ended.
use Rattle.std.specs.Prelude.{ℕ, Bool, true, false, Result, Ok, Err, if◌then◌else◌}
use Rattle.session_core.specs.declared.error.FrameError.{FrameError}
use Rattle.session_core.specs.declared.error.FrameError.TheVariants as error
use Rattle.server_front.specs.declared.ends.Cause.{Cause}
use Rattle.server_front.specs.declared.ends.Cause.TheVariants.{Orderly, Idle, Frame, Failed, NoMemory, Server}
use Rattle.server_front.specs.declared.ends.Circumstances.{Circumstances}

-- The cause of the end of a session whose connection failed.
abbrev pub cause_of_failure : Circumstances → Cause
cause_of_failure around = if around.is_shut then Server else if around.is_late then Idle else Failed

-- The cause of the end of a session, by its result. Faulty frames and want of memory are causes
-- whatever else is known; a connection that the server has shut down was ended by the server.
abbrev pub cause_of : Result ℕ FrameError → Circumstances → Cause
cause_of (Ok replies) around = if around.is_shut then Server else Orderly
cause_of (Err error.NoMemory) around = NoMemory
cause_of (Err error.Length) around = Frame
cause_of (Err error.Kind) around = Frame
cause_of (Err error.Read) around = cause_of_failure around
cause_of (Err error.Write) around = cause_of_failure around
cause_of (Err error.Turns) around = Server

-- The cause is reported.
abbrev pub is_fault : Cause → Bool
is_fault Frame = true
is_fault Failed = true
is_fault NoMemory = true
is_fault _ = false
