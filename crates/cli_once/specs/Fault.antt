-- The program's words for the fault that ended a session.
use Rattle.std.specs.Prelude.{ℕ, List, ◌++◌, codes}
use Rattle.std.specs.Fmt.{decimal}
use Rattle.isd_as.specs.declared.error.IaError.{IaError}
use Rattle.isd_as.specs.declared.error.IaError.TheVariants as ia
use Rattle.session_core.specs.declared.error.FrameError.{FrameError}
use Rattle.session_core.specs.declared.error.FrameError.TheVariants as error
use Rattle.cli_once.specs.declared.error.SessionFault.{SessionFault}
use Rattle.cli_once.specs.declared.error.SessionFault.TheVariants as fault

-- The fault of a session's error. Refused memory is not a fault of a frame.
abbrev pub frame_fault : FrameError → SessionFault
frame_fault error.NoMemory = fault.Memory
frame_fault error.Length = fault.Frame error.Length
frame_fault error.Kind = fault.Frame error.Kind
frame_fault error.Read = fault.Frame error.Read
frame_fault error.Write = fault.Frame error.Write
frame_fault error.Turns = fault.Frame error.Turns

-- The number of what is wrong with a text.
abbrev pub text_number : IaError → ℕ
text_number ia.BadText = 1
text_number ia.TooLarge = 2

-- The number of what ends a session.
abbrev pub frame_number : FrameError → ℕ
frame_number error.NoMemory = 0
frame_number error.Length = 1
frame_number error.Kind = 2
frame_number error.Read = 3
frame_number error.Write = 4
frame_number error.Turns = 5

-- The words of a fault.
abbrev pub session_fault_text : SessionFault → List ℕ
session_fault_text (fault.Text e) = codes "text " ++ decimal (text_number e)
session_fault_text fault.Hex = codes "hex"
session_fault_text (fault.Frame e) = codes "frame " ++ decimal (frame_number e)
session_fault_text fault.Memory = codes "memory"
session_fault_text fault.Output = codes "output"
