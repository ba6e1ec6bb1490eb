-- Which call of the device a step makes. Reads are left out, since they do not change the device.
use Rattle.std.specs.Prelude.{◌≡◌, ℕ, ◌+◌, ◌*◌, List, ◌++◌, Result, Ok, Err}
use Rattle.byte_lists.specs.Content.{part}
use Rattle.sector_dev.specs.Disk.{Disk}
use Rattle.sector_dev.specs.Calls.{WriteCall, SyncCall}
use Rattle.store_layout.specs.Layout.{other, area_at, gate_at, journal_at}
use Rattle.gate_journal.specs.Commands.{command_format}
use Rattle.byte_lists.specs.Sectors.{open_gate, closed_gate}
use Rattle.byte_lists.specs.declared.format.TheConstants.{SECTOR}
use Rattle.group_phases.specs.Tail.{load_bytes}
use Rattle.group_phases.specs.CommitState.{load_of}
use Rattle.group_core.specs.declared.error.StepError.{StepError}
use Rattle.group_core.specs.declared.error.StepError.TheVariants.{Fault, Stopped, Stranger, NoMemory, Damaged}
use Rattle.group_core.specs.StateView.{StateView}
use Rattle.group_core.specs.Stops.{commit_state_of}
use Rattle.group_core.specs.Steps.{next_sectors}
use Rattle.group_core.specs.Following.{with_follower_in_flight}

-- A call that writes bytes from a sector on, or a call that syncs.
pub data DeviceCall : Type 0 where
  Write : (sector : ℕ) (bytes : List ℕ) → DeviceCall
  Sync : DeviceCall

-- This one call, with this result, made the new disk of the old one.
abbrev pub IsMade : {T E : Type 0} → DeviceCall → Result T E → Disk → Disk → Type 0
IsMade (Write sector bytes) result old new = WriteCall sector bytes result old new
IsMade Sync result old new = SyncCall result old new

-- A step makes this call and no other. Where the device decides, the call has the step's result. A
-- step that is refused before that makes no call. A step that is `Damaged` made the call, which
-- succeeded.
abbrev pub StepCall : {P N : Type 0} → DeviceCall → Result N (StepError P) → Disk → Disk → Type 0
StepCall {P} {N} call (Ok next) old new = IsMade {T = N} {E = StepError P} call (Ok next) old new
StepCall {P} {N} call (Err Fault) old new = IsMade {T = N} {E = StepError P} call (Err Fault) old new
StepCall call (Err (Stranger back)) old new = new ≡ old
StepCall call (Err Stopped) old new = new ≡ old
StepCall call (Err (NoMemory back)) old new = ⊥
StepCall {P} {N} call (Err Damaged) old new = IsMade {T = Unit {0}} {E = StepError P} call (Ok tt) old new

-- The write of what is in flight, after the tail's gate.
abbrev pub load_write : StateView → DeviceCall
load_write view = Write (journal_at view.geometry view.half + (view.gate + 1)) (load_bytes command_format view.value.place (load_of (commit_state_of view)))

-- The write of the following group: what is written of it when it is in flight.
abbrev pub follower_write : StateView → DeviceCall
follower_write view = load_write (with_follower_in_flight view)

-- The write of the tail's gate, open.
abbrev pub gate_write : StateView → DeviceCall
gate_write view = Write (journal_at view.geometry view.half + view.gate) open_gate

-- The write of the next sectors of the new checkpoint, in the area of its half.
abbrev pub chunk_write : StateView → DeviceCall
chunk_write view = Write (area_at view.geometry view.half + view.written) (part (SECTOR * view.written) (SECTOR * next_sectors view) view.checkpoint)

-- The write of that half's gate, open.
abbrev pub half_write : StateView → DeviceCall
half_write view = Write (gate_at view.geometry view.half) open_gate

-- The write of the other half's gate and of the first gate of its journal, which follows it, both
-- closed.
abbrev pub close_write : StateView → DeviceCall
close_write view = Write (gate_at view.geometry (other view.half)) (closed_gate ++ closed_gate)
