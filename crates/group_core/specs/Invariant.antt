-- The invariant of every state.
use Rattle.std.specs.Prelude.{◌≡◌, ◌≢◌, ℕ, ◌+◌, ◌*◌, ◌^◌, ◌<◌, ◌≤◌, ◌⊎◌, true, false, List, [], length, take, drop, Option}
use Rattle.std.specs.List.{AllByRecursion}
use Rattle.byte_lists.specs.declared.format.TheConstants.{SECTOR}
use Rattle.row_map.specs.Database.{RowView}
use Rattle.path_db.specs.declared.command.Command.{Command}
use Rattle.path_records.specs.CommandRecord.{IsWithinLimits}
use Rattle.sector_dev.specs.Disk.{IsHonest}
use Rattle.sector_dev.specs.Image.{EveryImage}
use Rattle.store_layout.specs.declared.format.TheConstants.{BEFORE_ROWS}
use Rattle.store_layout.specs.Limits.{Limits, limits_of, latest}
use Rattle.store_layout.specs.CommandFormat.{IsAllowed}
use Rattle.store_layout.specs.Group.{last_place, group_sectors, JournalHasRoom, CanBeGroup}
use Rattle.store_layout.specs.Journal.{gate_behind}
use Rattle.store_layout.specs.Layout.{Geometry, IsGeometry, image_sectors}
use Rattle.store_layout.specs.StoreFormat.{db_after}
use Rattle.store_layout.specs.Checkpoint.{Checkpoint, checkpoint_encoding, checkpoint_size}
use Rattle.gate_journal.specs.Commands.{command_format}
use Rattle.ckpt_pair.specs.Rows.{rows_format}
use Rattle.store_open.specs.PathStores.{store_format}
use Rattle.group_phases.specs.declared.phases.Flush.{Flush}
use Rattle.group_phases.specs.declared.phases.Flush.TheVariants.{Resting, Following, Followed, DurableFollowed}
use Rattle.group_phases.specs.declared.phases.Check.{Check}
use Rattle.group_phases.specs.declared.phases.Check.TheVariants.{Ready, Sealed, Planned, Laid, Switched, SwitchFailed}
use Rattle.group_phases.specs.Tail.{GroupOrSeal, Commands, Seal, load_bytes}
use Rattle.group_phases.specs.CommitState.{load_of, DeviceContents, IsHeldBy}
use Rattle.group_core.specs.StateView.{StateView}
use Rattle.group_core.specs.Stops.{config_of, commit_state_of, MayOpen}
use Rattle.ckpt_stream.specs.Merge.{MergeView, encoding_if_any}
use Rattle.ckpt_stream.specs.Preparation.{PreparationView}
use Rattle.group_core.specs.Keeping.{KeepsOutcomes}
use Rattle.group_core.specs.Merging.{HasMerge, IsUnderWay, Streams}
use Rattle.group_core.specs.Preparing.{IsPreparedOf}
use Rattle.group_core.specs.Showing.{IsFrontOf}
use Rattle.group_core.specs.Ending.{IsDurableAt}

-- The fields of a state that no clause sees.
pub record PrivateState : Type 0 where
  -- The bytes to write of what is in flight.
  pub staged : List ℕ
  -- The bytes to write of the following group.
  pub staged_next : List ℕ
  -- The rows after all commands that are accepted.
  pub tip : List RowView
  -- The place of the first command that is pending.
  pub place : ℕ
  -- What the showcase already has of the group that it shows next.
  pub owed : List Command
  -- The last checkpoint that was begun.
  pub merge : Option MergeView
  -- What is prepared of the next checkpoint.
  pub preparation : PreparationView

-- What is in flight may be after the tail's gate.
abbrev pub FitsLoad : Limits → Geometry → ℕ → ℕ → GroupOrSeal Command → Type 0
FitsLoad limits geometry place gate (Commands commands) =
    CanBeGroup command_format limits place commands × JournalHasRoom gate (group_sectors command_format commands) geometry.journal
FitsLoad limits geometry place gate Seal = Unit {0}

-- The `following` commands after the first `taken` pending ones may be a group after the group in
-- flight, and the bytes to write of it are made.
pub record HasFollowerBytes (limits : Limits) (geometry : Geometry) (place gate : ℕ) (pending : List Command) (taken following : ℕ) (bytes : List ℕ) : Type 0 where
  -- A group is in flight, and not a seal.
  pub some : 1 ≤ taken
  -- At least one command follows.
  pub many : 1 ≤ following
  -- No more commands are in flight and follow than are pending.
  pub inside : taken + following ≤ length pending
  -- The following group may be after the gate that ends the group in flight.
  pub load : FitsLoad limits geometry (place + length (take taken pending)) (gate_behind command_format gate (take taken pending))
      (Commands (take following (drop taken pending)))
  -- The bytes to write of the following group are made.
  pub made : bytes ≡ load_bytes command_format (place + length (take taken pending)) (Commands (take following (drop taken pending)))

-- The following group's bytes are made in the phases that have one.
abbrev pub IsFollowerMade : Flush → Limits → Geometry → ℕ → ℕ → List Command → ℕ → ℕ → List ℕ → Type 0
IsFollowerMade Following limits geometry place gate pending taken following bytes = HasFollowerBytes limits geometry place gate pending taken following bytes
IsFollowerMade Followed limits geometry place gate pending taken following bytes = HasFollowerBytes limits geometry place gate pending taken following bytes
IsFollowerMade DurableFollowed limits geometry place gate pending taken following bytes = HasFollowerBytes limits geometry place gate pending taken following bytes
IsFollowerMade _ limits geometry place gate pending taken following bytes = Unit {0}

-- A command that was accepted is within its limits, and allowed by the state's version.
pub record MayBePending (version : ℕ) (command : Command) : Type 0 where
  pub within : IsWithinLimits command
  pub allowed : IsAllowed command_format (limits_of version) command

-- The rows have room in a checkpoint area.
abbrev pub FitArea : StateView → List RowView → Type 0
FitArea view rows = BEFORE_ROWS + length (rows_format.encoding rows) ≤ SECTOR * view.geometry.checkpoint

-- Whatever front of the accepted commands is committed next, its rows have room.
abbrev pub EveryFrontFits : StateView → Type 0
EveryFrontFits view = (n : ℕ) → n ≤ length view.pending → FitArea view (db_after store_format view.value.db (take n view.pending))

-- The writing of the new checkpoint.
pub record Checkpointing : Type 0 where
  -- The bytes of the new checkpoint.
  pub bytes : List ℕ
  -- The number of its sectors that are written.
  pub written : ℕ

-- The writing of a state's checkpoint.
abbrev pub checkpointing_of : StateView → Checkpointing
checkpointing_of view = record { bytes = view.checkpoint; written = view.written }

-- The bytes of a checkpoint are whole sectors, no more than the area has, and no more are written
-- than there are.
pub record HasPlan (geometry : Geometry) (plan : Checkpointing) : Type 0 where
  pub sectors : ℕ
  pub whole : length plan.bytes ≡ SECTOR * sectors
  pub inside : sectors ≤ geometry.checkpoint
  pub written : plan.written ≤ sectors

-- Until the new half counts, there is an epoch for it.
abbrev pub HasNextEpoch : Check → ℕ → Type 0
HasNextEpoch Planned epoch = epoch + 1 < 2 ^ 64
HasNextEpoch Laid epoch = epoch + 1 < 2 ^ 64
HasNextEpoch Switched epoch = epoch + 1 < 2 ^ 64
HasNextEpoch _ epoch = Unit {0}

-- What holds whatever the device does.
pub record StateInvariant (view : StateView) (hidden : PrivateState) : Type 0 where
  -- The sizes are those of a store.
  pub limits : IsGeometry view.geometry
  -- The store is within the device.
  pub sectors : image_sectors view.geometry ≤ view.disk.sectors
  -- The tail's journal has room for a gate and a seal.
  pub room : view.gate + 2 ≤ view.geometry.journal
  -- The state's own place is that of its value.
  pub place : hidden.place ≡ view.value.place
  -- The pending commands have places.
  pub last : view.value.place + length view.pending ≤ last_place
  -- At most 256 commands are pending.
  pub few : length view.pending ≤ 256
  -- Each pending command is within its limits, and allowed by the state's version.
  pub commands : AllByRecursion (MayBePending view.version) view.pending
  -- The state's own rows are those after all pending commands.
  pub tip : hidden.tip ≡ db_after store_format view.value.db view.pending
  -- The outcomes that are kept are those of their commands.
  pub outcomes : KeepsOutcomes view.value view.pending view.kept
  -- While the state goes on, every front fits the area.
  pub fits : view.stopped ≡ false → EveryFrontFits view
  -- The version is a known one.
  pub known : view.version ≤ latest
  -- No more commands are in flight than are pending.
  pub taken : view.taken ≤ length view.pending
  -- What the showcase has is a front of what is in flight.
  pub owed : IsFrontOf hidden.owed (take view.taken view.pending)
  -- It has something of it only where that is durable.
  pub paid : hidden.owed ≡ [] ⊎ IsDurableAt view.flush
  -- No command is in flight while the flusher rests.
  pub rests : view.flush ≡ Resting → view.taken ≡ 0
  -- What is in flight may be after the tail's gate.
  pub load : FitsLoad (limits_of view.version) view.geometry view.value.place view.gate (load_of (commit_state_of view))
  -- The bytes of what is in flight are made.
  pub staged : view.flush ≢ Resting → hidden.staged ≡ load_bytes command_format view.value.place (load_of (commit_state_of view))
  -- The bytes to write of the following group are made, where a group follows.
  pub follower : IsFollowerMade view.flush (limits_of view.version) view.geometry view.value.place view.gate view.pending view.taken view.following hidden.staged_next
  -- The new checkpoint is within its area.
  pub plan : HasPlan view.geometry (checkpointing_of view)
  -- Until the new half counts, there is an epoch for it.
  pub epoch : HasNextEpoch view.check view.epoch
  -- The state's bytes of the new checkpoint are those of the merge.
  pub bytes : view.checkpoint ≡ encoding_if_any hidden.merge
  -- While the state goes on, a planned checkpoint has a merge under way.
  pub merge : view.stopped ≡ false → view.check ≡ Planned → HasMerge (IsUnderWay view.geometry view.written) hidden.merge

-- The checkpoint still to be written is of the next epoch, in the version that is written.
pub record IsNextCheckpoint (epoch : ℕ) (before next : Checkpoint (List RowView)) : Type 0 where
  pub old : before.head.epoch ≡ epoch
  pub new : next.head.epoch ≡ epoch + 1
  pub version : next.head.version ≡ latest

-- Which half counts in each phase, by its epoch, and what the new checkpoint's bytes are. `before`
-- is the other half's checkpoint, and `next` that of the half with the tail, written or still to be
-- written.
abbrev pub CountsAt : Check → ℕ → List ℕ → Checkpoint (List RowView) → Checkpoint (List RowView) → Type 0
CountsAt Sealed epoch bytes before next = before.head.epoch ≡ epoch
CountsAt Planned epoch bytes before next = IsNextCheckpoint epoch before next × (bytes ≡ checkpoint_encoding rows_format next)
CountsAt Laid epoch bytes before next = IsNextCheckpoint epoch before next
CountsAt Switched epoch bytes before next = IsNextCheckpoint epoch before next
CountsAt SwitchFailed epoch bytes before next = IsNextCheckpoint epoch before next
CountsAt _ epoch bytes before next = next.head.epoch ≡ epoch

-- What holds over an honest device.
pub record DeviceInvariant (view : StateView) : Type 0 where
  -- The contents of the device.
  pub behind : DeviceContents (List RowView) Command
  -- The device holds what the state represents, for these contents.
  pub held : IsHeldBy (config_of view) (commit_state_of view) behind view.disk.history.now
  -- The epochs, and the bytes of the new checkpoint, are those of the phase.
  pub counts : CountsAt view.check view.epoch view.checkpoint behind.old behind.new
  -- While the state goes on, the fold up to a seal fits the area.
  pub fits : view.stopped ≡ false → checkpoint_size rows_format behind.new ≤ SECTOR * view.geometry.checkpoint

-- What holds over an honest device, with the checkpoint that is made while it is written, and with
-- what is prepared of the next one.
pub record DeviceInvariantWith (view : StateView) (merge : Option MergeView) (preparation : PreparationView) : Type 0 where
  -- What holds without these two.
  pub sound : DeviceInvariant view
  -- While the state goes on, what is not yet made of the checkpoint is what is not yet written of
  -- it.
  pub streams : view.stopped ≡ false → view.check ≡ Planned → HasMerge (Streams sound.behind.old.db view.written) merge
  -- While the state goes on, what is prepared is of the sealed half.
  pub prepared : view.stopped ≡ false → IsPreparedOf view.check view.geometry sound.behind preparation

-- What holds instead over the device of a store whose checkpoint had failed: the state has stopped
-- before anything began, and every image opens to what the state shows.
pub record IsBroken (view : StateView) : Type 0 where
  pub stopped : view.stopped ≡ true
  pub rests : view.flush ≡ Resting
  pub ready : view.check ≡ Ready
  pub images : EveryImage view.disk.history.now (MayOpen view)

-- The invariant of a state: `shape` holds whatever the device does, and `sound` over an honest
-- device.
pub record IsState (view : StateView) (hidden : PrivateState) : Type 0 where
  pub shape : StateInvariant view hidden
  pub sound : IsHonest view.disk → DeviceInvariantWith view hidden.merge hidden.preparation ⊎ IsBroken view
