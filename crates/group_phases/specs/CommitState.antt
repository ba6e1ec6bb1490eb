-- What a store's device holds while both actors work, and what a stop leaves of it.
use Rattle.std.specs.Prelude.{◌≡◌, ◌⊎◌, ℕ, zero, suc, ◌≤◌, Bool, true, false, List, length, take}
use Rattle.sector_dev.specs.Disk.{Moment}
use Rattle.store_layout.specs.declared.half.Half.{Half}
use Rattle.store_layout.specs.Limits.{limits_of}
use Rattle.store_layout.specs.Journal.{all_of}
use Rattle.store_layout.specs.StoreFormat.{db_after}
use Rattle.store_layout.specs.Checkpoint.{Checkpoint}
use Rattle.store_layout.specs.Opening.{StoreValue, OpensTo}
use Rattle.store_layout.specs.StoreValues.{value_after}
use Rattle.group_phases.specs.declared.phases.Flush.{Flush}
use Rattle.group_phases.specs.declared.phases.Flush.TheVariants.{Resting, Staged, Written, Stable, Opened, Doubtful, Durable, Following, Followed, DurableFollowed}
use Rattle.group_phases.specs.declared.phases.Check.{Check}
use Rattle.group_phases.specs.StoreConfig.{StoreConfig, HasTitle}
use Rattle.group_phases.specs.Tail.{GroupOrSeal, Commands, Seal, Tail, tail_place}
use Rattle.group_phases.specs.FlusherPart.{FlusherPart}
use Rattle.group_phases.specs.FollowerPart.{IsFollowed}
use Rattle.group_phases.specs.BasePart.{CheckpointPair, BasePart, MayBeSealed}

-- The fields of a state that count for its device.
pub record CommitState (Db C : Type 0) : Type 0 where
  -- What is committed.
  pub value : StoreValue Db
  -- The commands that are pending after what is committed.
  pub pending : List C
  -- The number of the first pending commands that are in flight: 0 where a seal is in flight, or
  -- nothing.
  pub taken : ℕ
  -- The number of the pending commands after those taken that follow them as the next group. It
  -- counts only in the phases that have a following group.
  pub following : ℕ
  -- The phase of the flusher.
  pub flush : Flush
  -- The phase of the checkpointer.
  pub check : Check
  -- The half that has the tail.
  pub half : Half
  -- The tail's gate, in sectors from the start of that half's journal.
  pub gate : ℕ
  -- The version under whose limits the tail is written.
  pub version : ℕ
  -- The number of sectors of the new checkpoint that are written.
  pub written : ℕ

-- What is in flight, by the number of commands that are taken: a seal where none is.
abbrev pub load_by : {C : Type 0} → ℕ → List C → GroupOrSeal C
load_by zero pending = Seal
load_by (suc n) pending = Commands (take (suc n) pending)

-- What is in flight for a state.
abbrev pub load_of : {Db C : Type 0} → CommitState Db C → GroupOrSeal C
load_of state = load_by state.taken state.pending

-- What is in flight is a seal.
abbrev pub is_seal : {C : Type 0} → GroupOrSeal C → Bool
is_seal (Commands commands) = false
is_seal Seal = true

-- A seal is in flight in this phase.
abbrev pub seals : {C : Type 0} → Flush → GroupOrSeal C → Bool
seals Resting load = false
seals Staged load = is_seal load
seals Written load = is_seal load
seals Stable load = is_seal load
seals Opened load = is_seal load
seals Doubtful load = is_seal load
seals Durable load = is_seal load
seals Following load = is_seal load
seals Followed load = is_seal load
seals DurableFollowed load = is_seal load

-- What is on the device for a state, and in no field of the state.
pub record DeviceContents (Db C : Type 0) : Type 0 where
  -- The groups of the tail's journal.
  pub groups : List (List C)
  -- The checkpoint of the half that has the tail, written or still to be written.
  pub new : Checkpoint Db
  -- The checkpoint of the other half.
  pub old : Checkpoint Db
  -- The groups of the other half's journal.
  pub old_groups : List (List C)
  -- The gate of the seal that ends that journal, in sectors from its start.
  pub old_gate : ℕ

-- The tail, by the state and what is on the device.
abbrev pub tail_of : {Db C : Type 0} → CommitState Db C → DeviceContents Db C → Tail C
tail_of state behind =
    record { half = state.half; start = behind.new.head.place; groups = behind.groups; gate = state.gate }

-- The checkpoints of both halves, by the state and what is on the device.
abbrev pub checkpoint_pair_of : {Db C : Type 0} → CommitState Db C → DeviceContents Db C → CheckpointPair Db C
checkpoint_pair_of state behind = record {
  half = state.half;
  version = state.version;
  new = behind.new;
  old = behind.old;
  groups = behind.old_groups;
  gate = behind.old_gate;
}

-- The device holds what such a state represents, for these contents.
pub record IsHeldBy {Db C : Type 0} (config : StoreConfig Db C) (state : CommitState Db C) (behind : DeviceContents Db C) (moment : Moment) : Type 0 where
  -- Sector 0 names the sizes, and its title is clean.
  pub title : HasTitle config.geometry moment
  -- No more commands are in flight than are pending.
  pub taken : state.taken ≤ length state.pending
  -- The tail's journal ends at the place that is committed.
  pub place : tail_place (tail_of state behind) ≡ state.value.place
  -- The tail's commands on the new checkpoint's rows are the committed rows.
  pub db : db_after config.format behind.new.db (all_of behind.groups) ≡ state.value.db
  -- The flusher's part holds.
  pub flusher : FlusherPart state.flush config.format.commands (limits_of state.version) config.geometry (tail_of state behind)
      (load_of state) moment
  -- The checkpointer's part holds.
  pub base : BasePart state.check config (checkpoint_pair_of state behind) state.written moment
  -- A seal is in flight only where the other half is ready.
  pub seal : MayBeSealed state.check (seals state.flush (load_of state))
  -- The following group's part holds, where a group follows.
  pub follower : IsFollowed state.flush config.format.commands (limits_of state.version) config.geometry (tail_of state behind)
      state.pending state.taken state.following moment

-- The device holds what such a state represents, for some contents.
pub record IsHeld {Db C : Type 0} (config : StoreConfig Db C) (state : CommitState Db C) (moment : Moment) : Type 0 where
  pub behind : DeviceContents Db C
  pub by : IsHeldBy config state behind moment

-- How many commands of those in flight a stop keeps: none until the gate is written, then none or
-- all, and all once the gate is synced.
abbrev pub MayKeep : Flush → ℕ → ℕ → Type 0
MayKeep Resting taken kept = kept ≡ 0
MayKeep Staged taken kept = kept ≡ 0
MayKeep Written taken kept = kept ≡ 0
MayKeep Stable taken kept = kept ≡ 0
MayKeep Opened taken kept = (kept ≡ 0) ⊎ (kept ≡ taken)
MayKeep Doubtful taken kept = (kept ≡ 0) ⊎ (kept ≡ taken)
MayKeep Durable taken kept = kept ≡ taken
MayKeep Following taken kept = (kept ≡ 0) ⊎ (kept ≡ taken)
MayKeep Followed taken kept = (kept ≡ 0) ⊎ (kept ≡ taken)
MayKeep DurableFollowed taken kept = kept ≡ taken

-- The image opens to this value, by a half of this version or a later one.
pub record OpensSince {Db C : Type 0} (config : StoreConfig Db C) (version : ℕ) (image : List ℕ) (value : StoreValue Db) : Type 0 where
  pub opens : OpensTo config.format config.latest image value
  pub since : version ≤ opens.opening.checkpoint.head.version

-- The image opens to what is committed, with some of the pending commands.
pub record OpensToFront {Db C : Type 0} (config : StoreConfig Db C) (state : CommitState Db C) (image : List ℕ) : Type 0 where
  -- The number of the first pending commands that the image has.
  pub kept : ℕ
  -- A stop in the flusher's phase may keep that number.
  pub may : MayKeep state.flush state.taken kept
  -- The number is at most that of the pending commands.
  pub inside : kept ≤ length state.pending
  -- The half that is chosen has a version that allows what the tail's limits do.
  pub opens : OpensSince config state.version image (value_after config.format state.value (take kept state.pending))
