-- Folding a sealed half.
use Rattle.std.specs.Prelude.{◌≡◌, ◌⊎◌, ℕ, ◌+◌, ◌-◌, ◌*◌, ◌^◌, ◌<◌, ◌≤◌, false, length}
use Rattle.byte_lists.specs.declared.format.TheConstants.{SECTOR}
use Rattle.store_layout.specs.Limits.{latest}
use Rattle.group_phases.specs.declared.phases.Check.TheVariants.{Ready, Sealed}
use Rattle.group_core.specs.StateView.{StateView}
use Rattle.group_core.specs.Steps.{spent}
use Rattle.once_store.specs.Resting.{IsSteady}

-- The new checkpoint's bytes are whole sectors, and no more are written than there are.
pub record HasWholeSectors (view : StateView) : Type 0 where
  pub sectors : ℕ
  pub whole : length view.checkpoint ≡ SECTOR * sectors
  pub written : view.written ≤ sectors

-- The new half counts, and the other one is ready.
pub record IsFoldedFrom (old new : StateView) : Type 0 where
  pub state : new ≡ record old { disk = new.disk; check = Ready; plan = spent old.plan; epoch = old.epoch + 1; version = latest }

-- The checkpoint of a sealed half was made.
pub record IsFolded (old new : StateView) : Type 0 where
  -- No plan is out.
  pub plan : new.plan.out ≡ false
  -- The new half counts, with the next epoch and the latest version, and the other one is ready.
  pub state : new ≡ record old {
    disk = new.disk;
    check = Ready;
    plan = new.plan;
    epoch = old.epoch + 1;
    version = latest;
    checkpoint = new.checkpoint;
    written = new.written;
    unprepared = new.unprepared;
  }

-- A checkpoint may be made: no plan is out, and either no journal is sealed, or one is and an epoch
-- is left.
pub record MayFold (view : StateView) : Type 0 where
  -- The state goes on.
  pub going : view.stopped ≡ false
  -- No plan is out.
  pub free : view.plan.out ≡ false
  -- The other half is ready, or a sealed half awaits its checkpoint.
  pub check : (view.check ≡ Ready) ⊎ (view.check ≡ Sealed)
  -- An epoch is left for the checkpoint of a sealed half.
  pub epoch : view.check ≡ Sealed → view.epoch < 2 ^ 64 - 1

-- No journal was sealed and nothing has changed, or a journal was sealed and its checkpoint was
-- made.
abbrev pub IsReadyOrFolded : StateView → StateView → Type 0
IsReadyOrFolded old new = ((old.check ≡ Ready) × (new ≡ old)) ⊎ ((old.check ≡ Sealed) × IsFolded old new)

-- No journal is sealed any more. Where one was, its checkpoint was made.
pub record IsRoomMade (old new : StateView) : Type 0 where
  -- The state is steady.
  pub steady : IsSteady new
  -- The other half is ready for the next seal.
  pub ready : new.check ≡ Ready
  -- Nothing has changed but what a checkpoint changes.
  pub state : new ≡ record old {
    disk = new.disk;
    check = Ready;
    plan = new.plan;
    epoch = new.epoch;
    version = new.version;
    checkpoint = new.checkpoint;
    written = new.written;
    unprepared = new.unprepared;
  }

-- The device was read, and what was prepared may be dropped. Nothing else has changed.
pub record OnlyDeviceWasRead (old new : StateView) : Type 0 where
  pub steady : IsSteady new
  pub state : new ≡ record old { disk = new.disk; unprepared = new.unprepared }
