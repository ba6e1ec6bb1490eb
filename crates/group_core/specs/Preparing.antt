-- What is prepared of a checkpoint before it is begun: what was read of the sealed half so far.
use Rattle.std.specs.Prelude.{◌≡◌, List}
use Rattle.row_map.specs.Database.{RowView}
use Rattle.path_db.specs.declared.command.Command.{Command}
use Rattle.store_layout.specs.Layout.{Geometry}
use Rattle.ckpt_stream.specs.Preparation.{SealedContents, PreparationView, IsPreparedFrom}
use Rattle.group_phases.specs.declared.phases.Check.{Check}
use Rattle.group_phases.specs.declared.phases.Check.TheVariants.{Sealed}
use Rattle.group_phases.specs.CommitState.{DeviceContents}

-- What the sealed half has, by the contents of the device.
abbrev pub sealed_contents : DeviceContents (List RowView) Command → SealedContents
sealed_contents behind = record { checkpoint = behind.old; groups = behind.old_groups; gate = behind.old_gate }

-- What is prepared is of the half that awaits its checkpoint. Where none does, it is of any half,
-- since nothing is read yet.
abbrev pub IsPreparedOf : Check → Geometry → DeviceContents (List RowView) Command → PreparationView → Type 0
IsPreparedOf check geometry behind preparation =
    (contents : SealedContents) → (check ≡ Sealed → contents ≡ sealed_contents behind) → IsPreparedFrom geometry contents preparation
