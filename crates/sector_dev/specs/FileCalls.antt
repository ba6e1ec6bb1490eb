-- The effect of one call on a file. The effect on an honest file is defined under that premise.
use Rattle.std.specs.Prelude.{◌≡◌, ◌⊎◌, ℕ, ◌+◌, ◌≤◌, List, [], length, Result, OnOk, OnErr}
use Rattle.sector_dev.specs.PositionedFile.{FileState, IsHonestFile, LandsTransfer, DirtiesOnly, file_moments}

-- A call is one step of a file: it adds one moment, or changes nothing.
abbrev pub IsOneStep : FileState → FileState → Type 0
IsOneStep old new = (new.past ≡ file_moments old) ⊎ (new ≡ old)

-- One write at an offset.
pub record LandsCall {E : Type 0} (offset : ℕ) (bytes : List ℕ) (result : Result ℕ E) (old new : FileState) : Type 0 where
  pub is_honest : new.is_honest ≡ old.is_honest
  -- The bytes that it moves are at the offset afterwards.
  pub lands : IsHonestFile old → offset + length bytes ≤ length old.bytes → LandsTransfer offset bytes result old.bytes new.bytes
  -- Only the range of the given bytes gets dirty.
  pub dirty : IsHonestFile old → DirtiesOnly offset (length bytes) old.dirty new.dirty
  -- No moment is left out.
  pub step : IsHonestFile old → IsOneStep old new

-- One sync.
pub record SyncsCall {T E : Type 0} (result : Result T E) (old new : FileState) : Type 0 where
  pub is_honest : new.is_honest ≡ old.is_honest
  pub bytes : IsHonestFile old → new.bytes ≡ old.bytes
  -- After a sync that succeeds, a stop leaves the bytes of an honest file unchanged.
  pub done : IsHonestFile old → OnOk result (new.dirty ≡ [])
  -- A sync that fails changes nothing.
  pub unchanged : IsHonestFile old → OnErr result (new.dirty ≡ old.dirty)
  -- No moment is left out.
  pub step : IsHonestFile old → IsOneStep old new
