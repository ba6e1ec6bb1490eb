-- The effects of the calls of a file that is read and written at offsets. The effect on an honest
-- file is defined under that premise.
use Rattle.std.specs.Prelude.{◌≡◌, ℕ, ◌+◌, ◌≤◌, Bool, IsTrue, List, [], ◌∷◌, ◌++◌, All, length, take, Result, Ok, Err, IfOk, OnOk, OnErr, if◌then◌else◌, ◌==◌, ◌&&◌, nat_lt}
use Rattle.byte_lists.specs.Content.{part, overwrite}
use Rattle.sector_dev.specs.Disk.{ByteRange, Moment}
use Rattle.sector_dev.specs.Image.{IsClean}
use Rattle.sector_dev.specs.Calls.{count_after, one_more}

-- A file as contracts see it.
pub record FileState : Type 0 where
  -- Whether the file is honest, as `IsHonestFile` says.
  pub is_honest : Bool
  -- The bytes of the file.
  pub bytes : List ℕ
  -- The ranges written since the last sync that succeeded, in which a stop may leave any bytes.
  pub dirty : List ByteRange
  -- The moments before this one, the oldest first.
  pub past : List Moment
  -- The number of transfers and syncs that have failed.
  pub failures : ℕ

-- The file keeps the bytes that are written to it, and nothing else writes to it.
abbrev pub IsHonestFile : FileState → Type 0
IsHonestFile file = IsTrue file.is_honest

-- The file at this moment. The images of the moment are the contents that a stop now may leave.
abbrev pub file_moment : FileState → Moment
file_moment file = record { reads = file.bytes; dirty = file.dirty }

-- All moments of the file, the present one last.
abbrev pub file_moments : FileState → List Moment
file_moments file = file.past ++ file_moment file ∷ []

-- The moments of a file until a later state continue those until an earlier one, and each later
-- moment has P.
pub record FileGoesOn (old new : FileState) (P : Moment → Type 0) : Type 0 where
  -- The moments after that of the earlier state.
  pub later : List Moment
  pub goes_on : file_moments new ≡ file_moments old ++ later
  pub each : All P later

-- A call does not change the bytes of an honest file.
pub record LeavesFile (old new : FileState) : Type 0 where
  pub is_honest : new.is_honest ≡ old.is_honest
  pub bytes : IsHonestFile old → new.bytes ≡ old.bytes
  pub dirty : IsHonestFile old → new.dirty ≡ old.dirty
  pub past : IsHonestFile old → new.past ≡ old.past

-- The count of failures after a transfer of `asked` bytes: one more where it failed, or moved none
-- of them.
abbrev pub failures_after_transfer : {E : Type 0} → ℕ → Result ℕ E → ℕ → ℕ
failures_after_transfer asked (Ok moved) failures = if nat_lt 0 asked && moved == 0 then one_more failures else failures
failures_after_transfer asked (Err _) failures = one_more failures

-- What was clean is clean.
abbrev pub StaysClean : List ByteRange → List ByteRange → Type 0
StaysClean old new = (i : ℕ) → IsClean old i → IsClean new i

-- A moment of a sync: no byte has changed, and nothing has become dirty.
pub record IsSyncMoment (old : FileState) (moment : Moment) : Type 0 where
  pub reads : moment.reads ≡ old.bytes
  pub clean : StaysClean old.dirty moment.dirty

-- A sync of a file.
pub record SyncsFile {T E : Type 0} (result : Result T E) (old new : FileState) : Type 0 where
  pub is_honest : new.is_honest ≡ old.is_honest
  pub failures : new.failures ≡ count_after result old.failures
  pub bytes : IsHonestFile old → new.bytes ≡ old.bytes
  -- After a sync that succeeds, a stop leaves the bytes of an honest file unchanged.
  pub done : IsHonestFile old → OnOk result (new.dirty ≡ [])
  -- A sync that fails makes nothing dirty.
  pub clean : IsHonestFile old → OnErr result (StaysClean old.dirty new.dirty)
  -- Each later moment is one of the sync.
  pub moments : IsHonestFile old → FileGoesOn old new (IsSyncMoment old)

-- Nothing is dirty but what was dirty before, and the n bytes at an offset.
abbrev pub DirtiesOnly : ℕ → ℕ → List ByteRange → List ByteRange → Type 0
DirtiesOnly offset n old new = (i : ℕ) → IsClean old i → (offset ≤ i → offset + n ≤ i) → IsClean new i

-- Bytes that are clean in a device are clean in its file.
abbrev pub CoversDirty : List ByteRange → FileState → Type 0
CoversDirty dirty file = (i : ℕ) → IsClean dirty i → IsClean file.dirty i

-- One transfer out of a file.
pub record TransfersOut {E : Type 0} (offset : ℕ) (into : List ℕ) (result : Result ℕ E) (old new : FileState) : Type 0 where
  pub same : LeavesFile old new
  pub failures : new.failures ≡ failures_after_transfer (length into) result old.failures
  -- The transfer moves at most the bytes that are asked for.
  pub most : IfOk result (λ n. n ≤ length into)
  -- The bytes that it moves are those at the offset.
  pub bytes : IsHonestFile old → IfOk result (λ n. take n into ≡ part offset n old.bytes)

-- Some bytes landed at an offset, of the length of the given ones, and nothing else changed.
pub record LandsAny (offset : ℕ) (bytes old new : List ℕ) : Type 0 where
  pub landed : List ℕ
  pub size : length landed ≡ length bytes
  pub is : new ≡ overwrite offset landed old

-- A moment of a write of these bytes: any bytes may have landed in their range, and nothing else has
-- changed or become dirty.
pub record IsWriteMoment (offset : ℕ) (bytes : List ℕ) (old : FileState) (moment : Moment) : Type 0 where
  pub lands : LandsAny offset bytes old.bytes moment.reads
  pub dirty : DirtiesOnly offset (length bytes) old.dirty moment.dirty

-- The bytes of an honest file after a transfer into it. The bytes whose number it returns landed;
-- where it failed, any bytes may have landed.
abbrev pub LandsTransfer : {E : Type 0} → ℕ → List ℕ → Result ℕ E → List ℕ → List ℕ → Type 0
LandsTransfer offset bytes (Ok n) old new = new ≡ overwrite offset (take n bytes) old
LandsTransfer offset bytes (Err _) old new = LandsAny offset bytes old new

-- One transfer into a file.
pub record TransfersIn {E : Type 0} (offset : ℕ) (bytes : List ℕ) (result : Result ℕ E) (old new : FileState) : Type 0 where
  pub is_honest : new.is_honest ≡ old.is_honest
  pub failures : new.failures ≡ failures_after_transfer (length bytes) result old.failures
  -- The transfer moves at most the given bytes.
  pub most : IfOk result (λ n. n ≤ length bytes)
  -- The bytes that it moves are at the offset afterwards.
  pub lands : IsHonestFile old → offset + length bytes ≤ length old.bytes → LandsTransfer offset bytes result old.bytes new.bytes
  -- Only the range of the given bytes gets dirty.
  pub dirty : IsHonestFile old → DirtiesOnly offset (length bytes) old.dirty new.dirty
  -- Each later moment is one of the write.
  pub moments : IsHonestFile old → offset + length bytes ≤ length old.bytes → FileGoesOn old new (IsWriteMoment offset bytes old)
