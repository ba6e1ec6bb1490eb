-- A device over a file, as contracts see it.
use Rattle.std.specs.Prelude.{◌≡◌, ℕ, ◌+◌, ◌*◌, ◌/◌, ◌≤◌, List, [], length, take, drop, Any, Result, OnOk}
use Rattle.byte_lists.specs.Content.{overwrite}
use Rattle.byte_lists.specs.declared.format.TheConstants.{SECTOR}
use Rattle.sector_dev.specs.Disk.{Disk, Moment, moments}
use Rattle.sector_dev.specs.Image.{IsImage}
use Rattle.sector_dev.specs.Calls.{count_after}
use Rattle.sector_dev.specs.PositionedFile.{FileState, IsHonestFile, DirtiesOnly, FileGoesOn, IsWriteMoment, file_moment}
use Rattle.sector_dev.specs.declared.positioned_file.PositionedFile.{Ghosts}
use Rattle.sector_dev.specs.declared.file_device.FileDevice.{FileDevice}

-- The bytes of a file in its first sectors.
abbrev pub front : ℕ → List ℕ → List ℕ
front sectors bytes = take (SECTOR * sectors) bytes

-- A device is made over a file.
pub record IsMadeOver (file : FileState) (disk : Disk) : Type 0 where
  -- The device is honest where the file is.
  pub is_honest : disk.is_honest ≡ file.is_honest
  -- The device has the whole sectors of the file.
  pub sectors : IsHonestFile file → disk.sectors ≡ length file.bytes / SECTOR
  pub faults : disk.faults ≡ 0
  -- The device returns the bytes of the file, and has its dirty ranges.
  pub history : IsHonestFile file → disk.history ≡ record { past = []; now = record { reads = front disk.sectors file.bytes; dirty = file.dirty } }

-- Each content that a stop may leave of an honest file now is, in the device's sectors, an image of
-- the device now.
abbrev pub CoversImages : FileState → Disk → Type 0
CoversImages file disk = IsHonestFile file → (content : List ℕ) → IsImage (file_moment file) content → IsImage disk.history.now (front disk.sectors content)

-- Each content that a stop at a moment of a file may leave is, in the first sectors, an image of one
-- of these moments of a device.
abbrev pub IsCoveredBy : ℕ → List Moment → Moment → Type 0
IsCoveredBy sectors since moment = (content : List ℕ) → IsImage moment content → Any (λ (at : Moment). IsImage at (front sectors content)) since

-- Each later moment of an honest file in a call of the device, as between two transfers of a write,
-- is covered by the moments of the device from that before the call to that after it.
abbrev pub CoversCall : FileState → FileState → Disk → Disk → Type 0
CoversCall old_file new_file old new = IsHonestFile old_file → FileGoesOn old_file new_file (IsCoveredBy old.sectors (drop (length old.history.past) (moments new.history)))

-- What all transfers of one write leave.
pub record LandsWhole {T E : Type 0} (offset : ℕ) (bytes : List ℕ) (result : Result T E) (old new : List ℕ) : Type 0 where
  -- The bytes that landed, of the number that was given.
  pub landed : List ℕ
  pub size : length landed ≡ length bytes
  -- The given bytes landed where no transfer failed.
  pub done : OnOk result (landed ≡ bytes)
  -- Nothing else changed.
  pub is : new ≡ overwrite offset landed old

-- A write to a file, in any number of transfers.
pub record WritesWhole {T E : Type 0} (offset : ℕ) (bytes : List ℕ) (result : Result T E) (old new : FileState) : Type 0 where
  pub is_honest : new.is_honest ≡ old.is_honest
  -- The given bytes landed where no transfer failed.
  pub lands : IsHonestFile old → offset + length bytes ≤ length old.bytes → LandsWhole offset bytes result old.bytes new.bytes
  -- Only their range gets dirty.
  pub dirty : IsHonestFile old → DirtiesOnly offset (length bytes) old.dirty new.dirty
  -- Each later moment is one of the write.
  pub moments : IsHonestFile old → offset + length bytes ≤ length old.bytes → FileGoesOn old new (IsWriteMoment offset bytes old)

-- A call fails exactly where a call of its file fails: the file's count of failures grows by one.
-- The count is unchanged where no call fails.
abbrev pub FailsWithFile : {T E : Type 0} → Result T E → FileState → FileState → Type 0
FailsWithFile result old new = new.failures ≡ count_after result old.failures

-- The file of a device.
abbrev pub file_of : {F : Type 0} {G : Ghosts F} → FileDevice F G → F
file_of device = device.file

-- The file of a device, as contracts see it.
abbrev pub file_state : {F : Type 0} {G : Ghosts F} → FileDevice F G → FileState
file_state {F} {G} device = G.state device.file

-- The whole sectors of the file, with the past moments of the device.
abbrev pub file_disk : {F : Type 0} {G : Ghosts F} → FileDevice F G → Disk
file_disk {F} {G} device = record {
  is_honest = (G.state device.file).is_honest;
  sectors = device.sectors;
  faults = device.faults;
  history = record { past = device.trail.value.past; now = record { reads = front device.sectors (G.state device.file).bytes; dirty = device.trail.value.dirty } };
}
