-- A device of 512-byte sectors as contracts see it, and how its calls change it. Offsets and
-- lengths count bytes.
use Rattle.std.specs.Prelude.{◌≡◌, ℕ, ◌*◌, Bool, IsTrue, List, [], ◌∷◌, ◌++◌, length}
use Rattle.byte_lists.specs.Content.{AreBytes, overwrite}
use Rattle.byte_lists.specs.declared.format.TheConstants.{SECTOR}

-- A range of bytes.
pub record ByteRange : Type 0 where
  -- The offset of the first byte.
  pub start : ℕ
  -- The number of bytes.
  pub len : ℕ

-- A device at one moment.
pub record Moment : Type 0 where
  -- The bytes that reads return.
  pub reads : List ℕ
  -- The ranges written since the last sync that succeeded.
  pub dirty : List ByteRange

-- The moments until now. Each write, and each sync that succeeds, adds one.
pub record History : Type 0 where
  -- The moments before this one, the oldest first.
  pub past : List Moment
  -- The present moment.
  pub now : Moment

-- A device as contracts see it.
pub record Disk : Type 0 where
  -- Whether the device is honest, as `IsHonest` says.
  pub is_honest : Bool
  -- The size in sectors.
  pub sectors : ℕ
  -- The count of failed calls.
  pub faults : ℕ
  -- The moments until now.
  pub history : History

-- The device works as a device of sectors should, and nothing else writes to it.
abbrev pub IsHonest : Disk → Type 0
IsHonest disk = IsTrue disk.is_honest

-- The bytes that reads return now.
abbrev pub reads_of : Disk → List ℕ
reads_of disk = disk.history.now.reads

-- All moments, the present one last.
abbrev pub moments : History → List Moment
moments history = history.past ++ history.now ∷ []

-- The bytes that reads return fill the device's sectors of 512 bytes.
pub record IsWhole (disk : Disk) : Type 0 where
  pub size : length (reads_of disk) ≡ SECTOR * disk.sectors
  pub bytes : AreBytes (reads_of disk)

-- The history after a write that left these bytes at an offset.
abbrev pub after_write : ℕ → List ℕ → History → History
after_write at landed history = record {
  past = moments history;
  now = record {
    reads = overwrite at landed history.now.reads;
    dirty = record { start = at; len = length landed } ∷ history.now.dirty;
  };
}

-- The history after a sync that succeeded.
abbrev pub after_sync : History → History
after_sync history = record { past = moments history; now = record { reads = history.now.reads; dirty = [] } }
