-- A device in memory, as contracts see it.
use Rattle.std.specs.Prelude.{ℕ, ◌-◌, ◌*◌, true, List, [], ◌++◌, length, take, replicate}
use Rattle.byte_lists.specs.declared.format.TheConstants.{SECTOR}
use Rattle.sector_dev.specs.Disk.{Disk}
use Rattle.sector_dev.specs.declared.mem_device.MemDevice.{MemDevice}

-- An honest device whose calls never failed.
abbrev pub memory_disk : MemDevice → Disk
memory_disk device = record {
  is_honest = true;
  sectors = device.sectors;
  faults = 0;
  history = record { past = device.trail.value.past; now = record { reads = device.bytes.items; dirty = device.trail.value.dirty } };
}

-- An honest device of zeros, before any call.
abbrev pub zeroed_disk : ℕ → Disk
zeroed_disk sectors = record {
  is_honest = true;
  sectors = sectors;
  faults = 0;
  history = record { past = []; now = record { reads = replicate (SECTOR * sectors) 0; dirty = [] } };
}

-- The first bytes of a torn write land, and all others become one fill byte.
abbrev pub torn_bytes : ℕ → ℕ → List ℕ → List ℕ
torn_bytes keep fill bytes = take keep bytes ++ replicate (length bytes - keep) fill
