-- A device that stops for good after some calls, as contracts see it.
use Rattle.std.specs.Prelude.{◌≡◌, ◌↔◌, ℕ, ◌-◌, ◌*◌, ◌<◌, List, length, Result, IsOk, if◌then◌else◌, ◌==◌}
use Rattle.byte_lists.specs.Content.{part}
use Rattle.byte_lists.specs.declared.format.TheConstants.{SECTOR}
use Rattle.sector_dev.specs.Disk.{Disk, History, after_write}
use Rattle.test_fault_devices.specs.declared.fuse_device.FuseDevice.{FuseDevice}
use Rattle.test_fault_devices.specs.declared.fuse_device.Tear.{Tear}
use Rattle.sector_dev.specs.declared.mem_device.MemDevice.{MemDevice}
use Rattle.sector_dev.specs.MemDevice.{memory_disk, torn_bytes}

-- The device in memory whose calls are passed on.
abbrev pub fuse_memory : FuseDevice → MemDevice
fuse_memory fuse = fuse.memory

-- The number of calls that still succeed.
abbrev pub calls_left : FuseDevice → ℕ
calls_left fuse = fuse.left

-- How the write at which the device stops is torn.
abbrev pub fuse_tear : FuseDevice → Tear
fuse_tear fuse = fuse.tear

-- The device in memory, with the count of calls that failed.
abbrev pub fuse_disk : FuseDevice → Disk
fuse_disk fuse = record (memory_disk fuse.memory) { faults = fuse.faults }

-- One call of a fuse: it succeeds as long as some calls are left.
pub record BurnsOne {T E : Type 0} (result : Result T E) (old new : FuseDevice) : Type 0 where
  pub passes : IsOk result ↔ (0 < calls_left old)
  pub left : calls_left new ≡ calls_left old - 1
  pub tear : fuse_tear new ≡ fuse_tear old

-- The history after a failed write: the write is torn where it is the first call that failed, and
-- else nothing lands.
abbrev pub after_stopped_write : FuseDevice → ℕ → List ℕ → History
after_stopped_write fuse sector bytes =
    let history = (fuse_disk fuse).history in
    let landed = if fuse.faults == 0 then torn_bytes fuse.tear.keep fuse.tear.fill bytes else part (SECTOR * sector) (length bytes) history.now.reads in
    after_write (SECTOR * sector) landed history
