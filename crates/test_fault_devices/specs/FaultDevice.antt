-- A device of which one call fails, as contracts see it.
use Rattle.std.specs.Prelude.{◌≡◌, ◌↔◌, ℕ, zero, suc, Option, Some, None, Result, IsErr}
use Rattle.sector_dev.specs.Disk.{Disk}
use Rattle.test_fault_devices.specs.declared.fault_device.FaultDevice.{FaultDevice}
use Rattle.sector_dev.specs.declared.mem_device.MemDevice.{MemDevice}
use Rattle.sector_dev.specs.MemDevice.{memory_disk}

-- The device in memory whose calls are passed on.
abbrev pub fault_memory : FaultDevice → MemDevice
fault_memory device = device.memory

-- The number of calls that succeed before the one that fails; `None` once it has failed.
abbrev pub calls_before_fault : FaultDevice → Option ℕ
calls_before_fault device = device.before

abbrev fault_count : Option ℕ → ℕ
fault_count (Some _) = 0
fault_count None = 1

-- The device in memory, with a count of one failure once the call has failed.
abbrev pub fault_disk : FaultDevice → Disk
fault_disk device = record (memory_disk device.memory) { faults = fault_count device.before }

-- The number of calls before the failure, after one more call.
abbrev pub one_call_less : Option ℕ → Option ℕ
one_call_less (Some (suc n)) = Some n
one_call_less (Some zero) = None
one_call_less None = None

-- One call counts down: it fails exactly where no call was left before the failure.
pub record CountsDown {T E : Type 0} (result : Result T E) (old new : FaultDevice) : Type 0 where
  pub fails : IsErr result ↔ (calls_before_fault old ≡ Some 0)
  pub left : calls_before_fault new ≡ one_call_less (calls_before_fault old)
