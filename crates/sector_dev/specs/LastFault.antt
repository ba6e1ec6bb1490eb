-- The numbers of the kinds of failures, as they are kept for other threads.
use Rattle.std.specs.Prelude.{ℕ}
use Rattle.sector_dev.specs.declared.last_fault.FaultKind.{FaultKind}
use Rattle.sector_dev.specs.declared.last_fault.FaultKind.TheVariants.{Read, Write, Sync, Status, Cut, Unlinked}

-- The number of a kind.
abbrev pub fault_number : FaultKind → ℕ
fault_number Read = 1
fault_number Write = 2
fault_number Sync = 3
fault_number Status = 4
fault_number Cut = 5
fault_number Unlinked = 6
