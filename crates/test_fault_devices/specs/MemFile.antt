-- A file in memory, as contracts see it.
use Rattle.std.specs.Prelude.{ℕ, ◌-◌, min, true, [], length}
use Rattle.sector_dev.specs.PositionedFile.{FileState}
use Rattle.sector_dev.specs.declared.file_calls.FileStatus.{FileStatus}
use Rattle.test_fault_devices.specs.declared.mem_file.MemFile.{MemFile}

-- An honest file of these bytes, whose writes are never lost.
abbrev pub memory_state : MemFile → FileState
memory_state file = record { is_honest = true; bytes = file.bytes.items; dirty = []; past = file.trail.value.past; failures = 0 }

-- The length and the number of names that its call returns: a file in memory counts as having one
-- name.
abbrev pub memory_status : MemFile → FileStatus
memory_status file = record { len = length file.bytes.items; links = 1 }

-- The most bytes that one transfer moves.
abbrev pub transfer_limit : MemFile → ℕ
transfer_limit file = file.at_most

-- The number of bytes that one transfer moves at an offset, where `asked` bytes are asked for.
abbrev pub transfer_length : MemFile → ℕ → ℕ → ℕ
transfer_length file offset asked = min asked (min (length file.bytes.items - offset) file.at_most)
