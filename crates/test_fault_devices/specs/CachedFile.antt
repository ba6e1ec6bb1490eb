-- A file in memory that loses at a stop what was not synced, as contracts see it.
use Rattle.std.specs.Prelude.{ℕ, ◌-◌, min, true, List, length}
use Rattle.sector_dev.specs.PositionedFile.{FileState}
use Rattle.sector_dev.specs.declared.file_calls.FileStatus.{FileStatus}
use Rattle.test_fault_devices.specs.declared.cached_file.CachedFile.{CachedFile}

-- An honest file of these bytes, in which a stop may leave any bytes that were written since the
-- last sync.
abbrev pub cached_state : CachedFile → FileState
cached_state file = record { is_honest = true; bytes = file.bytes.items; dirty = file.trail.value.dirty; past = file.trail.value.past; failures = 0 }

-- The length and the number of names that its call returns: it counts as having one name.
abbrev pub cached_status : CachedFile → FileStatus
cached_status file = record { len = length file.bytes.items; links = 1 }

-- The bytes that a stop leaves.
abbrev pub kept_bytes : CachedFile → List ℕ
kept_bytes file = file.kept.items

-- The most bytes that one transfer moves.
abbrev pub cached_limit : CachedFile → ℕ
cached_limit file = file.at_most

-- The number of bytes that one transfer moves at an offset, where `asked` bytes are asked for.
abbrev pub cached_length : CachedFile → ℕ → ℕ → ℕ
cached_length file offset asked = min asked (min (length file.bytes.items - offset) file.at_most)
