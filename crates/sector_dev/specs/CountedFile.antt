-- A file over its calls, with a count of its failures, as contracts see it.
use Rattle.std.specs.Prelude.{◌≡◌, ℕ, ◌≤◌}
use Rattle.sector_dev.specs.PositionedFile.{FileState}
use Rattle.std.specs.Arc.{arc_value}
use Rattle.sector_dev.specs.declared.counted_file.CountedFile.{CountedFile}
use Rattle.sector_dev.specs.declared.file_calls.FileStatus.{FileStatus}
use Rattle.sector_dev.specs.declared.last_fault.LastFault.{LastFault}

-- The file whose calls are counted.
abbrev pub calls_of : {F : Type 0} → CountedFile F → F
calls_of counted = counted.file

-- The count of failures.
abbrev pub failures_of : {F : Type 0} → CountedFile F → ℕ
failures_of counted = counted.failures

-- The length that the file had when it was opened, in bytes.
abbrev pub opened_len : {F : Type 0} → CountedFile F → ℕ
opened_len counted = counted.opened

-- The note of the last failure, which the file shares with those that ask for it.
abbrev pub last_fault_of : {F : Type 0} → CountedFile F → LastFault
last_fault_of counted = arc_value counted.last

-- The file as contracts see it, where they see the file of its calls by `state`: with the count of
-- failures.
abbrev pub counted_state : {F : Type 0} → (F → FileState) → CountedFile F → FileState
counted_state state counted = record (state counted.file) { failures = counted.failures }

-- A call for the file's status returned this length in bytes.
pub record ReturnedLen {F : Type 0} (returned_status : F → FileStatus → Type 0) (file : F) (len : ℕ) : Type 0 where
  pub status : FileStatus
  pub returned : returned_status file status
  pub is : len ≡ status.len

-- A file is at least as long as it was when it was opened, and has a name, by a call for its status.
pub record IsInPlace {F : Type 0} (returned_status : F → FileStatus → Type 0) (opened : ℕ) (file : F) : Type 0 where
  pub status : FileStatus
  pub returned : returned_status file status
  pub not_cut : opened ≤ status.len
  pub not_unlinked : 1 ≤ status.links
