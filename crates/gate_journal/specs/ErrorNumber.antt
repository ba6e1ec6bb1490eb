-- The numbers of the refusals of a journal.
use Rattle.std.specs.Prelude.{ℕ}
use Rattle.gate_journal.specs.declared.error.JournalError.{JournalError}
use Rattle.gate_journal.specs.declared.error.JournalError.TheVariants.{NoMemory, BadHeader, BadRecord, Gap, PastEnd}

-- The number of each refusal.
abbrev pub journal_error_number : JournalError → ℕ
journal_error_number NoMemory = 0
journal_error_number BadHeader = 1
journal_error_number BadRecord = 2
journal_error_number (Gap place) = 3
journal_error_number PastEnd = 4
