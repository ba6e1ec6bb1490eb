-- The error of a journal for a record that is refused.
use Rattle.path_records.specs.declared.error.DbError.{DbError}
use Rattle.path_records.specs.declared.error.DbError.TheVariants.{NoMemory as RecordWantsMemory, BadRecord as RecordIsBad, Order}
use Rattle.gate_journal.specs.declared.error.JournalError.{JournalError}
use Rattle.gate_journal.specs.declared.error.JournalError.TheVariants.{NoMemory, BadRecord}

-- Refused memory stays refused memory, and all other errors are a bad record.
abbrev pub error_of_record : DbError → JournalError
error_of_record RecordWantsMemory = NoMemory
error_of_record RecordIsBad = BadRecord
error_of_record Order = BadRecord
