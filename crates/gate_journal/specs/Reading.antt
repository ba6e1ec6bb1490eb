-- How a journal is read: first the first sector of a payload, and then all sectors of a group's.
use Rattle.std.specs.Prelude.{◌≡◌, ◌⊎◌, ℕ, ◌+◌, ◌-◌, ◌*◌, ◌≤◌, true, List, ◌++◌, length, Option, Some, None, IsSome, Result, Ok, Err, nat_le, ◌==◌, if◌then◌else◌}
use Rattle.byte_lists.specs.Content.{part}
use Rattle.byte_lists.specs.declared.format.TheConstants.{SECTOR}
use Rattle.path_db.specs.declared.command.Command.{Command}
use Rattle.path_records.specs.CommandRecord.{CommandWantsMemory}
use Rattle.store_layout.specs.Limits.{Limits}
use Rattle.store_layout.specs.Group.{payload_sectors}
use Rattle.store_layout.specs.GroupReading.{JournalRefusal, refuse_unless, count_in, size_in, place_in, is_group_header, is_seal_header, are_zeros, record_size, first_command, commands_in}
use Rattle.store_layout.specs.GroupReading.{BadHeader as IsBadHeader, BadRecord as IsBadRecord, Gap as IsGap, PastEnd as IsPastEnd}
use Rattle.gate_journal.specs.declared.error.JournalError.{JournalError}
use Rattle.gate_journal.specs.declared.error.JournalError.TheVariants.{NoMemory, BadHeader, BadRecord, Gap, PastEnd}
use Rattle.gate_journal.specs.declared.header.Header.{Header}
use Rattle.gate_journal.specs.declared.header.Header.TheVariants.{Group, Seal}
use Rattle.gate_journal.specs.Commands.{command_format}

-- ---- errors

-- An error is the refusal that a definition gives. Refused memory says nothing of the definition.
abbrev pub Refuses : {X : Type 0} → JournalError → Result X JournalRefusal → Type 0
Refuses NoMemory reading = Unit {0}
Refuses BadHeader reading = reading ≡ Err IsBadHeader
Refuses BadRecord reading = reading ≡ Err IsBadRecord
Refuses (Gap place) reading = reading ≡ Err (IsGap place)
Refuses PastEnd reading = reading ≡ Err IsPastEnd

-- A call returns exactly what the reading gives, seen by `view`, unless memory was refused.
abbrev pub GivesJournal : {X Y : Type 0} → (X → Y) → Result X JournalError → Result Y JournalRefusal → Type 0
GivesJournal view (Ok x) reading = reading ≡ Ok (view x)
GivesJournal view (Err e) reading = Refuses e reading

-- A call appends exactly the commands that the reading gives, unless memory was refused.
abbrev pub Appends : List Command → List Command → Result (Unit {0}) JournalError → Result (List Command) JournalRefusal → Type 0
Appends old new (Ok done) reading = (found : List Command) × (reading ≡ Ok found) × (new ≡ old ++ found)
Appends old new (Err e) reading = Refuses e reading

-- ---- readings

-- What was found in records. Nothing found is a bad record.
abbrev pub found_in_records : {X : Type 0} → Option X → Result X JournalRefusal
found_in_records None = Err IsBadRecord
found_in_records (Some x) = Ok x

-- The header in the first sector of the payload after a gate, where this place is expected and the
-- journal has this number of sectors. The padding of a seal is checked too.
abbrev pub header_reading : Limits → List ℕ → ℕ → ℕ → ℕ → Result Header JournalRefusal
header_reading limits sector gate place sectors =
    if is_group_header limits sector then
    refuse_unless (place_in sector == place) (IsGap place)
    (refuse_unless (nat_le (gate + 1 + payload_sectors (size_in sector) + 2) sectors) IsPastEnd (Ok (Group (count_in sector) (size_in sector))))
    else if is_seal_header sector then
    refuse_unless (place_in sector == place) (IsGap place) (refuse_unless (are_zeros (part 16 496 sector)) IsBadRecord (Ok Seal))
    else Err IsBadHeader

-- The bytes after the records of a group's payload.
abbrev pub padding_of : ℕ → List ℕ → List ℕ
padding_of size payload = part (16 + size) (SECTOR * payload_sectors size - (16 + size)) payload

-- The commands of a group's payload, by the count and the size in its header.
abbrev pub payload_reading : Limits → ℕ → ℕ → List ℕ → Result (List Command) JournalRefusal
payload_reading limits count size payload =
    refuse_unless (are_zeros (padding_of size payload)) IsBadRecord (found_in_records (commands_in command_format limits count (part 16 size payload)))

-- ---- when reading takes memory

-- Reading the first record takes memory: the record ends within the bytes, and is a command's, or
-- reading that command takes memory.
pub record FirstWantsMemory (limits : Limits) (bytes : List ℕ) : Type 0 where
  pub size : 4 + record_size bytes ≤ length bytes
  pub command : IsSome (first_command command_format limits bytes) ⊎ CommandWantsMemory (part 4 (record_size bytes) bytes)

-- Reading the commands of a group's payload takes memory.
pub record PayloadWantsMemory (limits : Limits) (size : ℕ) (payload : List ℕ) : Type 0 where
  -- The bytes after the records are zeros.
  pub padding : are_zeros (padding_of size payload) ≡ true
  -- Reading the first record takes memory.
  pub first : FirstWantsMemory limits (part 16 size payload)
