-- The reading of the payload after an open gate, as a function: a group or a seal, or the first
-- refusal.
use Rattle.std.specs.Prelude.{◌≡◌, ℕ, zero, suc, ◌+◌, ◌-◌, ◌*◌, ◌≤◌, Bool, true, false, ◌&&◌, List, [], ◌∷◌, length, drop, slice_index, Result, Ok, Err, Option, Some, None, if◌then◌else◌, ◌==◌, nat_le}
use Rattle.std.specs.List.{list_all}
use Rattle.byte_lists.specs.Content.{part}
use Rattle.byte_lists.specs.Numbers.{four_at, eight_at}
use Rattle.byte_lists.specs.Sectors.{whole_sectors}
use Rattle.byte_lists.specs.declared.format.TheConstants.{SECTOR}
use Rattle.store_layout.specs.Limits.{Limits}
use Rattle.store_layout.specs.CommandFormat.{CommandFormat}
use Rattle.store_layout.specs.Group.{most_record_bytes, last_place, payload_sectors}

-- Why a journal is refused. A gap has the place that was expected.
pub data JournalRefusal : Type 0 where
  BadHeader : JournalRefusal
  BadRecord : JournalRefusal
  Gap : (place : ℕ) → JournalRefusal
  PastEnd : JournalRefusal

-- One check: where it fails the result is the refusal, else the rest.
abbrev pub refuse_unless : {X E : Type 0} → Bool → E → Result X E → Result X E
refuse_unless true refusal behind = behind
refuse_unless false refusal behind = Err refusal

-- The count of commands in the header of a payload.
abbrev pub count_in : List ℕ → ℕ
count_in payload = slice_index payload 1

-- The length of the records in the header of a payload.
abbrev pub size_in : List ℕ → ℕ
size_in payload = four_at 4 payload

-- The place in the header of a payload.
abbrev pub place_in : List ℕ → ℕ
place_in payload = eight_at 8 payload

-- A payload begins with a header of the kind `wanted`.
pub record IsHeader (wanted few many longest : ℕ) (payload : List ℕ) : Type 0 where
  pub kind : slice_index payload 0 ≡ wanted
  -- It has `few` to `many` commands.
  pub some : few ≤ count_in payload
  pub most : count_in payload ≤ many
  -- Two zeros follow.
  pub third : slice_index payload 2 ≡ 0
  pub fourth : slice_index payload 3 ≡ 0
  -- The records have at most `longest` bytes.
  pub short : size_in payload ≤ longest
  -- There are places for all of the commands.
  pub last : place_in payload + count_in payload ≤ last_place

-- `IsHeader` as a test.
abbrev pub is_header : ℕ → ℕ → ℕ → ℕ → List ℕ → Bool
is_header wanted few many longest payload =
    (slice_index payload 0 == wanted) && nat_le few (count_in payload) && nat_le (count_in payload) many
    && (slice_index payload 2 == 0) && (slice_index payload 3 == 0)
    && nat_le (size_in payload) longest && nat_le (place_in payload + count_in payload) last_place

-- The header of a group: it has from 1 command up to the number that the limits allow.
abbrev pub IsGroupHeader : Limits → List ℕ → Type 0
IsGroupHeader limits payload = IsHeader 1 1 limits.most most_record_bytes payload

-- `IsGroupHeader` as a test.
abbrev pub is_group_header : Limits → List ℕ → Bool
is_group_header limits payload = is_header 1 1 limits.most most_record_bytes payload

-- The header of a seal: it has no commands, and no records.
abbrev pub IsSealHeader : List ℕ → Type 0
IsSealHeader payload = IsHeader 2 0 0 0 payload

-- `IsSealHeader` as a test.
abbrev pub is_seal_header : List ℕ → Bool
is_seal_header payload = is_header 2 0 0 0 payload

-- The length with which a record begins.
abbrev pub record_size : List ℕ → ℕ
record_size bytes = four_at 0 bytes

-- The command of the record at the front. `None` where the record does not end within the bytes.
abbrev pub first_command : {C : Type 0} → CommandFormat C → Limits → List ℕ → Option C
first_command format limits bytes =
    if nat_le (4 + record_size bytes) (length bytes) then format.decoding limits (part 4 (record_size bytes) bytes) else None

-- A first command before the others, where all were read.
abbrev pub with_first : {C : Type 0} → Option C → Option (List C) → Option (List C)
with_first None more = None
with_first (Some command) None = None
with_first (Some command) (Some more) = Some (command ∷ more)

-- No commands, where no bytes are left.
abbrev pub none_left : {C : Type 0} → List ℕ → Option (List C)
none_left [] = Some []
none_left (byte ∷ more) = None

-- The commands of this number of records that are all of the bytes.
abbrev pub commands_in : {C : Type 0} → CommandFormat C → Limits → ℕ → List ℕ → Option (List C)
commands_in format limits zero bytes = none_left bytes
commands_in format limits (suc count) bytes =
    with_first (first_command format limits bytes) (commands_in format limits count (drop (4 + record_size bytes) bytes))

-- All bytes are zeros.
abbrev pub are_zeros : List ℕ → Bool
are_zeros bytes = list_all (λ byte. byte == 0) bytes

-- The payload after an open gate: a group of these commands, with the length of its records, or a
-- seal.
pub data Payload (C : Type 0) : Type 0 where
  Group : (commands : List C) (size : ℕ) → Payload C
  Seal : Payload C

-- The group of these commands, or the refusal where they were not read.
abbrev pub group_of : {C : Type 0} → Option (List C) → ℕ → Result (Payload C) JournalRefusal
group_of None size = Err BadRecord
group_of (Some commands) size = Ok (Group commands size)

-- The kind of a header.
pub data Kind : Type 0 where
  OfGroup : Kind
  OfSeal : Kind
  OfNone : Kind

-- The kind of the header of a payload.
abbrev pub header_kind : Limits → List ℕ → Kind
header_kind limits payload = if is_group_header limits payload then OfGroup else if is_seal_header payload then OfSeal else OfNone

-- The group of a payload: its records, and its padding.
abbrev pub group_in : {C : Type 0} → CommandFormat C → Limits → List ℕ → Result (Payload C) JournalRefusal
group_in format limits payload =
    refuse_unless (are_zeros (part (16 + size_in payload) (SECTOR * payload_sectors (size_in payload) - (16 + size_in payload)) payload)) BadRecord
    (group_of (commands_in format limits (count_in payload) (part 16 (size_in payload) payload)) (size_in payload))

-- The seal of a payload, whose padding is checked.
abbrev pub seal_in : {C : Type 0} → List ℕ → Result (Payload C) JournalRefusal
seal_in payload = refuse_unless (are_zeros (part 16 496 payload)) BadRecord (Ok Seal)

-- The checks after the header, in their order.
abbrev pub by_kind : {C : Type 0} → Kind → CommandFormat C → Limits → List ℕ → ℕ → ℕ → ℕ → Result (Payload C) JournalRefusal
by_kind OfNone format limits payload gate place journal = Err BadHeader
by_kind OfSeal format limits payload gate place journal = refuse_unless (place_in payload == place) (Gap place) (seal_in payload)
by_kind OfGroup format limits payload gate place journal =
    refuse_unless (place_in payload == place) (Gap place)
    (refuse_unless (nat_le (gate + 1 + payload_sectors (size_in payload) + 2) journal) PastEnd (group_in format limits payload))

-- The payload after an open gate, where this place is expected.
abbrev pub payload_at : {C : Type 0} → CommandFormat C → Limits → List ℕ → ℕ → ℕ → Result (Payload C) JournalRefusal
payload_at format limits bytes gate place =
    let payload = drop (SECTOR * (gate + 1)) bytes in
    refuse_unless (nat_le (gate + 2) (whole_sectors bytes)) PastEnd
    (by_kind (header_kind limits payload) format limits payload gate place (whole_sectors bytes))
