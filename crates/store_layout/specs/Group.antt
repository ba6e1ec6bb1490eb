-- The payloads after the gates of a journal: groups of commands, and seals. Lengths count bytes,
-- sectors have 512.
use Rattle.std.specs.Prelude.{◌≡◌, ℕ, ◌+◌, ◌-◌, ◌^◌, ◌≤◌, List, [], ◌∷◌, ◌++◌, length}
use Rattle.std.specs.List.{flat_map, AllByRecursion}
use Rattle.std.specs.Int.{w32, w64, to_be_bytes}
use Rattle.byte_lists.specs.Sectors.{sectors_of, padded}
use Rattle.store_layout.specs.Limits.{Limits}
use Rattle.store_layout.specs.CommandFormat.{CommandFormat, IsAllowed}

-- The most bytes that the records of a group have together.
abbrev pub most_record_bytes : ℕ
most_record_bytes = 262144

-- The greatest place that a journal reaches.
abbrev pub last_place : ℕ
last_place = 2 ^ 64 - 1

-- A record: the length of the command's encoding (4 bytes), and the encoding.
abbrev pub record_encoding : {C : Type 0} → CommandFormat C → C → List ℕ
record_encoding format command = to_be_bytes w32 (length (format.encoding command)) ++ format.encoding command

-- The records of commands, one after the other.
abbrev pub records_of : {C : Type 0} → CommandFormat C → List C → List ℕ
records_of format commands = flat_map (record_encoding format) commands

-- A header of 16 bytes, and the bytes after it. The header has the kind, the count of commands, two
-- zeros, the length of the records, and the place.
abbrev pub with_header : ℕ → ℕ → ℕ → ℕ → List ℕ → List ℕ
with_header kind count size place behind = kind ∷ count ∷ 0 ∷ 0 ∷ (to_be_bytes w32 size ++ (to_be_bytes w64 place ++ behind))

-- The payload of a group whose first command has this place.
abbrev pub group_encoding : {C : Type 0} → CommandFormat C → ℕ → List C → List ℕ
group_encoding format place commands = padded (with_header 1 (length commands) (length (records_of format commands)) place (records_of format commands))

-- The payload of a seal at this place.
abbrev pub seal_encoding : ℕ → List ℕ
seal_encoding place = padded (with_header 2 0 0 place [])

-- The number of sectors of a payload, by the length of its records.
abbrev pub payload_sectors : ℕ → ℕ
payload_sectors size = sectors_of (16 + size)

-- The number of sectors of the payload of a group of these commands.
abbrev pub group_sectors : {C : Type 0} → CommandFormat C → List C → ℕ
group_sectors format commands = payload_sectors (length (records_of format commands))

-- A journal has room for `payload` sectors after the gate, and for two more: the gate after them,
-- and a seal's.
abbrev pub JournalHasRoom : ℕ → ℕ → ℕ → Type 0
JournalHasRoom gate payload journal = gate + 1 + payload + 2 ≤ journal

-- The commands can be one group at this place.
pub record CanBeGroup {C : Type 0} (format : CommandFormat C) (limits : Limits) (place : ℕ) (commands : List C) : Type 0 where
  -- There are one or more, and at most as many as the limits allow.
  pub some : 1 ≤ length commands
  pub most : length commands ≤ limits.most
  -- Their records have at most 262,144 bytes together.
  pub short : length (records_of format commands) ≤ most_record_bytes
  -- There are places for all of them.
  pub last : place + length commands ≤ last_place
  -- The limits allow each of them.
  pub allowed : AllByRecursion (IsAllowed format limits) commands

-- The payload is the one encoding of a group of these commands.
pub record IsGroup {C : Type 0} (format : CommandFormat C) (limits : Limits) (place : ℕ) (commands : List C) (payload : List ℕ) : Type 0 where
  pub can : CanBeGroup format limits place commands
  pub spelled : payload ≡ group_encoding format place commands

-- The payload is the one encoding of a seal at this place.
pub record IsSeal (place : ℕ) (payload : List ℕ) : Type 0 where
  pub last : place ≤ last_place
  pub spelled : payload ≡ seal_encoding place
