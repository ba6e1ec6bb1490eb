-- The definition of each refusal of a journal, in the order of the checks: the refusal comes at the
-- first open gate after which neither a group nor a seal is at the place reached.
use Rattle.std.specs.Prelude.{◌≡◌, ◌≢◌, ◌⊎◌, ℕ, ◌+◌, ◌*◌, ◌≤◌, List, length, drop}
use Rattle.byte_lists.specs.Sectors.{whole_sectors, sector_at, IsOpenGate}
use Rattle.byte_lists.specs.declared.format.TheConstants.{SECTOR}
use Rattle.store_layout.specs.Limits.{Limits}
use Rattle.store_layout.specs.CommandFormat.{CommandFormat}
use Rattle.store_layout.specs.Group.{payload_sectors, JournalHasRoom}
use Rattle.store_layout.specs.GroupReading.{JournalRefusal, BadHeader, BadRecord, Gap, PastEnd, IsGroupHeader, IsSealHeader, size_in, place_in}
use Rattle.store_layout.specs.Journal.{HasGroupAfterGate, HasSeal, IsGroupChain, all_of}

-- A payload begins after this gate, in the journal.
abbrev pub HasPayload : List ℕ → ℕ → Type 0
HasPayload bytes gate = gate + 2 ≤ whole_sectors bytes

-- The bytes after this gate.
abbrev pub payload_behind : List ℕ → ℕ → List ℕ
payload_behind bytes gate = drop (SECTOR * (gate + 1)) bytes

-- The header after this gate is that of a group.
abbrev pub HasGroupHeader : Limits → List ℕ → ℕ → Type 0
HasGroupHeader limits bytes gate = HasPayload bytes gate × IsGroupHeader limits (payload_behind bytes gate)

-- The header after this gate is that of a seal.
abbrev pub HasSealHeader : List ℕ → ℕ → Type 0
HasSealHeader bytes gate = HasPayload bytes gate × IsSealHeader (payload_behind bytes gate)

-- The journal has room for the group that the header describes.
abbrev pub HasPromisedRoom : List ℕ → ℕ → Type 0
HasPromisedRoom bytes gate = JournalHasRoom gate (payload_sectors (size_in (payload_behind bytes gate))) (whole_sectors bytes)

-- What is wrong after an open gate where this place is expected. `PastEnd` is a payload that would
-- begin past the end, or has no room. A bad header is neither a group's nor a seal's. A gap is
-- another place than the one expected. Bad records are those of a payload that is no group, or no
-- seal, after a valid header.
abbrev pub IsRefusedAt : {C : Type 0} → JournalRefusal → CommandFormat C → Limits → List ℕ → ℕ → ℕ → Type 0
IsRefusedAt PastEnd format limits bytes gate place =
    ¬ HasPayload bytes gate ⊎ (HasGroupHeader limits bytes gate × (place_in (payload_behind bytes gate) ≡ place) × ¬ HasPromisedRoom bytes gate)
IsRefusedAt BadHeader format limits bytes gate place =
    HasPayload bytes gate × ¬ HasGroupHeader limits bytes gate × ¬ HasSealHeader bytes gate
IsRefusedAt (Gap expected) format limits bytes gate place =
    (expected ≡ place) × (HasGroupHeader limits bytes gate ⊎ HasSealHeader bytes gate) × (place_in (payload_behind bytes gate) ≢ place)
IsRefusedAt {C} BadRecord format limits bytes gate place =
    (place_in (payload_behind bytes gate) ≡ place)
    × ((HasGroupHeader limits bytes gate × HasPromisedRoom bytes gate × ((commands : List C) → ¬ HasGroupAfterGate format limits bytes gate place commands))
    ⊎ (HasSealHeader bytes gate × ¬ HasSeal bytes gate place))

-- The journal is refused.
pub record IsJournalRefused {C : Type 0} (format : CommandFormat C) (limits : Limits) (bytes : List ℕ) (start : ℕ) (refusal : JournalRefusal) : Type 0 where
  -- It has groups up to an open gate.
  pub groups : List (List C)
  pub gate : ℕ
  pub chain : IsGroupChain format limits bytes 0 start groups gate
  pub opened : IsOpenGate (sector_at gate bytes)
  -- This is wrong after that gate.
  pub wrong : IsRefusedAt refusal format limits bytes gate (start + length (all_of groups))
