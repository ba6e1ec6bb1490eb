-- The definition of each refusal of an image, in the order of the checks.
use Rattle.std.specs.Prelude.{◌≡◌, ◌⊎◌, ℕ, ◌≤◌, true, List}
use Rattle.byte_lists.specs.Sectors.{IsOpenGate}
use Rattle.store_layout.specs.declared.half.Half.{Half}
use Rattle.store_layout.specs.declared.half.Half.TheVariants.{First, Second}
use Rattle.store_layout.specs.GroupReading.{JournalRefusal}
use Rattle.store_layout.specs.Journal.{Reading, IsJournal}
use Rattle.store_layout.specs.JournalRefusals.{IsJournalRefused}
use Rattle.store_layout.specs.Layout.{Geometry, other, area_of, gate_of, journal_of}
use Rattle.store_layout.specs.FirstSector.{IsStore}
use Rattle.store_layout.specs.StoreFormat.{StoreFormat}
use Rattle.store_layout.specs.Checkpoint.{Head, Checkpoint, IsHead, IsCheckpoint}
use Rattle.store_layout.specs.CheckpointReading.{PairRefusal, NoHalf, SameEpoch, BadCheckpoint, SealedNewer, NewerFormat, IsHeadRefusal}
use Rattle.store_layout.specs.Opening.{limits_in, HasOlderHead, IsChosen}
use Rattle.store_layout.specs.OpeningReading.{OpenRefusal, NotAStore, BadPair, BadJournal}

-- An area begins with a head of a known version.
pub record HasKnownHead (latest : ℕ) (area : List ℕ) : Type 0 where
  pub head : Head
  pub is : IsHead area head
  pub known : head.version ≤ latest

-- A half is closed, or its area begins with a head of a known version.
abbrev pub IsClosedOrKnown : ℕ → Geometry → Half → List ℕ → Type 0
IsClosedOrKnown latest geometry half image = IsOpenGate (gate_of geometry half image) → HasKnownHead latest (area_of geometry half image)

-- A half is open, and its head is refused.
pub record HasBadHead (latest : ℕ) (geometry : Geometry) (half : Half) (image : List ℕ) (refusal : PairRefusal) : Type 0 where
  pub gate : IsOpenGate (gate_of geometry half image)
  pub head : IsHeadRefusal refusal latest (area_of geometry half image)

-- The head of a half is refused. The first half's head is checked before the second's.
abbrev pub HasBadHeads : ℕ → Geometry → List ℕ → PairRefusal → Type 0
HasBadHeads latest geometry image refusal =
    HasBadHead latest geometry First image refusal
    ⊎ (IsClosedOrKnown latest geometry First image × HasBadHead latest geometry Second image refusal)

-- No half is open.
abbrev pub HasNoHalf : Geometry → List ℕ → Type 0
HasNoHalf geometry image = (half : Half) → ¬ IsOpenGate (gate_of geometry half image)

-- Both halves are open, with heads of the same epoch.
pub record HasOneEpoch (latest : ℕ) (geometry : Geometry) (image : List ℕ) : Type 0 where
  pub gates : (half : Half) → IsOpenGate (gate_of geometry half image)
  pub first : HasKnownHead latest (area_of geometry First image)
  pub second : HasKnownHead latest (area_of geometry Second image)
  pub same : first.head.epoch ≡ second.head.epoch

-- The chosen half has no valid rows.
pub record HasNoRows {Db C : Type 0} (format : StoreFormat Db C) (latest : ℕ) (geometry : Geometry) (image : List ℕ) : Type 0 where
  pub half : Half
  -- The half is open, and begins with a head of a known version.
  pub gate : IsOpenGate (gate_of geometry half image)
  pub head : HasKnownHead latest (area_of geometry half image)
  -- The other half is closed, or older.
  pub older : IsOpenGate (gate_of geometry (other half) image) → HasOlderHead latest (area_of geometry (other half) image) head.head.epoch
  -- The half begins with no checkpoint.
  pub none : (checkpoint : Checkpoint Db) → ¬ IsCheckpoint format.rows (area_of geometry half image) checkpoint

-- The chosen half's journal is refused.
pub record HasBadJournal {Db C : Type 0} (format : StoreFormat Db C) (latest : ℕ) (geometry : Geometry) (image : List ℕ) (refusal : JournalRefusal)
    : Type 0 where
  pub half : Half
  pub checkpoint : Checkpoint Db
  pub chosen : IsChosen format latest image geometry half checkpoint
  pub journal : IsJournalRefused format.commands (limits_in checkpoint) (journal_of geometry half image) checkpoint.head.place refusal

-- The chosen half's journal is sealed.
pub record HasSealedJournal {Db C : Type 0} (format : StoreFormat Db C) (latest : ℕ) (geometry : Geometry) (image : List ℕ) : Type 0 where
  pub half : Half
  pub checkpoint : Checkpoint Db
  pub front : Reading C
  pub chosen : IsChosen format latest image geometry half checkpoint
  pub journal : IsJournal format.commands (limits_in checkpoint) (journal_of geometry half image) checkpoint.head.place front
  pub sealed : front.sealed ≡ true

-- The chosen half's journal is sealed, and the other half is open all the same.
pub record IsSealedBesideOpen {Db C : Type 0} (format : StoreFormat Db C) (latest : ℕ) (geometry : Geometry) (image : List ℕ) : Type 0 where
  pub front : HasSealedJournal format latest geometry image
  pub gate : IsOpenGate (gate_of geometry (other front.half) image)

-- The chosen half's journal is sealed, and the journal that continues after the seal is refused.
pub record HasBadTail {Db C : Type 0} (format : StoreFormat Db C) (latest : ℕ) (geometry : Geometry) (image : List ℕ) (refusal : JournalRefusal) : Type 0 where
  pub front : HasSealedJournal format latest geometry image
  pub closed : ¬ IsOpenGate (gate_of geometry (other front.half) image)
  pub journal : IsJournalRefused format.commands (limits_in front.checkpoint) (journal_of geometry (other front.half) image) front.front.place refusal

-- The chosen half's journal is sealed, and the journal that continues after the seal is sealed too.
pub record IsSealedTwice {Db C : Type 0} (format : StoreFormat Db C) (latest : ℕ) (geometry : Geometry) (image : List ℕ) : Type 0 where
  pub front : HasSealedJournal format latest geometry image
  pub closed : ¬ IsOpenGate (gate_of geometry (other front.half) image)
  pub behind : Reading C
  pub journal : IsJournal format.commands (limits_in front.checkpoint) (journal_of geometry (other front.half) image) front.front.place behind
  pub sealed : behind.sealed ≡ true

-- What is wrong in an image of a store with these sizes.
abbrev pub IsStoreRefusal : {Db C : Type 0} → OpenRefusal → StoreFormat Db C → ℕ → Geometry → List ℕ → Type 0
IsStoreRefusal NotAStore format latest geometry image = ⊥
IsStoreRefusal (BadPair NoHalf) format latest geometry image = HasNoHalf geometry image
IsStoreRefusal (BadPair SameEpoch) format latest geometry image = HasOneEpoch latest geometry image
IsStoreRefusal (BadPair BadCheckpoint) format latest geometry image =
    HasBadHeads latest geometry image BadCheckpoint ⊎ HasNoRows format latest geometry image
IsStoreRefusal (BadPair SealedNewer) format latest geometry image =
    IsSealedBesideOpen format latest geometry image ⊎ IsSealedTwice format latest geometry image
IsStoreRefusal (BadPair (NewerFormat version)) format latest geometry image = HasBadHeads latest geometry image (NewerFormat version)
IsStoreRefusal (BadJournal refusal) format latest geometry image =
    HasBadJournal format latest geometry image refusal ⊎ HasBadTail format latest geometry image refusal

-- A store is refused.
pub record IsRefusedStore {Db C : Type 0} (refusal : OpenRefusal) (format : StoreFormat Db C) (latest : ℕ) (image : List ℕ) : Type 0 where
  pub geometry : Geometry
  pub store : IsStore geometry image
  pub wrong : IsStoreRefusal refusal format latest geometry image

-- The definition of each refusal of an image: it is no store's, or it is a store's and this is
-- wrong.
abbrev pub IsOpenRefusal : {Db C : Type 0} → OpenRefusal → StoreFormat Db C → ℕ → List ℕ → Type 0
IsOpenRefusal NotAStore format latest image = (geometry : Geometry) → ¬ IsStore geometry image
IsOpenRefusal (BadPair refusal) format latest image = IsRefusedStore (BadPair refusal) format latest image
IsOpenRefusal (BadJournal refusal) format latest image = IsRefusedStore (BadJournal refusal) format latest image
