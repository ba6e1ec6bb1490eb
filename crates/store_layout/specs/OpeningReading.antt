-- The opening of an image, as a function: what is read of it, or the first refusal. Each step is a
-- case analysis on what was read.
use Rattle.std.specs.Prelude.{ℕ, Bool, true, false, List, Result, Ok, Err, Option, Some, None, ◌==◌, nat_lt}
use Rattle.byte_lists.specs.Sectors.{is_open_gate}
use Rattle.store_layout.specs.declared.half.Half.{Half}
use Rattle.store_layout.specs.declared.half.Half.TheVariants.{First, Second}
use Rattle.store_layout.specs.GroupReading.{JournalRefusal}
use Rattle.store_layout.specs.Journal.{Reading}
use Rattle.store_layout.specs.JournalReading.{journal_scan}
use Rattle.store_layout.specs.Layout.{Geometry, other, area_of, gate_of, journal_of}
use Rattle.store_layout.specs.FirstSector.{geometry_in}
use Rattle.store_layout.specs.StoreFormat.{StoreFormat}
use Rattle.store_layout.specs.Checkpoint.{Head, Checkpoint}
use Rattle.store_layout.specs.CheckpointReading.{PairRefusal, NoHalf, SameEpoch, SealedNewer, head_in, checkpoint_in}
use Rattle.store_layout.specs.Opening.{Opening, limits_in, StoreValue, opening_value}

-- Why an image does not open: it is no store's, its halves are refused, or a journal is refused.
pub data OpenRefusal : Type 0 where
  NotAStore : OpenRefusal
  BadPair : (refusal : PairRefusal) → OpenRefusal
  BadJournal : (refusal : JournalRefusal) → OpenRefusal

-- The head of a half, by whether its gate is open. `None` where the gate is closed.
abbrev pub head_behind : Bool → Result Head PairRefusal → Result (Option Head) PairRefusal
head_behind false head = Ok None
head_behind true (Err refusal) = Err refusal
head_behind true (Ok head) = Ok (Some head)

-- The head of a half of an image.
abbrev pub head_of : ℕ → Geometry → Half → List ℕ → Result (Option Head) PairRefusal
head_of latest geometry half image = head_behind (is_open_gate (gate_of geometry half image)) (head_in latest (area_of geometry half image))

-- The chosen one of two open halves, which is the one with the greater epoch, by whether the epochs
-- are equal, and whether the first is the smaller one.
abbrev pub by_epochs : Bool → Bool → Result Half PairRefusal
by_epochs true first_is_older = Err SameEpoch
by_epochs false true = Ok Second
by_epochs false false = Ok First

-- The half that is chosen, by the heads of both.
abbrev pub choice : Option Head → Option Head → Result Half PairRefusal
choice None None = Err NoHalf
choice (Some one) None = Ok First
choice None (Some two) = Ok Second
choice (Some one) (Some two) = by_epochs (one.epoch == two.epoch) (nat_lt one.epoch two.epoch)

-- The half that is chosen, or the first refusal. The first half's head is checked before the
-- second's.
abbrev pub choice_of : Result (Option Head) PairRefusal → Result (Option Head) PairRefusal → Result Half PairRefusal
choice_of (Err refusal) second = Err refusal
choice_of (Ok one) (Err refusal) = Err refusal
choice_of (Ok one) (Ok two) = choice one two

-- An opening with the journal after a seal, which must not be sealed too.
abbrev pub with_tail : {Db C : Type 0} → Opening Db C → Bool → Reading C → Result (Opening Db C) OpenRefusal
with_tail opening true behind = Err (BadPair SealedNewer)
with_tail opening false behind = Ok (record opening { tail = Some behind })

-- An opening with the journal after a seal, or that journal's refusal.
abbrev pub read_tail : {Db C : Type 0} → Opening Db C → Result (Reading C) JournalRefusal → Result (Opening Db C) OpenRefusal
read_tail opening (Err refusal) = Err (BadJournal refusal)
read_tail opening (Ok behind) = with_tail opening behind.sealed behind

-- An opening with the journal after the chosen half's, by whether that is sealed, and whether the
-- other half is open.
abbrev pub behind_journal : {Db C : Type 0} → Bool → Bool → Opening Db C → Result (Reading C) JournalRefusal → Result (Opening Db C) OpenRefusal
behind_journal false other_is_open opening behind = Ok opening
behind_journal true true opening behind = Err (BadPair SealedNewer)
behind_journal true false opening behind = read_tail opening behind

-- The opening of a chosen half, by its journal, and by the other half's journal from a place on.
abbrev pub by_journal : {Db C : Type 0} → Geometry → Half → Checkpoint Db → Bool → Result (Reading C) JournalRefusal
    → (ℕ → Result (Reading C) JournalRefusal) → Result (Opening Db C) OpenRefusal
by_journal geometry half checkpoint other_is_open (Err refusal) behind = Err (BadJournal refusal)
by_journal geometry half checkpoint other_is_open (Ok journal) behind =
    behind_journal journal.sealed other_is_open
    (record { geometry = geometry; chosen = half; checkpoint = checkpoint; journal = journal; tail = None }) (behind journal.place)

-- A half's journal from a place on, under the limits of the chosen half's version.
abbrev pub journal_from : {Db C : Type 0} → StoreFormat Db C → Checkpoint Db → Geometry → Half → List ℕ → ℕ → Result (Reading C) JournalRefusal
journal_from format checkpoint geometry half image place = journal_scan format.commands (limits_in checkpoint) (journal_of geometry half image) place

-- The opening of a chosen half, by its checkpoint.
abbrev pub by_checkpoint : {Db C : Type 0} → StoreFormat Db C → Geometry → Half → List ℕ → Result (Checkpoint Db) PairRefusal
    → Result (Opening Db C) OpenRefusal
by_checkpoint format geometry half image (Err refusal) = Err (BadPair refusal)
by_checkpoint format geometry half image (Ok checkpoint) =
    by_journal geometry half checkpoint (is_open_gate (gate_of geometry (other half) image))
    (journal_from format checkpoint geometry half image checkpoint.head.place)
    (journal_from format checkpoint geometry (other half) image)

-- The opening of a store, by which half is chosen.
abbrev pub by_choice : {Db C : Type 0} → StoreFormat Db C → ℕ → Geometry → List ℕ → Result Half PairRefusal → Result (Opening Db C) OpenRefusal
by_choice format latest geometry image (Err refusal) = Err (BadPair refusal)
by_choice format latest geometry image (Ok half) = by_checkpoint format geometry half image (checkpoint_in format.rows latest (area_of geometry half image))

-- The opening of an image, by its sizes.
abbrev pub by_geometry : {Db C : Type 0} → StoreFormat Db C → ℕ → List ℕ → Option Geometry → Result (Opening Db C) OpenRefusal
by_geometry format latest image None = Err NotAStore
by_geometry format latest image (Some geometry) =
    by_choice format latest geometry image (choice_of (head_of latest geometry First image) (head_of latest geometry Second image))

-- The opening of an image.
abbrev pub opening_of : {Db C : Type 0} → StoreFormat Db C → ℕ → List ℕ → Result (Opening Db C) OpenRefusal
opening_of format latest image = by_geometry format latest image (geometry_in image)

-- The value of an opening, or the refusal of the image.
abbrev pub value_of_reading : {Db C : Type 0} → StoreFormat Db C → Result (Opening Db C) OpenRefusal → Result (StoreValue Db) OpenRefusal
value_of_reading format (Err refusal) = Err refusal
value_of_reading format (Ok opening) = Ok (opening_value format opening)

-- The value of an image.
abbrev pub store_value : {Db C : Type 0} → StoreFormat Db C → ℕ → List ℕ → Result (StoreValue Db) OpenRefusal
store_value format latest image = value_of_reading format (opening_of format latest image)
