-- Refusals of an opening: how the errors of lower layers become its own, and what each says of the
-- bytes that were read.
use Rattle.std.specs.Prelude.{◌≡◌, ◌≢◌, ℕ, Result, Ok, Err}
use Rattle.sector_dev.specs.Disk.{Disk, IsHonest}
use Rattle.sector_dev.specs.Calls.{Keeps, one_more}
use Rattle.path_db.specs.declared.command.Command.{Command}
use Rattle.store_layout.specs.GroupReading.{JournalRefusal}
use Rattle.store_layout.specs.Journal.{Reading}
use Rattle.gate_journal.specs.declared.error.JournalError.{JournalError}
use Rattle.gate_journal.specs.declared.error.JournalError.TheVariants as journal
use Rattle.gate_journal.specs.declared.scanner.Scan.{Scan}
use Rattle.gate_journal.specs.Reading.{Refuses}
use Rattle.gate_journal.specs.Scanning.{reading_of}
use Rattle.store_layout.specs.CheckpointReading.{PairRefusal}
use Rattle.ckpt_pair.specs.Refusals.{error_of}
use Rattle.ckpt_pair.specs.declared.error.PairError.{PairError}
use Rattle.ckpt_pair.specs.declared.error.PairError.TheVariants as pair
use Rattle.store_open.specs.declared.error.OpenError.{OpenError}
use Rattle.store_open.specs.declared.error.OpenError.TheVariants.{NotAStore, Device, Pair, Journal, NoMemory}

-- The error of an opening for a journal's. Refused memory has one error, whichever layer was
-- refused.
abbrev pub error_of_journal : JournalError → OpenError
error_of_journal journal.NoMemory = NoMemory
error_of_journal journal.BadHeader = Journal journal.BadHeader
error_of_journal journal.BadRecord = Journal journal.BadRecord
error_of_journal (journal.Gap place) = Journal (journal.Gap place)
error_of_journal journal.PastEnd = Journal journal.PastEnd

-- The error of an opening for that of a pair of halves.
abbrev pub error_of_pair : PairError → OpenError
error_of_pair pair.NoMemory = NoMemory
error_of_pair pair.NoHalf = Pair pair.NoHalf
error_of_pair pair.SameEpoch = Pair pair.SameEpoch
error_of_pair pair.BadCheckpoint = Pair pair.BadCheckpoint
error_of_pair pair.SealedNewer = Pair pair.SealedNewer
error_of_pair (pair.NewerFormat version) = Pair (pair.NewerFormat version)

-- The count of failed calls after a result. A call of the device failed exactly where the error is
-- `Device`.
abbrev pub faults_after : {T : Type 0} → Result T OpenError → ℕ → ℕ
faults_after (Ok done) faults = faults
faults_after (Err NotAStore) faults = faults
faults_after (Err Device) faults = one_more faults
faults_after (Err (Pair e)) faults = faults
faults_after (Err (Journal e)) faults = faults
faults_after (Err NoMemory) faults = faults

-- The contents of the device were read, and are unchanged.
pub record LooksFor {T : Type 0} (result : Result T OpenError) (old new : Disk) : Type 0 where
  pub keeps : Keeps old new
  pub faults : new.faults ≡ faults_after result old.faults
  pub history : IsHonest old → new.history ≡ old.history

-- A reading is refused, and this is the error of the refusal.
pub record Refused {Y : Type 0} (e : PairError) (reading : Result Y PairRefusal) : Type 0 where
  pub refusal : PairRefusal
  pub is : reading ≡ Err refusal
  pub told : e ≡ error_of refusal

-- A journal was scanned: it has this reading, or this refusal, unless the device failed or memory
-- was refused.
abbrev pub ScansSo : Result Scan OpenError → Result (Reading Command) JournalRefusal → Type 0
ScansSo (Ok scan) reading = reading ≡ Ok (reading_of scan)
ScansSo (Err NotAStore) reading = ⊥
ScansSo (Err Device) reading = Unit {0}
ScansSo (Err (Pair e)) reading = ⊥
ScansSo (Err (Journal e)) reading = (e ≢ journal.NoMemory) × Refuses e reading
ScansSo (Err NoMemory) reading = Unit {0}

-- A part of a pair of halves has this reading, or this refusal, unless the device failed or memory
-- was refused.
abbrev pub PairSo : {X Y : Type 0} → (X → Y) → Result X OpenError → Result Y PairRefusal → Type 0
PairSo view (Ok x) reading = reading ≡ Ok (view x)
PairSo view (Err NotAStore) reading = ⊥
PairSo view (Err Device) reading = Unit {0}
PairSo view (Err (Pair e)) reading = (e ≢ pair.NoMemory) × Refused e reading
PairSo view (Err (Journal e)) reading = ⊥
PairSo view (Err NoMemory) reading = Unit {0}

-- What holds for a call that was completed, or for which memory was refused on the way.
abbrev pub OnOkOrNoMemory : {T : Type 0} → Result T OpenError → Type 0 → Type 0
OnOkOrNoMemory (Ok x) P = P
OnOkOrNoMemory (Err NotAStore) P = Unit {0}
OnOkOrNoMemory (Err Device) P = Unit {0}
OnOkOrNoMemory (Err (Pair e)) P = Unit {0}
OnOkOrNoMemory (Err (Journal e)) P = Unit {0}
OnOkOrNoMemory (Err NoMemory) P = P
