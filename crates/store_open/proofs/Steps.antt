-- The opening of an image, step by step: each refusal of a step is the opening's.
use Rattle.std.proofs.Common.{◌≡◌, ◌≢◌, ℕ, Bool, true, false, List, Result, Ok, Err, Option, Some, None, IfOk, refl, sym, ◌∙◌, ap, subst, arith}
use Rattle.std.specs.Option.{option_map, is_some}
use Rattle.row_map.specs.Database.{RowView}
use Rattle.path_db.specs.declared.command.Command.{Command}
use Rattle.store_layout.specs.declared.half.Half.{Half}
use Rattle.store_layout.specs.declared.half.Half.TheVariants.{First, Second}
use Rattle.store_layout.specs.GroupReading.{JournalRefusal}
use Rattle.store_layout.specs.GroupReading as refusals
use Rattle.store_layout.specs.Journal.{Reading}
use Rattle.store_layout.specs.Layout.{other, gate_of, journal_of}
use Rattle.store_layout.specs.Layout as laws
use Rattle.store_layout.specs.Limits.{limits_of, latest}
use Rattle.store_layout.specs.JournalReading.{journal_scan}
use Rattle.store_layout.specs.Checkpoint.{Checkpoint, Head as HeadView}
use Rattle.store_layout.specs.CheckpointReading.{PairRefusal, SealedNewer}
use Rattle.store_layout.specs.Opening.{Opening}
use Rattle.store_layout.specs.OpeningReading.{OpenRefusal, BadPair, BadJournal, head_behind, head_of, behind_journal, read_tail, with_tail, by_geometry, journal_from}
use Rattle.store_layout.specs.OpeningReading as readings
use Rattle.byte_lists.specs.Sectors.{is_open_gate}
use Rattle.gate_journal.specs.declared.error.JournalError.TheVariants as journal
use Rattle.gate_journal.specs.declared.scanner.Scan.{Scan}
use Rattle.gate_journal.specs.Scanning.{reading_of}
use Rattle.ckpt_pair.specs.declared.error.PairError.{PairError}
use Rattle.ckpt_pair.specs.declared.error.PairError.TheVariants as pair
use Rattle.ckpt_pair.specs.declared.choice.Head.{Head}
use Rattle.ckpt_pair.specs.declared.choice.Heads.{Heads}
use Rattle.ckpt_pair.specs.Heads.{head_seen, head_at, half_with_tail}
use Rattle.ckpt_pair.specs.Refusals.{ReadsPair}
use Rattle.store_open.specs.declared.error.OpenError.{OpenError}
use Rattle.store_open.specs.declared.error.OpenError.TheVariants.{NotAStore, Device, Pair, Journal, NoMemory}
use Rattle.store_open.specs.Heads.{HasHeads}
use Rattle.store_open.specs.Open.{with_tail_seen, OpensSo, RefusesOpening}
use Rattle.store_layout.specs.declared.geometry.Geometry.{Geometry}
use Rattle.store_open.specs.declared.opening.Found.{Found}
use Rattle.store_layout.specs.Geometry.{geometry_view}
use Rattle.store_open.specs.NewStore.{DeviceHasRoomFor}
use Rattle.store_open.specs.PathStores.{store_format}
use Rattle.store_open.specs.Refusals.{error_of_pair, faults_after, LooksFor, ScansSo, PairSo, OnOkOrNoMemory}
use Rattle.sector_dev.specs.Disk.{Disk, IsHonest}
use Rattle.sector_dev.specs.Calls.{Keeps}
use Rattle.sector_dev.proofs.Stretches.{honest_after, keeps_then}
use Rattle.gate_journal.specs.Commands.{command_format}

-- a refusal of the halves is the opening's, where the step returns it
pub pair_so : {X Y W : Type 0} (view : X → Y) (e : OpenError) (step : Result Y PairRefusal → Result W OpenRefusal) (reading : Result Y PairRefusal)
    → ((refusal : PairRefusal) → step (Err refusal) ≡ Err (BadPair refusal)) → PairSo view (Err e) reading → RefusesOpening e (step reading)
pair_so view NotAStore step reading on so = absurd so
pair_so view Device step reading on so = tt
pair_so view (Pair e) step reading on so =
    record { refusal = BadPair so.1.refusal; is = ap step so.1.is ∙ on so.1.refusal; told = ap (λ (p : PairError). Pair p) so.1.told }
pair_so view (Journal e) step reading on so = absurd so
pair_so view NoMemory step reading on so = tt

-- a refusal of a journal is the opening's, where the step returns it
pub scan_so : {W : Type 0} (e : OpenError) (step : Result (Reading Command) JournalRefusal → Result W OpenRefusal) (reading : Result (Reading Command) JournalRefusal)
    → ((refusal : JournalRefusal) → step (Err refusal) ≡ Err (BadJournal refusal)) → ScansSo (Err e) reading → RefusesOpening e (step reading)
scan_so NotAStore step reading on so = absurd so
scan_so Device step reading on so = tt
scan_so (Pair e) step reading on so = absurd so
scan_so (Journal journal.NoMemory) step reading on so = absurd (so.0 refl)
scan_so (Journal journal.BadHeader) step reading on so = record { refusal = BadJournal refusals.BadHeader; is = ap step so.1 ∙ on refusals.BadHeader; told = refl }
scan_so (Journal journal.BadRecord) step reading on so = record { refusal = BadJournal refusals.BadRecord; is = ap step so.1 ∙ on refusals.BadRecord; told = refl }
scan_so (Journal (journal.Gap place)) step reading on so =
    record { refusal = BadJournal (refusals.Gap place); is = ap step so.1 ∙ on (refusals.Gap place); told = refl }
scan_so (Journal journal.PastEnd) step reading on so = record { refusal = BadJournal refusals.PastEnd; is = ap step so.1 ∙ on refusals.PastEnd; told = refl }
scan_so NoMemory step reading on so = tt

-- a refusal is a refusal of an equal reading too
pub refused_same : (Y : Type 0) (e : OpenError) (one two : Result Y OpenRefusal) → one ≡ two → RefusesOpening e one → RefusesOpening e two
refused_same Y e one two same so = subst (λ (r : Result Y OpenRefusal). RefusesOpening e r) same so

-- a result is a result of an equal reading too
pub opens_same : {X Y : Type 0} (view : X → Y) (result : Result X OpenError) (one two : Result Y OpenRefusal) → one ≡ two → OpensSo view result one → OpensSo view result two
opens_same {X} {Y} view result one two same so = subst (λ (r : Result Y OpenRefusal). OpensSo view result r) same so

-- an image without sizes is no store's
pub not_a_store : (reads : List ℕ) (found : Option Geometry) → found ≡ None → RefusesOpening NotAStore (by_geometry store_format latest reads (option_map geometry_view found))
not_a_store reads found none =
    record { refusal = readings.NotAStore; is = ap (λ (f : Option Geometry). by_geometry store_format latest reads (option_map geometry_view f)) none; told = refl }

-- a call that only reads, after another one
pub looks_then : {T : Type 0} (result : Result T OpenError) (old mid new : Disk) → Keeps old mid → mid.faults ≡ old.faults → (IsHonest old → mid.history ≡ old.history) → LooksFor result mid new
    → LooksFor result old new
looks_then result old mid new keeps faults history looks = record {
  keeps = keeps_then old mid new keeps looks.keeps;
  faults = looks.faults ∙ ap (faults_after result) faults;
  history = λ honest. looks.history (honest_after old mid keeps honest) ∙ history honest;
}

-- a device keeps its number of sectors
pub room_kept : (geometry : laws.Geometry) (old new : Disk) → new.sectors ≡ old.sectors → DeviceHasRoomFor geometry old → DeviceHasRoomFor geometry new
room_kept geometry old new same has = record { allowed = has.allowed; room = omega (arith, same, has.room) }

pub room_found : (result : Result Found OpenError) (geometry : Geometry) (disk : Disk) → IfOk result (λ found. found.geometry ≡ geometry) → DeviceHasRoomFor (geometry_view geometry) disk
    → IfOk result (λ found. DeviceHasRoomFor (geometry_view found.geometry) disk)
room_found (Ok found) geometry disk same has = subst (λ (g : Geometry). DeviceHasRoomFor (geometry_view g) disk) (sym same) has
room_found (Err e) geometry disk same has = tt

pub room_before : (result : Result Found OpenError) (old mid : Disk) → mid.sectors ≡ old.sectors → IfOk result (λ found. DeviceHasRoomFor (geometry_view found.geometry) mid)
    → IfOk result (λ found. DeviceHasRoomFor (geometry_view found.geometry) old)
room_before (Ok found) old mid same has = room_kept (geometry_view found.geometry) mid old (sym same) has
room_before (Err e) old mid same has = tt

-- what holds where memory was refused
pub memory_from : {T : Type 0} (P : Type 0) (result : Result T OpenError) → P → OnOkOrNoMemory result P
memory_from P (Ok x) holds = holds
memory_from P (Err NotAStore) holds = tt
memory_from P (Err Device) holds = tt
memory_from P (Err (Pair e)) holds = tt
memory_from P (Err (Journal e)) holds = tt
memory_from P (Err NoMemory) holds = holds

pub memory_then : {T : Type 0} (P Q : Type 0) (result : Result T OpenError) → (P → Q) → OnOkOrNoMemory result P → OnOkOrNoMemory result Q
memory_then P Q (Ok x) follows holds = follows holds
memory_then P Q (Err NotAStore) follows holds = tt
memory_then P Q (Err Device) follows holds = tt
memory_then P Q (Err (Pair e)) follows holds = tt
memory_then P Q (Err (Journal e)) follows holds = tt
memory_then P Q (Err NoMemory) follows holds = follows holds

-- the same for a result that returns the error of another
pub memory_on : (S T : Type 0) (P Q : Type 0) (e : OpenError) → (P → Q) → OnOkOrNoMemory {T = S} (Err e) P → OnOkOrNoMemory {T = T} (Err e) Q
memory_on S T P Q NotAStore follows holds = tt
memory_on S T P Q Device follows holds = tt
memory_on S T P Q (Pair e) follows holds = tt
memory_on S T P Q (Journal e) follows holds = tt
memory_on S T P Q NoMemory follows holds = follows holds

-- an error other than `NoMemory`
pub memory_not : (T : Type 0) (P : Type 0) (e : OpenError) → e ≢ NoMemory → OnOkOrNoMemory {T = T} (Err e) P
memory_not T P NotAStore not = tt
memory_not T P Device not = tt
memory_not T P (Pair e) not = tt
memory_not T P (Journal e) not = tt
memory_not T P NoMemory not = absurd (not refl)

-- whether a half's head was seen is whether its gate is open
seen_open : (opened : Bool) (head : Result HeadView PairRefusal) (seen : Option Head) → head_behind opened head ≡ Ok (head_seen seen) → is_some seen ≡ opened
seen_open false head None is = refl
seen_open false head (Some one) is = absurd cc
seen_open true (Err refusal) seen is = absurd cc
seen_open true (Ok head) None is = absurd cc
seen_open true (Ok head) (Some one) is = refl

pub head_open : (geometry : laws.Geometry) (half : Half) (image : List ℕ) (heads : Heads) → HasHeads geometry image heads → is_some (head_at half heads) ≡ is_open_gate (gate_of geometry half image)
head_open geometry First image heads has = seen_open (is_open_gate (gate_of geometry First image)) _ heads.first has.first
head_open geometry Second image heads has = seen_open (is_open_gate (gate_of geometry Second image)) _ heads.second has.second

-- The tail: its half, and its reading.
module _ (geometry : laws.Geometry) (half : Half) (checkpoint : Checkpoint (List RowView)) (front : Reading Command) (behind : Result (Reading Command) JournalRefusal) where
  abbrev alone : Opening (List RowView) Command
  alone = with_tail_seen geometry half checkpoint front None

  by_half_refused : (e : PairError) (sealed opened : Bool) → ReadsPair {X = Half} (λ h. h) (Err e) (half_with_tail half sealed opened) → RefusesOpening (error_of_pair e) (behind_journal sealed opened alone behind)
  by_half_refused e false opened so = absurd so
  by_half_refused e true false so = absurd so
  by_half_refused e true true so =
      subst (λ (p : PairError). RefusesOpening (error_of_pair p) (behind_journal true true alone behind)) (sym so) (record { refusal = BadPair SealedNewer; is = refl; told = refl })

  pub tail_half_refused : (e : PairError) (sealed seen opened : Bool) → seen ≡ opened → ReadsPair {X = Half} (λ h. h) (Err e) (half_with_tail half sealed seen)
      → RefusesOpening (error_of_pair e) (behind_journal sealed opened alone behind)
  tail_half_refused e sealed seen opened same so =
      subst (λ (b : Bool). RefusesOpening (error_of_pair e) (behind_journal sealed b alone behind)) same (by_half_refused e sealed seen so)

  -- without a seal there is no tail
  pub no_tail : (sealed opened : Bool) → sealed ≡ false → behind_journal sealed opened alone behind ≡ Ok alone
  no_tail sealed opened unsealed = ap (λ (b : Bool). behind_journal b opened alone behind) unsealed

  -- after a seal the tail is in the other half, which is closed
  by_half_there : (at : Half) (opened : Bool) → ReadsPair (λ (h : Half). h) (Ok at) (half_with_tail half true opened) → (at ≡ other half) × (behind_journal true opened alone behind ≡ read_tail alone behind)
  by_half_there at true so = absurd so
  by_half_there at false so = (sym so, refl)

  pub tail_there : (at : Half) (sealed seen opened : Bool) → seen ≡ opened → sealed ≡ true → ReadsPair (λ (h : Half). h) (Ok at) (half_with_tail half sealed seen)
      → (at ≡ other half) × (behind_journal sealed opened alone behind ≡ read_tail alone behind)
  tail_there at sealed seen opened same is so =
      let there = by_half_there at seen (subst (λ (b : Bool). ReadsPair (λ (h : Half). h) (Ok at) (half_with_tail half b seen)) is so) in
      (there.0, (λ i. behind_journal (is i) (sym same i) alone behind) ∙ there.1)

  -- a tail that is sealed is refused
  pub tail_sealed : (tail : Scan) → behind ≡ Ok (reading_of tail) → tail.sealed ≡ true → read_tail alone behind ≡ Err (BadPair SealedNewer)
  tail_sealed tail is sealed = ap (read_tail alone) is ∙ by_seal tail.sealed sealed
    where
      by_seal : (b : Bool) → b ≡ true → with_tail alone b (reading_of tail) ≡ Err (BadPair SealedNewer)
      by_seal b so = ap (λ (x : Bool). with_tail alone x (reading_of tail)) so

  pub tail_found : (tail : Scan) → behind ≡ Ok (reading_of tail) → tail.sealed ≡ false → read_tail alone behind ≡ Ok (with_tail_seen geometry half checkpoint front (Some tail))
  tail_found tail is sealed =
      ap (read_tail alone) is ∙ ap (λ (x : Bool). with_tail alone x (reading_of tail)) sealed

-- The tail of an image with these heads, for any result.
module _ (geometry : laws.Geometry) (half : Half) (checkpoint : Checkpoint (List RowView)) (front : Reading Command) (reads : List ℕ) (heads : Heads) (has : HasHeads geometry reads heads) where
  abbrev sees : Option Scan → Opening (List RowView) Command
  sees tail = with_tail_seen geometry half checkpoint front tail

  abbrev behind_seal : Result (Reading Command) JournalRefusal
  behind_seal = journal_from store_format checkpoint geometry (other half) reads front.place

  abbrev tail_reading : Result (Opening (List RowView) Command) OpenRefusal
  tail_reading = behind_journal front.sealed (is_open_gate (gate_of geometry (other half) reads)) (sees None) behind_seal

  abbrev scan_at : Half → Result (Reading Command) JournalRefusal
  scan_at at = journal_scan command_format (limits_of checkpoint.head.version) (journal_of geometry at reads) front.place

  abbrev StandsAt : Result Half PairError → Type 0
  StandsAt answer = ReadsPair {X = Half} (λ h. h) answer (half_with_tail half front.sealed (is_some (head_at (other half) heads)))

  pub refused_by_half : (result : Result (Option Scan) OpenError) (e : PairError) → result ≡ Err (error_of_pair e) → StandsAt (Err e) → OpensSo sees result tail_reading
  refused_by_half result e is so =
      subst (λ (r : Result (Option Scan) OpenError). OpensSo sees r tail_reading) (sym is)
      (tail_half_refused geometry half checkpoint front behind_seal e front.sealed (is_some (head_at (other half) heads)) (is_open_gate (gate_of geometry (other half) reads))
      (head_open geometry (other half) reads heads has) so)

  pub none_behind : front.sealed ≡ false → tail_reading ≡ Ok (sees None)
  none_behind unsealed = no_tail geometry half checkpoint front behind_seal front.sealed (is_open_gate (gate_of geometry (other half) reads)) unsealed

  module _ (at : Half) (sealed : front.sealed ≡ true) (so : StandsAt (Ok at)) where
    there : (at ≡ other half) × (tail_reading ≡ read_tail (sees None) behind_seal)
    there = tail_there geometry half checkpoint front behind_seal at front.sealed (is_some (head_at (other half) heads)) (is_open_gate (gate_of geometry (other half) reads))
        (head_open geometry (other half) reads heads has) sealed so

    pub refused_by_scan : (result : Result (Option Scan) OpenError) (e : OpenError) → result ≡ Err e → ScansSo (Err e) (scan_at at) → OpensSo sees result tail_reading
    refused_by_scan result e is scans =
        subst (λ (r : Result (Option Scan) OpenError). OpensSo sees r tail_reading) (sym is)
        (refused_same (Opening (List RowView) Command) e (read_tail (sees None) behind_seal) tail_reading (sym there.1)
        (scan_so e (read_tail (sees None)) behind_seal (λ refusal. refl) (subst (λ (h : Half). ScansSo (Err e) (scan_at h)) there.0 scans)))

    pub sealed_twice : (tail : Scan) → scan_at at ≡ Ok (reading_of tail) → tail.sealed ≡ true → RefusesOpening (Pair pair.SealedNewer) tail_reading
    sealed_twice tail scans twice = record {
      refusal = BadPair SealedNewer;
      is = there.1 ∙ tail_sealed geometry half checkpoint front behind_seal tail (ap scan_at (sym there.0) ∙ scans) twice;
      told = refl;
    }

    pub found_behind : (tail : Scan) → scan_at at ≡ Ok (reading_of tail) → tail.sealed ≡ false → tail_reading ≡ Ok (sees (Some tail))
    found_behind tail scans once = there.1 ∙ tail_found geometry half checkpoint front behind_seal tail (ap scan_at (sym there.0) ∙ scans) once
