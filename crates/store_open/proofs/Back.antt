-- A device that is not opened comes back.
use Rattle.std.proofs.Common.{◌≡◌, inr, ℕ, List, Result, Ok, Err, IfOk, refl, sym, ◌∙◌, ap, subst}
use Rattle.std.specs.Result.{IfErr}
use Rattle.sector_dev.specs.Disk.{Disk, IsHonest, reads_of, after_sync}
use Rattle.sector_dev.specs.Calls.{one_more, SyncCall}
use Rattle.sector_dev.proofs.Parts.{reads_synced}
use Rattle.sector_dev.proofs.Stretches.{honest_after}
use Rattle.store_layout.specs.OpeningReading.{opening_of}
use Rattle.store_layout.specs.Limits.{latest}
use Rattle.store_open.specs.declared.error.OpenError.{OpenError}
use Rattle.store_open.specs.declared.error.OpenError.TheVariants.{NotAStore, Device, Pair, Journal, NoMemory}
use Rattle.store_open.specs.declared.folded.Folded.{Folded}
use Rattle.store_open.specs.declared.opening.Found.{Found}
use Rattle.store_open.specs.Closing.{synced_by}
use Rattle.store_open.specs.Folded.{store_on}
use Rattle.store_open.specs.Open.{RefusesOpening, WantsMemoryToOpen, HasNothingToClose, OnlySyncs, IsNoFault, IsOpened, ComesBack}
use Rattle.store_open.specs.PathStores.{store_format}
use Rattle.store_open.specs.Refusals.{faults_after, LooksFor, OnOkOrNoMemory}

-- an error of what was read, and what it says
faults_alike : (S T : Type 0) (e : OpenError) (faults : ℕ) → faults_after {T = S} (Err e) faults ≡ faults_after {T = T} (Err e) faults
faults_alike S T NotAStore faults = refl
faults_alike S T Device faults = refl
faults_alike S T (Pair e) faults = refl
faults_alike S T (Journal e) faults = refl
faults_alike S T NoMemory faults = refl

pub back_looked : (e : OpenError) (old new : Disk) → LooksFor {T = Found} (Err e) old new → (IsHonest old → RefusesOpening e (opening_of store_format latest (reads_of old)))
    → (IsHonest old → OnOkOrNoMemory {T = Found} (Err e) (WantsMemoryToOpen (reads_of old))) → ComesBack e old new
back_looked e old new looks refused memory = record {
  refused = refused;
  memory = λ honest is. subst (λ (x : OpenError). OnOkOrNoMemory {T = Found} (Err x) (WantsMemoryToOpen (reads_of old))) is (memory honest);
  faults = looks.faults ∙ faults_alike Found (Unit {0}) e old.faults;
}

-- want of memory behind it
pub back_without_memory : (old new : Disk) → new.faults ≡ old.faults → (IsHonest old → WantsMemoryToOpen (reads_of old)) → ComesBack NoMemory old new
back_without_memory old new faults memory = record { refused = λ honest. tt; memory = λ honest is. memory honest; faults = faults }

-- a call that failed
pub back_failed : (old new : Disk) → new.faults ≡ one_more old.faults → ComesBack Device old new
back_failed old new faults = record { refused = λ honest. tt; memory = λ honest is. absurd cc; faults = faults }

pub back_so : (result : Result Folded OpenError) (e : OpenError) (old new : Disk) → result ≡ Err e → ComesBack e old new → IfErr result (λ x. ComesBack x old new)
back_so result e old new is back = subst (λ (r : Result Folded OpenError). IfErr r (λ x. ComesBack x old new)) (sym is) back

-- nothing was written before a refusal, whatever it is; or it is the device's
pub untouched_so : (result : Result Folded OpenError) (old new : Disk) → (IsHonest old → new.history ≡ old.history) → IfErr result (λ e. IsHonest old → IsNoFault e → new.history ≡ old.history)
untouched_so (Ok folded) old new same = tt
untouched_so (Err e) old new same = λ honest other. same honest

pub faulty_so : (result : Result Folded OpenError) (old new : Disk) → result ≡ Err Device → IfErr result (λ e. IsHonest old → IsNoFault e → new.history ≡ old.history)
faulty_so result old new is =
    subst (λ (r : Result Folded OpenError). IfErr r (λ e. IsHonest old → IsNoFault e → new.history ≡ old.history)) (sym is) (λ honest other. absurd (other refl))

-- the sync failed
pub sync_failed : (result : Result Folded OpenError) (start mid : Disk) → result ≡ Err Device → IfErr result (λ e. IsHonest start → IsNoFault e → mid.history ≡ after_sync start.history)
sync_failed result start mid is =
    subst (λ (r : Result Folded OpenError). IfErr r (λ e. IsHonest start → IsNoFault e → mid.history ≡ after_sync start.history)) (sym is) (λ honest other. absurd (other refl))

-- ---- behind a sync that succeeded

module _ (start mid new : Disk) {S F : Type 0} (answer : Result S F) (call : SyncCall answer start mid) (faults : mid.faults ≡ start.faults) where
  honest_then : IsHonest start → IsHonest mid
  honest_then honest = honest_after start mid call.keeps honest

  still_nothing : IsHonest start → HasNothingToClose (reads_of start) → HasNothingToClose (reads_of mid)
  still_nothing honest nothing = subst HasNothingToClose (sym (reads_synced answer start mid call honest)) nothing

  since_sync : (e : OpenError) → ComesBack e mid new → ComesBack e start new
  since_sync e back = record {
    refused = λ honest. subst (λ (list : List ℕ). RefusesOpening e (opening_of store_format latest list)) (reads_synced answer start mid call honest) (back.refused (honest_then honest));
    memory = λ honest is. subst WantsMemoryToOpen (reads_synced answer start mid call honest) (back.memory (honest_then honest) is);
    faults = back.faults ∙ ap (faults_after {T = Unit {0}} (Err e)) faults;
  }

  pub back_since : (result : Result Folded OpenError) → IfErr result (λ e. ComesBack e mid new) → IfErr result (λ e. ComesBack e start new)
  back_since (Ok folded) back = tt
  back_since (Err e) back = since_sync e back

  pub faults_since : (result : Result Folded OpenError) → IfOk result (λ folded. new.faults ≡ mid.faults) → IfOk result (λ folded. new.faults ≡ start.faults)
  faults_since (Ok folded) same = same ∙ faults
  faults_since (Err e) same = tt

  pub opened_since : (result : Result Folded OpenError) → IfOk result (λ folded. IsHonest mid → IsOpened (reads_of mid) (store_on new folded))
      → IfOk result (λ folded. IsHonest start → IsOpened (reads_of start) (store_on new folded))
  opened_since (Ok folded) so = λ honest. subst (λ (list : List ℕ). IsOpened list (store_on new folded)) (reads_synced answer start mid call honest) (so (honest_then honest))
  opened_since (Err e) so = tt

  pub only_syncs : (result : Result Folded OpenError) → (IsHonest start → mid.history ≡ after_sync start.history) → (IsHonest mid → HasNothingToClose (reads_of mid) → new.history ≡ synced_by result mid.history)
      → IsHonest start → HasNothingToClose (reads_of start) → OnlySyncs result start.history new.history
  only_syncs (Ok folded) synced unwritten honest nothing = unwritten (honest_then honest) (still_nothing honest nothing) ∙ ap after_sync (synced honest)
  only_syncs (Err e) synced unwritten honest nothing = inr (unwritten (honest_then honest) (still_nothing honest nothing) ∙ synced honest)

  pub untouched_since : (result : Result Folded OpenError) → (IsHonest start → mid.history ≡ after_sync start.history) → IfErr result (λ e. IsHonest mid → IsNoFault e → new.history ≡ mid.history)
      → IfErr result (λ e. IsHonest start → IsNoFault e → new.history ≡ after_sync start.history)
  untouched_since (Ok folded) synced same = tt
  untouched_since (Err e) synced same = λ honest other. same (honest_then honest) other ∙ synced honest

-- ---- what is looked at alone

pub memory_alike : (result : Result Folded OpenError) (e : OpenError) (P : Type 0) → result ≡ Err e → OnOkOrNoMemory {T = Found} (Err e) P → OnOkOrNoMemory result P
memory_alike result e P is so = subst (λ (r : Result Folded OpenError). OnOkOrNoMemory r P) (sym is) (alike_in e so) where
  alike_in : (e : OpenError) → OnOkOrNoMemory {T = Found} (Err e) P → OnOkOrNoMemory {T = Folded} (Err e) P
  alike_in NotAStore so = tt
  alike_in Device so = tt
  alike_in (Pair e) so = tt
  alike_in (Journal e) so = tt
  alike_in NoMemory so = so
