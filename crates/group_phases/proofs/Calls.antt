-- What one call of an honest device leaves.
use Rattle.std.proofs.Common.{inl, inr, ℕ, ◌+◌, ◌*◌, ◌≤◌, List, length, refl, sym, ◌∙◌, ap, subst, arith, Result, Ok, Err}
use Rattle.byte_lists.specs.Content.{part}
use Rattle.byte_lists.proofs.Contents.{length-overwrite, overwrite_before, overwrite_behind, part_new}
use Rattle.sector_dev.specs.Disk.{History, Disk, IsHonest, reads_of, after_write}
use Rattle.sector_dev.specs.Image.{IsCleanPart, IsImage, EveryImage}
use Rattle.sector_dev.specs.Calls.{WriteCall, SyncCall}
use Rattle.sector_dev.specs.Stretch.{Stretch}
use Rattle.sector_dev.proofs.Images.{clean_none, clean_beside, clean_part_none}
use Rattle.sector_dev.proofs.Parts.{history_written, history_synced}
use Rattle.sector_dev.proofs.Stretches.{honest_after, leaves_written, stretch_sync, stretch_here}
use Rattle.group_phases.specs.Range.{Untouched, AreRangesApart, IsLeftAround}
use Rattle.group_phases.specs.RangeLaws.{WritesLeaveWhatIsBeside, WritesAreRead, SyncsLeaveAll, SyncsSettle, WritesAreOneMoment, SyncsAreNoMoment}

-- whatever landed
pub landed_beside : (history : History) (from : ℕ) (landed : List ℕ) (at n : ℕ) → from + length landed ≤ length history.now.reads
    → AreRangesApart from (length landed) at n → Untouched at n history.now (after_write from landed history).now
landed_beside history from landed at n inside (inl before) = record {
  size = length-overwrite from landed history.now.reads inside;
  bytes = λ i low high. overwrite_behind from landed history.now.reads i inside (omega arith);
  clean = λ i low high clean. clean_beside from (length landed) history.now.dirty i (λ _. omega arith) clean;
}
landed_beside history from landed at n inside (inr behind) = record {
  size = length-overwrite from landed history.now.reads inside;
  bytes = λ i low high. overwrite_before from landed history.now.reads i (omega arith) (omega arith);
  clean = λ i low high clean. clean_beside from (length landed) history.now.dirty i (λ met. absurd (omega arith)) clean;
}

pub writes_leave_what_is_beside : (T E : Type 0) → WritesLeaveWhatIsBeside T E
writes_leave_what_is_beside T E sector bytes result old new at n call honest inside apart =
    let lands = call.lands honest in
    subst (λ (h : History). Untouched at n old.history.now h.now) (sym lands.history)
    (landed_beside old.history (512 * sector) lands.landed at n (omega (arith, lands.size))
    (subst (λ (k : ℕ). AreRangesApart (512 * sector) k at n) (sym lands.size) apart))

pub writes_are_read : (T E : Type 0) → WritesAreRead T E
writes_are_read T E value sector bytes old new call honest inside =
    ap (λ (h : History). part (512 * sector) (length bytes) h.now.reads) (history_written E value sector bytes old new call honest)
    ∙ part_new (512 * sector) bytes (reads_of old) inside

pub syncs_leave_all : (T E : Type 0) → SyncsLeaveAll T E
syncs_leave_all T E (Ok value) old new at n call honest =
    subst (λ (h : History). Untouched at n old.history.now h.now) (sym (call.done honest))
    (record { size = refl; bytes = λ i low high. refl; clean = λ i low high clean. clean_none i })
syncs_leave_all T E (Err error) old new at n call honest =
    subst (λ (h : History). Untouched at n old.history.now h.now) (sym (call.unchanged honest))
    (record { size = refl; bytes = λ i low high. refl; clean = λ i low high clean. clean })

pub syncs_settle : (T E : Type 0) → SyncsSettle T E
syncs_settle T E value old new at content call honest reads = record {
  reads = ap (λ (h : History). part at (length content) h.now.reads) (history_synced E value old new call honest) ∙ reads;
  clean = subst (λ (h : History). IsCleanPart h.now.dirty at (length content)) (sym (history_synced E value old new call honest)) (clean_part_none at (length content));
}

-- a write is one moment: what holds of every image before it and after it holds at all moments
pub write_moments : {T E : Type 0} (P : List ℕ → Type 0) (sector : ℕ) (bytes : List ℕ) (result : Result T E) (old new : Disk) → WriteCall sector bytes result old new
    → (IsHonest old → EveryImage old.history.now P) → (IsHonest new → EveryImage new.history.now P) → Stretch old new P
write_moments P sector bytes result old new call before after = record {
  keeps = call.keeps;
  leaves = λ honest. let lands = call.lands honest in
      leaves_written P old.history new.history (512 * sector) lands.landed lands.history (before honest)
      (subst (λ (h : History). EveryImage h.now P) lands.history (after (honest_after old new call.keeps honest)));
}

-- a sync only takes images away
pub sync_moments : {T E : Type 0} (P : List ℕ → Type 0) (result : Result T E) (old new : Disk) → SyncCall result old new → (IsHonest old → EveryImage old.history.now P) → Stretch old new P
sync_moments {T} {E} P result old new call before = stretch_sync P old old new result (stretch_here P old before) call

pub writes_are_one_moment : (T E : Type 0) → WritesAreOneMoment T E
writes_are_one_moment T E sector bytes result old new call =
    write_moments (IsLeftAround old new) sector bytes result old new call (λ honest image is. inl is) (λ honest image is. inr is)

pub syncs_are_no_moment : (T E : Type 0) → SyncsAreNoMoment T E
syncs_are_no_moment T E result old new call = sync_moments (IsImage old.history.now) result old new call (λ honest image is. is)
