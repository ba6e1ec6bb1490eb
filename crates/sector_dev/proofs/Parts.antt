-- The effect of one call of an honest device, and its effect on a part outside of its range,
-- whatever the call returned. For the crates above.
use Rattle.std.proofs.Common.{◌≡◌, ◌⊎◌, inl, inr, ℕ, ◌+◌, ◌*◌, ◌≤◌, List, length, sym, ◌∙◌, ap, subst, arith, Result, Ok, Err}
use Rattle.byte_lists.specs.Content.{part}
use Rattle.sector_dev.specs.Disk.{History, Disk, IsHonest, reads_of, after_write, after_sync}
use Rattle.sector_dev.specs.Image.{IsCleanPart}
use Rattle.sector_dev.specs.Calls.{ReadCall, WriteCall, SyncCall}
use Rattle.sector_dev.proofs.Results.{success}
use Rattle.byte_lists.proofs.Contents.{part_below, part_above}
use Rattle.sector_dev.proofs.Images.{clean_part_none, clean_part_beside}

-- After a write that succeeded, these bytes landed.
pub history_written : {T : Type 0} (E : Type 0) (u : T) (sector : ℕ) (bytes : List ℕ) (old new : Disk) → WriteCall sector bytes (success E u) old new → IsHonest old → new.history ≡ after_write (512 * sector) bytes old.history
history_written E u sector bytes old new call honest =
    let lands = call.lands honest in
    lands.history ∙ ap (λ (landed : List ℕ). after_write (512 * sector) landed old.history) lands.done

-- After a sync that succeeded, nothing is dirty.
pub history_synced : {T : Type 0} (E : Type 0) (u : T) (old new : Disk) → SyncCall (success E u) old new → IsHonest old → new.history ≡ after_sync old.history
history_synced E u old new call honest = call.done honest

-- A read changes nothing.
pub reads_read : {T E : Type 0} (sector : ℕ) (into : List ℕ) (result : Result T E) (old new : Disk) → ReadCall sector into result old new → IsHonest old → reads_of new ≡ reads_of old
reads_read sector into result old new call honest = ap (λ (h : History). h.now.reads) (call.history honest)

pub clean_part_read : {T E : Type 0} (sector : ℕ) (into : List ℕ) (result : Result T E) (old new : Disk) (at n : ℕ) → ReadCall sector into result old new → IsHonest old → IsCleanPart old.history.now.dirty at n → IsCleanPart new.history.now.dirty at n
clean_part_read sector into result old new at n call honest clean = subst (λ (h : History). IsCleanPart h.now.dirty at n) (sym (call.history honest)) clean

-- A sync does not change what reads return, and makes nothing dirty.
pub reads_synced : {T E : Type 0} (result : Result T E) (old new : Disk) → SyncCall result old new → IsHonest old → reads_of new ≡ reads_of old
reads_synced (Ok _) old new call honest = ap (λ (h : History). h.now.reads) (call.done honest)
reads_synced (Err _) old new call honest = ap (λ (h : History). h.now.reads) (call.unchanged honest)

pub clean_part_synced : {T E : Type 0} (result : Result T E) (old new : Disk) (at n : ℕ) → SyncCall result old new → IsHonest old → IsCleanPart old.history.now.dirty at n → IsCleanPart new.history.now.dirty at n
clean_part_synced (Ok _) old new at n call honest clean = subst (λ (h : History). IsCleanPart h.now.dirty at n) (sym (call.done honest)) (clean_part_none at n)
clean_part_synced (Err _) old new at n call honest clean = subst (λ (h : History). IsCleanPart h.now.dirty at n) (sym (call.unchanged honest)) clean

-- A write changes no part outside of its range.
module _ {T E : Type 0} (sector : ℕ) (bytes : List ℕ) (result : Result T E) (old new : Disk) (at n : ℕ) (call : WriteCall sector bytes result old new) (honest : IsHonest old) where
  pub part_written : 512 * sector + length bytes ≤ length (reads_of old) → (512 * sector + length bytes ≤ at) ⊎ (at + n ≤ 512 * sector) → part at n (reads_of new) ≡ part at n (reads_of old)
  part_written inside (inl above) =
      let lands = call.lands honest in
      ap (λ (h : History). part at n h.now.reads) lands.history
      ∙ part_above (512 * sector) lands.landed (reads_of old) at n (omega (arith, lands.size)) (omega (arith, lands.size))
  part_written inside (inr below) =
      let lands = call.lands honest in
      ap (λ (h : History). part at n h.now.reads) lands.history
      ∙ part_below (512 * sector) lands.landed (reads_of old) at n (omega (arith, lands.size)) below

  pub clean_part_written : (512 * sector + length bytes ≤ at) ⊎ (at + n ≤ 512 * sector) → IsCleanPart old.history.now.dirty at n → IsCleanPart new.history.now.dirty at n
  clean_part_written apart clean =
      let lands = call.lands honest in
      subst (λ (h : History). IsCleanPart h.now.dirty at n) (sym lands.history)
      (clean_part_beside (512 * sector) (length lands.landed) old.history.now.dirty at n (beside lands.landed lands.size apart) clean)
    where
      beside : (landed : List ℕ) → length landed ≡ length bytes → (512 * sector + length bytes ≤ at) ⊎ (at + n ≤ 512 * sector) → (512 * sector + length landed ≤ at) ⊎ (at + n ≤ 512 * sector)
      beside landed size (inl above) = inl (omega (arith, size))
      beside landed size (inr below) = inr below
