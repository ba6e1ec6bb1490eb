-- A store that was opened and had a checkpoint made, if it was of version 1, is in the version that
-- is written.
use Rattle.std.proofs.Common.{◌≡◌, inl, inr, ℕ, ◌≤◌, List, Option, Result, Ok, Err, IfOk, IfErr, OnErr, ap, sym, subst, ◌∙◌, arith}
use Rattle.sector_dev.specs.Disk.{Disk, IsHonest, reads_of}
use Rattle.store_layout.specs.Checkpoint.{Head}
use Rattle.store_layout.specs.Limits.{latest}
use Rattle.store_open.specs.Open.{IsOpened}
use Rattle.store_open.specs.PathStores.{IsStoreOf}
use Rattle.store_open.specs.Store.{StoreView}
use Rattle.cli_store.specs.declared.error.Fault.{Fault}
use Rattle.cli_store.specs.declared.error.Fault.TheVariants.{Output}
use Rattle.cli_store.specs.Text.{version_line}
use Rattle.whole_writes.specs.Written.{IsWrittenInPart}
use Rattle.cli_store.specs.Upgrading.{BecomesLatest, IsUpgraded, FailsToUpgrade}

-- what reads gave opens to what the store has
pub stands_for : (reads : List ℕ) (store : StoreView) → IsOpened reads store → IsStoreOf store.rows store.place reads
stands_for reads store opened = record { opening = opened.rest.opening; is = opened.same; stands_for = opened.rest.tells.value }

-- the store's version is 1 or the latest
some_version : (reads : List ℕ) (store : StoreView) → IsOpened reads store → 1 ≤ store.head.version
some_version reads store opened = subst (λ (head : Head). 1 ≤ head.version) opened.rest.tells.head opened.same.half.begins.can.head.some

known_version : (reads : List ℕ) (store : StoreView) → IsOpened reads store → store.head.version ≤ latest
known_version reads store opened = subst (λ (head : Head). head.version ≤ latest) opened.rest.tells.head opened.same.half.known

pub upgraded : (old new : Disk) (store after : StoreView) → IsOpened (reads_of old) store → IsHonest store.disk
    → BecomesLatest (Ok tt) store after → after.disk ≡ new → IsUpgraded old new
upgraded old new store after opened honest (inl stays) device = record {
  store = store;
  device = ap (λ (s : StoreView). s.disk) (sym stays.1) ∙ device;
  version = omega (arith, stays.0, some_version (reads_of old) store opened, known_version (reads_of old) store opened);
  rest = opened.rest;
  same = stands_for (reads_of old) store opened;
}
upgraded old new store after opened honest (inr made) device = record {
  store = after;
  device = device;
  version = ap (λ (s : StoreView). s.head.version) made.1.1;
  rest = made.1.3 honest;
  same = subst (λ (s : StoreView). IsStoreOf s.rows s.place (reads_of old)) (sym made.1.1) (stands_for (reads_of old) store opened);
}

module _ {D : Type 0} (disk : D → Disk) (old : Disk) (device : D) (up : IsHonest old → IsUpgraded old (disk device)) where
  pub printed : (r : Result D (D × Fault)) → IfOk r (λ after. after ≡ device) → IfOk r (λ after. IsHonest old → IsUpgraded old (disk after))
  printed (Ok after) same = subst (λ (d : D). IsHonest old → IsUpgraded old (disk d)) (sym same) up
  printed (Err back) same = same

  pub not_printed : (output output_left : Option (List ℕ)) (r : Result D (D × Fault)) → IfErr r (λ back. (back.0 ≡ device) × (back.1 ≡ Output))
      → OnErr r (IsWrittenInPart output output_left version_line) → IfErr r (λ back. FailsToUpgrade back.1 old (disk back.0) output output_left)
  not_printed output output_left (Ok after) same part = same
  not_printed output output_left (Err back) same part =
      subst (λ (fault : Fault). FailsToUpgrade fault old (disk back.0) output output_left) (sym same.1)
      (subst (λ (d : D). IsHonest old → IsUpgraded old (disk d)) (sym same.0) up, part)
