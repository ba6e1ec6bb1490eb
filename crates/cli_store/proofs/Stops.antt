-- What a stop within an upgrade leaves: first what `open` leaves, and then what a checkpoint does.
use Rattle.std.proofs.Common.{◌≡◌, inl, inr, ℕ, List, Result, Ok, Err, IfOk, IfErr, refl, sym, ◌∙◌, subst}
use Rattle.sector_dev.specs.Disk.{Disk, IsHonest, reads_of}
use Rattle.sector_dev.specs.Image.{IsImage, IsFromImage}
use Rattle.sector_dev.specs.Stretch.{Stretch}
use Rattle.sector_dev.proofs.Stretches.{honest_before, at_exit, stretch_here, stretch_then, stretch_weaker, stretch_both, from_here, stretch_honest}
use Rattle.store_layout.specs.Layout.{Geometry}
use Rattle.store_layout.specs.Opening.{opening_value}
use Rattle.store_open.specs.Behind.{SameBehind}
use Rattle.store_open.specs.Open.{OpensAlike, IsOpened}
use Rattle.store_open.specs.PathStores.{store_format}
use Rattle.store_open.specs.Store.{StoreView, IsAtRest, OpensToStore}
use Rattle.store_open.specs.StoreShape.{IsStoreWhole}
use Rattle.store_open.proofs.Rests.{opened_as_behind}
use Rattle.cli_store.specs.Devices.{device_after}
use Rattle.cli_store.specs.Stops.{StandsForTheSame, KeepsItsStore}
use Rattle.cli_store.specs.declared.error.Fault.{Fault}
use Rattle.cli_store.specs.declared.error.Fault.TheVariants.{Output}

-- what opens alike represents the same
same_store : (before behind : List ℕ) → OpensAlike before behind → StandsForTheSame before behind
same_store before behind (inl same) = inl same
same_store before behind (inr both) =
    inr
    (record {
      rows = (opening_value store_format both.opening).db;
      place = (opening_value store_format both.opening).place;
      before_is = record { opening = both.opening; is = both.opens_before; stands_for = refl };
      behind_is = record { opening = both.opening; is = both.opens_behind; stands_for = refl };
      beyond = both.beyond;
    })

pub opened_moments : (start mid : Disk) → Stretch start mid (IsFromImage start.history.now OpensAlike) → KeepsItsStore start mid
opened_moments start mid so =
    stretch_weaker (IsFromImage start.history.now OpensAlike) (IsFromImage start.history.now StandsForTheSame) start mid
    (λ content from. record { before = from.before; image = from.image; related = same_store from.before content from.related })
    so

-- a store of which nothing is done
pub store_stays : (store : StoreView) → IsStoreWhole store → Stretch store.disk store.disk (OpensToStore store)
store_stays store whole = stretch_here (OpensToStore store) store.disk (λ honest. (whole.sound honest).every)

-- nor of what is behind it
pub rest_stays : (store : StoreView) → Stretch store.disk store.disk (IsFromImage store.disk.history.now (SameBehind store.geometry))
rest_stays store = from_here (SameBehind store.geometry) store.disk (λ content at n far. refl)

-- Behind an opening, what opens to the store represents what an image opened to before it.
module _ (start new : Disk) (store : StoreView) (opening : Stretch start store.disk (IsFromImage start.history.now OpensAlike)) (opened : IsHonest start → IsOpened (reads_of start) store) where
  abbrev OfStore : List ℕ → Type 0
  OfStore content = OpensToStore store content × IsFromImage store.disk.history.now (SameBehind store.geometry) content

  across : (rest : IsAtRest store) (before mid content : List ℕ) → OpensAlike before mid → IsImage store.disk.history.now mid → OpensToStore store content → SameBehind store.geometry mid content → StandsForTheSame before content
  across rest before mid content alike image opens beyond =
      let was = opened_as_behind before mid alike rest.opening (rest.every mid image) in
      inr
      (record {
        rows = store.rows;
        place = store.place;
        before_is = record { opening = rest.opening; is = was.0; stands_for = rest.tells.value };
        behind_is = opens.opens;
        beyond = λ at n far. subst (λ (g : Geometry). SameBehind g mid content) (sym rest.tells.geometry) beyond at n far ∙ was.1 at n far;
      })

  meanwhile : IsHonest start → (content : List ℕ) → OfStore content → IsFromImage start.history.now StandsForTheSame content
  meanwhile honest content of_store =
      let from = of_store.1 in
      let earlier = at_exit (IsFromImage start.history.now OpensAlike) start store.disk opening honest from.before from.image in
      record {
        before = earlier.before;
        image = earlier.image;
        related = across (opened honest).rest earlier.before from.before content earlier.related from.image of_store.0 from.related;
      }

  pub then_moments : Stretch store.disk new (OpensToStore store) → Stretch store.disk new (IsFromImage store.disk.history.now (SameBehind store.geometry)) → KeepsItsStore start new
  then_moments opens beyond =
      stretch_then (IsFromImage start.history.now StandsForTheSame) start store.disk new (opened_moments start store.disk opening)
      (stretch_honest OfStore (IsFromImage start.history.now StandsForTheSame) store.disk new (λ honest_mid. meanwhile (honest_before start store.disk opening.keeps honest_mid))
      (stretch_both (OpensToStore store) (IsFromImage store.disk.history.now (SameBehind store.geometry)) store.disk new opens beyond))

-- the device that comes back with the print's answer
pub printed_moments : {D : Type 0} (disk : D → Disk) (start : Disk) (device : D) → KeepsItsStore start (disk device) → (r : Result D (D × Fault)) → IfOk r (λ after. after ≡ device)
    → IfErr r (λ back. (back.0 ≡ device) × (back.1 ≡ Output)) → KeepsItsStore start (disk (device_after r))
printed_moments disk start device so (Ok after) same same_too = subst (λ d. KeepsItsStore start (disk d)) (sym same) so
printed_moments disk start device so (Err back) same same_too = subst (λ d. KeepsItsStore start (disk d)) (sym same_too.0) so
