-- The result of opening a device with a store.
use Rattle.std.proofs.Common.{◌≡◌, inl, inr, ℕ, List, [], Ok, refl, sym, ◌∙◌, subst}
use Rattle.row_map.specs.Database.{RowView}
use Rattle.path_db.specs.declared.command.Command.{Command}
use Rattle.sector_dev.specs.Disk.{Disk, IsHonest, IsWhole, reads_of}
use Rattle.sector_dev.specs.Image.{EveryImage, IsFromImage}
use Rattle.sector_dev.specs.Stretch.{Stretch}
use Rattle.sector_dev.proofs.Images.{image_of_reads}
use Rattle.sector_dev.proofs.Stretches.{stretch_here, stretch_honest}
use Rattle.store_layout.specs.Opening.{StoreValue, Opening, OpensTo, opening_value}
use Rattle.store_layout.specs.OpeningReading.{opening_of}
use Rattle.store_layout.proofs.Exports.{has_one_value, opening_read}
use Rattle.store_layout.specs.Limits.{latest}
use Rattle.store_open.specs.Open.{RefusesOpening, IsErrorOfReading, OpensAlike, IsOpened, ComesBack}
use Rattle.store_open.specs.PathStores.{store_format}
use Rattle.store_open.specs.Store.{StoreView}
use Rattle.store_open.specs.declared.error.OpenError.{OpenError}
use Rattle.store_open.specs.declared.error.OpenError.TheVariants.{NotAStore, Device, Pair, Journal, NoMemory}
use Rattle.group_core.specs.Ending.{HasNothingOut}
use Rattle.group_core.specs.Starting.{value_of_store}
use Rattle.group_core.specs.StateView.{StateView}
use Rattle.group_core.specs.Stops.{StepLeaves}
use Rattle.group_recovery.specs.Machine.{machine_of}
use Rattle.group_recovery.specs.Winding.{OpensAtRest}
use Rattle.group_recovery.specs.Reopening.{OpensToMachine, HasValueOf, IsReopened, ReopensMachines, RefusesNoStore, SaysNothingOfTheImage}
use Rattle.group_recovery.proofs.BooksKept.{fronts_reopened}

module _ (image : List ℕ) where
  -- the store has the value of the image, and an image has at most one value
  module _ (store : StoreView) (opened : IsOpened image store) where
    opens : OpensTo store_format latest image (value_of_store store)
    opens = record { opening = opened.rest.opening; is = opened.same; stands_for = opened.rest.tells.value }

    pub has_value : HasValueOf image store
    has_value value so = has_one_value (List RowView) Command store_format latest image (value_of_store store) value opens so

    pub reopens_machines : ReopensMachines image store
    reopens_machines machine so = record { kept = so.kept; inside = so.inside; value = has_value _ so.opens }

  -- an image that opens is never refused for its contents
  never_refused : {e : OpenError} {opening : Opening (List RowView) Command} → opening_of store_format latest image ≡ Ok opening
      → IsErrorOfReading e (opening_of store_format latest image) → ⊥
  never_refused read refused = let both = sym read ∙ refused.is in cc

  by_error : (e : OpenError) {opening : Opening (List RowView) Command} → opening_of store_format latest image ≡ Ok opening
      → RefusesOpening e (opening_of store_format latest image) → SaysNothingOfTheImage e
  by_error NotAStore read refused = never_refused read refused
  by_error Device read refused = tt
  by_error (Pair e) read refused = never_refused read refused
  by_error (Journal e) read refused = never_refused read refused
  by_error NoMemory read refused = tt

  pub refuses_no_store : (e : OpenError) → RefusesOpening e (opening_of store_format latest image) → RefusesNoStore e image
  refuses_no_store e refused value so = by_error e (opening_read store_format latest image so.opening so.is) refused

-- images that open alike open to the same value
pub alike_opens : (value : StoreValue (List RowView)) (before behind : List ℕ) → OpensTo store_format latest before value → OpensAlike before behind → OpensTo store_format latest behind value
alike_opens value before behind opens (inl same) = subst (λ (image : List ℕ). OpensTo store_format latest image value) (sym same) opens
alike_opens value before behind opens (inr both) = record {
  opening = both.opening;
  is = both.opens_behind;
  stands_for =
      has_one_value (List RowView) Command store_format latest before (opening_value store_format both.opening) value
      (record { opening = both.opening; is = both.opens_before; stands_for = refl }) opens;
}

-- A state, whose device is taken out unchanged.
module _ (state : StateView) (leaves : StepLeaves state state) where
  machines : IsHonest state.disk → EveryImage state.disk.history.now (OpensToMachine (machine_of state))
  machines honest image left = fronts_reopened state image (leaves.exit honest image left)

  pub left_in_use : (back : StateView) → back ≡ state → Stretch state.disk back.disk (OpensToMachine (machine_of state))
  left_in_use back same =
      subst (λ (s : StateView). Stretch state.disk s.disk (OpensToMachine (machine_of state))) (sym same) (stretch_here (OpensToMachine (machine_of state)) state.disk machines)

  module _ (disk : Disk) (same : disk ≡ state.disk) where
    honest_there : IsHonest state.disk → IsHonest disk
    honest_there = subst IsHonest (sym same)

    machines_there : IsHonest disk → EveryImage disk.history.now (OpensToMachine (machine_of state))
    machines_there = subst (λ (d : Disk). IsHonest d → EveryImage d.history.now (OpensToMachine (machine_of state))) (sym same) machines

    pub value_at_rest : OpensAtRest state disk → (store : StoreView) → (IsHonest disk → HasValueOf (reads_of disk) store) → IsHonest state.disk → state.pending ≡ []
        → value_of_store store ≡ state.value
    value_at_rest rests store has honest none = has (honest_there honest) _ (rests (honest_there honest) none).reads

    pub moments_left : (new : Disk) → Stretch disk new (IsFromImage disk.history.now OpensAlike) → Stretch state.disk new (OpensToMachine (machine_of state))
    moments_left new stretch =
        subst (λ (d : Disk). Stretch d new (OpensToMachine (machine_of state))) same
        (stretch_honest (IsFromImage disk.history.now OpensAlike) (OpensToMachine (machine_of state)) disk new
        (λ honest content from.
        let there = machines_there honest from.before from.image in
        record { kept = there.kept; inside = there.inside; opens = alike_opens _ from.before content there.opens from.related })
        stretch)

    module _ (whole : IsHonest disk → IsWhole disk) where
      reads_machine : IsHonest state.disk → OpensToMachine (machine_of state) (reads_of disk)
      reads_machine honest = machines_there (honest_there honest) (reads_of disk) (image_of_reads disk.history.now (whole (honest_there honest)).bytes)

      pub front_reopened : (store : StoreView) → (IsHonest disk → ReopensMachines (reads_of disk) store) → IsHonest state.disk → IsReopened (machine_of state) store
      front_reopened store reopens honest = reopens (honest_there honest) (machine_of state) (reads_machine honest)

      pub refused_so : (e : OpenError) (back : Disk) → HasNothingOut state → ComesBack e disk back → (IsHonest disk → RefusesNoStore e (reads_of disk))
          → HasNothingOut state × ComesBack e state.disk back × (IsHonest state.disk → SaysNothingOfTheImage e)
      refused_so e back settled comes refuses =
          (settled, subst (λ (d : Disk). ComesBack e d back) same comes, λ honest. refuses (honest_there honest) _ (reads_machine honest).opens)
