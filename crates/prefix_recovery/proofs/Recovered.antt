-- What is opened after a stop.
use Rattle.std.proofs.Common.{◌≡◌, inl, inr, ℕ, ◌+◌, ◌≤◌, List, [], ◌∷◌, length, take, drop, ◌∙◌, ap, arith, All, Contains}
use Rattle.std.proofs.lemmas.List.Elements.{All-head, All-tail, All-contains}
use Rattle.row_map.specs.Database.{RowView}
use Rattle.sector_dev.specs.Disk.{Moment, Disk, IsHonest, IsWhole, reads_of, moments}
use Rattle.sector_dev.specs.Image.{EveryImage, IsFromImage}
use Rattle.sector_dev.proofs.Images.{image_of_reads}
use Rattle.store_layout.specs.Opening.{StoreValue}
use Rattle.store_layout.specs.StoreValues.{value_after}
use Rattle.store_open.specs.Open.{OpensAlike}
use Rattle.store_open.specs.PathStores.{store_format}
use Rattle.store_open.specs.Store.{StoreView}
use Rattle.store_open.specs.declared.error.OpenError.{OpenError}
use Rattle.group_core.specs.Starting.{value_of_store}
use Rattle.group_recovery.specs.RunSteps.{RunView}
use Rattle.group_recovery.specs.RunLeaves.{OpensToPrefix}
use Rattle.group_recovery.specs.Reopening.{HasValueOf, RefusesNoStore, SaysNothingOfTheImage}
use Rattle.prefix_recovery.specs.Survival.{Attempt, TraceView, runs_of, end_of, IsStopSince, MayBeLeft, IsLeftSince, IsAfterFront, Recovers}
use Rattle.prefix_recovery.specs.Recoverable.{LeavesFront, OpensAsBefore, IsRecoverable}
use Rattle.group_recovery.proofs.Prefix.{length_drop, then_front}
use Rattle.group_recovery.proofs.Reopened.{alike_opens}
use Rattle.prefix_recovery.proofs.Fronts.{after_front}

module _ (trace : TraceView) (run : RunView) (front : LeavesFront trace run) where
  -- the image opens to what was committed in this state, with a front of the rest of the order
  abbrev Opens : List ℕ → Type 0
  Opens image = OpensToPrefix run.state (drop front.done trace.order) 0 image

  stop_opens : (image : List ℕ) → IsStopSince run.state.disk (end_of trace).state.disk image → Opens image
  stop_opens image stop =
      All-contains (λ (moment : Moment). EveryImage moment Opens) (drop (length run.state.disk.history.past) (moments (end_of trace).state.disk.history)) stop.moment
      (front.leaves.moments.leaves stop.honest).every stop.since image stop.left

  may_open : (attempts : List Attempt) → All OpensAsBefore attempts → (image : List ℕ) → MayBeLeft run.state.disk (end_of trace).state.disk attempts image → Opens image
  may_open [] all image stop = stop_opens image stop
  may_open (attempt ∷ others) all image (inl left) = may_open others (All-tail OpensAsBefore attempt others all) image left
  may_open (attempt ∷ others) all image (inr both) =
      let from =
      All-contains (λ (moment : Moment). EveryImage moment (IsFromImage attempt.before.history.now OpensAlike)) (drop (length attempt.before.history.past) (moments attempt.after.history))
      both.1.moment ((All-head OpensAsBefore attempt others all).leaves both.1.honest).every both.1.since image both.1.left in
      let earlier = may_open others (All-tail OpensAsBefore attempt others all) from.before (both.0 from.before from.image) in
      record { kept = earlier.kept; enough = earlier.enough; inside = earlier.inside; opens = alike_opens _ from.before image earlier.opens from.related }

  -- the store has what the image opens to
  module _ (store : StoreView) (image : List ℕ) (has : HasValueOf image store) (opens : Opens image) where
    is : value_of_store store ≡ value_after store_format run.state.value (take opens.kept (drop front.done trace.order))
    is = has _ opens.opens

    pub store_after_front : IsAfterFront trace.start.state.value trace.order (value_of_store store)
    store_after_front =
        after_front trace.start.state.value (value_of_store store) trace.order (front.done + opens.kept)
        (omega (arith, front.inside, opens.inside, length_drop front.done trace.order front.inside))
        (is ∙ ap (λ (v : StoreValue (List RowView)). value_after store_format v (take opens.kept (drop front.done trace.order))) front.value
        ∙ then_front trace.start.state.value trace.order front.done opens.kept)

    pub store_has_committed : run.state.value.place ≤ store.place
    store_has_committed =
        let place : store.place ≡ run.state.value.place + length (take opens.kept (drop front.done trace.order)) = ap (λ (v : StoreValue (List RowView)). v.place) is in
        omega (arith, place)

module _ (trace : TraceView) (so_far : IsRecoverable trace) where
  front_at : (run : RunView) → Contains (runs_of trace) run → LeavesFront trace run
  front_at run there = All-contains (LeavesFront trace) (runs_of trace) run so_far.runs there

  -- in each state of a run what is committed is a front of the order
  pub committed_front_at : (run : RunView) → Contains (runs_of trace) run → IsAfterFront trace.start.state.value trace.order run.state.value
  committed_front_at run there =
      let front = front_at run there in
      after_front trace.start.state.value run.state.value trace.order front.done front.inside front.value

  module _ (disk : Disk) (whole : IsHonest disk → IsWhole disk) (honest : IsHonest disk) where
    opens_at : (run : RunView) (front : LeavesFront trace run) → IsLeftSince run trace disk → OpensToPrefix run.state (drop front.done trace.order) 0 (reads_of disk)
    opens_at run front left =
        may_open trace run front trace.attempts so_far.attempts (reads_of disk)
        (left (reads_of disk) (image_of_reads disk.history.now (whole honest).bytes))

    pub recovers_so : (store : StoreView) → HasValueOf (reads_of disk) store → Recovers trace disk store
    recovers_so store has run there left =
        let front = front_at run there in
        let opens = opens_at run front left in
        record {
          front = store_after_front trace run front store (reads_of disk) has opens;
          committed = store_has_committed trace run front store (reads_of disk) has opens;
        }

    pub refused_so : (e : OpenError) → RefusesNoStore e (reads_of disk) → IsLeftSince trace.start trace disk → SaysNothingOfTheImage e
    refused_so e refuses left =
        let front = All-head (LeavesFront trace) trace.start trace.later so_far.runs in
        refuses _ (opens_at trace.start front left).opens
