-- Redeeming and stopping on a state.
use Rattle.std.proofs.Common.{◌≡◌, ◌⊎◌, inr, ℕ, true, false, cond, List, [], take, None, refl, sym, subst}
use Rattle.std.specs.Ordering.{nat_cmp}
use Rattle.std.specs.BTreeMap.{is_at}
use Rattle.row_map.specs.Database.{RowView}
use Rattle.path_db.specs.declared.command.Command.{Command}
use Rattle.store_layout.specs.Opening.{StoreValue}
use Rattle.group_core.specs.StateView.{StateView}
use Rattle.group_core.specs.Invariant.{PrivateState, StateInvariant, IsState}
use Rattle.group_core.specs.Keeping.{Outcomes, KeepsOutcomes}
use Rattle.group_core.specs.Redeeming.{outcome_at}
use Rattle.group_core.specs.Showing.{IsFrontOf}
use Rattle.group_core.specs.Ending.{IsDurableAt}
use Rattle.group_core.proofs.KeptOutcomes.{one_less_kept}
use Rattle.group_core.proofs.Soundness.{either_stays}
use Rattle.group_core.proofs.FlushSteps.{flushed_shape}

-- what the showcase shows
record Shown : Type 0 where
  value : StoreValue (List RowView)
  list : List Command

module _ (old : StateView) (hidden : PrivateState) (has : IsState old hidden) where
  kept_shape : (kept : Outcomes) → KeepsOutcomes old.value old.pending kept → (owed : List Command) → IsFrontOf owed (take old.taken old.pending) → owed ≡ [] ⊎ IsDurableAt old.flush
      → StateInvariant (record old { kept = kept }) (record hidden { owed = owed })
  kept_shape kept outcomes owed front paid = record {
    limits = has.shape.limits;
    sectors = has.shape.sectors;
    room = has.shape.room;
    place = has.shape.place;
    last = has.shape.last;
    few = has.shape.few;
    commands = has.shape.commands;
    tip = has.shape.tip;
    outcomes = outcomes;
    fits = has.shape.fits;
    known = has.shape.known;
    taken = has.shape.taken;
    owed = front;
    paid = paid;
    rests = has.shape.rests;
    load = has.shape.load;
    staged = has.shape.staged;
    follower = has.shape.follower;
    plan = has.shape.plan;
    epoch = has.shape.epoch;
    bytes = has.shape.bytes;
    merge = has.shape.merge;
  }

  kept_owed : (kept : Outcomes) → KeepsOutcomes old.value old.pending kept → (owed : List Command) → IsFrontOf owed (take old.taken old.pending) → owed ≡ [] ⊎ IsDurableAt old.flush
      → IsState (record old { kept = kept }) (record hidden { owed = owed })
  kept_owed kept outcomes owed front paid = record {
    shape = kept_shape kept outcomes owed front paid;
    sound = λ honest. either_stays hidden.merge hidden.preparation old (record old { kept = kept })
        (λ with. record { sound = record { behind = with.sound.behind; held = with.sound.held; counts = with.sound.counts; fits = with.sound.fits }; streams = with.streams; prepared = with.prepared })
        (λ broken. record { stopped = broken.stopped; rests = broken.rests; ready = broken.ready; images = broken.images }) (has.sound honest);
  }

  -- what is kept after a place is taken out
  abbrev LeavesOthers : ℕ → Outcomes → Type 0
  LeavesOthers place kept = (other : ℕ) → outcome_at other kept ≡ cond (is_at (nat_cmp place) other) None (outcome_at other old.kept)

  less_kept : (place : ℕ) (kept : Outcomes) → LeavesOthers place kept → KeepsOutcomes old.value old.pending kept
  less_kept place kept left = one_less_kept old.value old.pending old.kept kept place has.shape.outcomes left

  -- an outcome less is kept
  pub kept_state : (place : ℕ) (kept : Outcomes) → LeavesOthers place kept → IsState (record old { kept = kept }) hidden
  kept_state place kept left = kept_owed kept (less_kept place kept left) hidden.owed has.shape.owed has.shape.paid

  -- the showcase shows the same, and has the first commands of the next group, which are durable
  pub shown_state : (value : StoreValue (List RowView)) (list owed : List Command) → value ≡ old.value → list ≡ old.shown → IsFrontOf owed (take old.taken old.pending) → IsDurableAt old.flush
      → IsState (record old { value = value; shown = list }) (record hidden { owed = owed })
  shown_state value list owed same same_list front durable =
      subst (λ (shown : Shown). IsState (record old { value = shown.value; shown = shown.list }) (record hidden { owed = owed }))
      (λ i. record { value = sym same i; list = sym same_list i }) (kept_owed old.kept has.shape.outcomes owed front (inr durable))

  -- and it was asked
  pub told_state : (value : StoreValue (List RowView)) (list : List Command) (place : ℕ) (kept : Outcomes) (owed : List Command) → value ≡ old.value → list ≡ old.shown → LeavesOthers place kept → owed ≡ hidden.owed
      → IsState (record old { value = value; shown = list; kept = kept }) (record hidden { owed = owed })
  told_state value list place kept owed same same_list left owed_is =
      subst (λ (shown : Shown). IsState (record old { value = shown.value; shown = shown.list; kept = kept }) (record hidden { owed = owed }))
      (λ i. record { value = sym same i; list = sym same_list i })
      (kept_owed kept (less_kept place kept left) owed
      (subst (λ (l : List Command). IsFrontOf l (take old.taken old.pending)) (sym owed_is) has.shape.owed)
      (subst (λ (l : List Command). l ≡ [] ⊎ IsDurableAt old.flush) (sym owed_is) has.shape.paid))

  -- the state stops
  pub halted_state : IsState (record old { stopped = true }) hidden
  halted_state = record {
    shape = flushed_shape old hidden has old.disk old.flush old.group true (record { staged = λ is. is; rests = λ is. is; going = λ (is : true ≡ false). cc; follower = has.shape.follower; paid = has.shape.paid }) refl;
    sound = λ honest. either_stays hidden.merge hidden.preparation old (record old { stopped = true })
        (λ with. record {
          sound = record { behind = with.sound.behind; held = with.sound.held; counts = with.sound.counts; fits = λ (is : true ≡ false). absurd cc };
          streams = λ (is : true ≡ false). absurd cc;
          prepared = λ (is : true ≡ false). absurd cc;
        })
        (λ broken. record { stopped = refl; rests = broken.rests; ready = broken.ready; images = broken.images }) (has.sound honest);
  }
