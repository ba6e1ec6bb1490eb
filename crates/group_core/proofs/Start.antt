-- A state made of a store.
use Rattle.std.proofs.Common.{◌≡◌, ◌≢◌, ◌↔◌, ◌⊎◌, inl, inr, ℕ, zero, suc, ◌+◌, ◌*◌, ◌≤◌, Bool, true, false, not, List, [], take, Option, Some, None, refl, sym, ◌∙◌, ap, subst, arith}
use Rattle.row_map.specs.Database.{RowView}
use Rattle.path_db.specs.declared.command.Command.{Command}
use Rattle.path_records.specs.RecordLaws.{WrittenRowsAreCounted}
use Rattle.sector_dev.specs.Disk.{Disk, IsHonest, IsWhole, reads_of}
use Rattle.sector_dev.specs.Image.{EveryImage}
use Rattle.sector_dev.proofs.Images.{image_of_reads}
use Rattle.store_layout.specs.declared.half.Half.{Half}
use Rattle.store_layout.specs.Group.{last_place}
use Rattle.store_layout.specs.Journal.{Reading}
use Rattle.store_layout.specs.Layout.{Geometry, other}
use Rattle.store_layout.specs.StoreFormat.{db_after}
use Rattle.store_layout.specs.Checkpoint.{Head, Checkpoint, checkpoint_size}
use Rattle.store_layout.specs.Opening.{Opening, limits_in, IsTail, IsOpening, db_at_seal, tail_half}
use Rattle.gate_journal.specs.Commands.{command_format}
use Rattle.store_layout.specs.Limits.{latest}
use Rattle.ckpt_pair.specs.Rows.{rows_format}
use Rattle.store_open.specs.Closing.{HasClosedGates}
use Rattle.store_open.specs.PathStores.{store_format}
use Rattle.store_open.specs.Store.{StoreView, half_of_tail, IsAtRest}
use Rattle.store_open.specs.StoreShape.{IsStoreWhole}
use Rattle.group_phases.specs.declared.phases.Flush.TheVariants.{Resting}
use Rattle.group_phases.specs.declared.phases.Check.TheVariants.{Planned}
use Rattle.group_phases.specs.StoreConfig.{StoreConfig}
use Rattle.group_phases.specs.CommitState.{CommitState, DeviceContents, IsHeldBy}
use Rattle.group_phases.specs.HeldOpened as opened
use Rattle.group_phases.proofs.Exports.{checkpoint_inside, held_at_rest, held_behind_seal}
use Rattle.group_core.specs.StateView.{StateView}
use Rattle.group_core.specs.Stops.{config_of, commit_state_of, MayOpen}
use Rattle.group_core.specs.Invariant.{PrivateState, FitArea, HasNextEpoch, CountsAt, StateInvariant, DeviceInvariant, DeviceInvariantWith, IsBroken, IsState}
use Rattle.group_core.specs.Starting.{value_of_store, CanContinue, check_in, started}
use Rattle.ckpt_stream.specs.Preparation.{PreparationView}
use Rattle.group_core.proofs.States.{may_open}
use Rattle.group_core.proofs.Begin.{IsFresh}
use Rattle.group_core.proofs.KeptOutcomes.{none_kept}

-- what does not hold is false
pub not_false : {P : Type 0} (b : Bool) → b ≡ true ↔ P → not b ≡ false ↔ P
not_false true holds = ((λ _. holds.0 refl), λ _. refl)
not_false false holds = ((λ (is : true ≡ false). absurd (cc)), λ p. let both : false ≡ true = holds.1 p in absurd (cc))

-- what every image of its device opens to
pub opens_so : {seen : StateView} {hidden : PrivateState} (disk : Disk) → seen.disk ≡ disk → IsState seen hidden → IsHonest disk → EveryImage disk.history.now (MayOpen seen)
opens_so {seen} {hidden} disk is has = subst (λ (d : Disk). IsHonest d → EveryImage d.history.now (MayOpen seen)) is (may_open seen hidden has)

take_none : {A : Type 0} (n : ℕ) → take {A = A} n [] ≡ []
take_none zero = refl
take_none (suc n) = refl

module _ (store : StoreView) (whole : IsStoreWhole store) (device : IsHonest store.disk → IsWhole store.disk) (counted : WrittenRowsAreCounted)
    (last : store.place ≤ last_place) (home : ℕ) (stopped : Bool) (going : stopped ≡ false ↔ CanContinue store) where
  abbrev view : StateView
  view = started store home stopped

  no_epoch : (sealed : Bool) → HasNextEpoch (check_in sealed) store.head.epoch
  no_epoch true = tt
  no_epoch false = tt

  never_planned : (sealed : Bool) → check_in sealed ≡ Planned → ⊥
  never_planned true is = cc
  never_planned false is = cc

  rows_fit : stopped ≡ false → FitArea view store.rows
  rows_fit goes = omega (arith, (going.0 goes).rows, counted store.rows)

  start_shape : (staged staged_next : List ℕ) (preparation : PreparationView) → StateInvariant view (record { staged = staged; staged_next = staged_next; tip = store.rows; place = store.place; owed = []; merge = None; preparation = preparation })
  start_shape staged staged_next preparation = record {
    limits = whole.room.allowed;
    sectors = whole.room.room;
    room = whole.within.seal;
    place = refl;
    last = omega (arith, last);
    few = omega arith;
    commands = tt;
    tip = refl;
    outcomes = none_kept (value_of_store store);
    fits = λ goes n inside. subst (λ (l : List Command). FitArea view (db_after store_format store.rows l)) (sym (take_none n)) (rows_fit goes);
    known = whole.within.known;
    taken = omega arith;
    owed = refl;
    paid = inl refl;
    rests = λ _. refl;
    load = tt;
    staged = λ (flying : Resting ≢ Resting). absurd (flying refl);
    follower = tt;
    plan = record { sectors = 0; whole = refl; inside = omega arith; written = omega arith };
    epoch = no_epoch store.sealed;
    bytes = refl;
    merge = λ goes is. absurd (never_planned store.sealed is);
  }

  -- no checkpoint of it has failed: it is at rest
  module _ (honest : IsHonest store.disk) (rest : IsAtRest store) where
    abbrev opening : Opening (List RowView) Command
    opening = rest.opening

    opens : IsOpening store_format latest (reads_of store.disk) opening
    opens = rest.every (reads_of store.disk) (image_of_reads store.disk.history.now (device honest).bytes)

    -- what it represents, as it was opened
    is_setting : opened.config_at_opening store_format latest opening ≡ config_of view
    is_setting = λ i. record { format = store_format; latest = latest; geometry = rest.tells.geometry i }

    is_standing : opened.check_of opening.tail ≡ check_in store.sealed → tail_half opening.chosen opening.tail ≡ half_of_tail store.chosen store.sealed
        → opened.commit_state_at_opening store_format opening ≡ commit_state_of view
    is_standing check half = λ i. record {
      value = rest.tells.value i;
      pending = [];
      taken = 0;
      following = 0;
      flush = Resting;
      check = check i;
      half = half i;
      gate = rest.tells.gate i;
      version = (rest.tells.head i).version;
      written = 0;
    }

    held_so : (behind : DeviceContents (List RowView) Command) → opened.commit_state_at_opening store_format opening ≡ commit_state_of view
        → IsHeldBy (opened.config_at_opening store_format latest opening) (opened.commit_state_at_opening store_format opening) behind store.disk.history.now
        → IsHeldBy (config_of view) (commit_state_of view) behind store.disk.history.now
    held_so behind same held =
        subst (λ (s : StoreConfig (List RowView) Command). IsHeldBy s (commit_state_of view) behind store.disk.history.now) is_setting
        (subst (λ (s : CommitState (List RowView) Command). IsHeldBy (opened.config_at_opening store_format latest opening) s behind store.disk.history.now) same held)

    chosen_half : (sealed : Bool) → store.sealed ≡ sealed → half_of_tail opening.chosen sealed ≡ half_of_tail store.chosen store.sealed
    chosen_half sealed is = ap (λ (h : Half). half_of_tail h sealed) rest.tells.chosen ∙ ap (half_of_tail store.chosen) (sym is)

    tail_is : (tail : Option (Reading Command)) → opening.tail ≡ tail
        → IsTail command_format (limits_in opening.checkpoint) opening.geometry (other opening.chosen) (reads_of store.disk) opening.journal tail
    tail_is tail is = subst (IsTail command_format (limits_in opening.checkpoint) opening.geometry (other opening.chosen) (reads_of store.disk) opening.journal) is opens.tail

    -- its journal is not sealed
    sound_unsealed : opening.tail ≡ None → DeviceInvariant view
    sound_unsealed alone = record {
      behind = held.behind;
      held = held_so held.behind (is_standing (ap opened.check_of alone ∙ ap check_in (sym unsealed)) (ap (tail_half opening.chosen) alone ∙ chosen_half false unsealed)) held.by;
      counts = subst (λ (b : Bool). CountsAt (check_in b) store.head.epoch [] held.behind.old held.behind.new) (sym unsealed)
          (ap (λ (c : Checkpoint (List RowView)). c.head.epoch) held.new_is ∙ ap (λ (h : Head). h.epoch) rest.tells.head);
      fits = λ _. subst (λ (c : Checkpoint (List RowView)). checkpoint_size rows_format c ≤ 512 * store.geometry.checkpoint) (sym held.new_is)
          (omega (arith, inside, ap (λ (g : Geometry). g.checkpoint) rest.tells.geometry));
    }
      where
        unsealed : store.sealed ≡ false
        unsealed = sym rest.tells.sealed ∙ tail_is None alone

        gates : HasClosedGates opening.geometry (other opening.chosen) (reads_of store.disk)
        gates = subst (λ (g : Geometry). HasClosedGates g (other opening.chosen) (reads_of store.disk)) (sym rest.tells.geometry)
            (subst (λ (h : Half). HasClosedGates store.geometry (other h) (reads_of store.disk)) (sym rest.tells.chosen)
            (rest.unused unsealed (reads_of store.disk) (image_of_reads store.disk.history.now (device honest).bytes)))

        held : opened.IsHeldFrom store_format latest opening opening.checkpoint store.disk.history.now
        held = held_at_rest (List RowView) Command store_format latest opening store.disk.history.now rest.settled opens
            (record { alone = alone; gate = gates.gate; journal = gates.journal })

        inside : checkpoint_size rows_format opening.checkpoint ≤ 512 * opening.geometry.checkpoint
        inside = checkpoint_inside rows_format opening.geometry (reads_of store.disk) opening.chosen opening.checkpoint opens.half.store opens.half.begins

    -- it is: the checkpoint that has to be there
    abbrev next : Checkpoint (List RowView)
    next = record {
      head = record { version = latest; epoch = opening.checkpoint.head.epoch + 1; place = opening.journal.place };
      db = db_at_seal store_format opening;
    }

    sound_sealed : (behind : Reading Command) → opening.tail ≡ Some behind → DeviceInvariant view
    sound_sealed behind tail = record {
      behind = held.behind;
      held = held_so held.behind (is_standing (ap opened.check_of tail ∙ ap check_in (sym sealed)) (ap (tail_half opening.chosen) tail ∙ chosen_half true sealed)) held.by;
      counts = subst (λ (b : Bool). CountsAt (check_in b) store.head.epoch [] held.behind.old held.behind.new) (sym sealed)
          (ap (λ (c : Checkpoint (List RowView)). c.head.epoch) held_sealed.old_is ∙ ap (λ (h : Head). h.epoch) rest.tells.head);
      fits = λ goes. subst (λ (c : Checkpoint (List RowView)). checkpoint_size rows_format c ≤ 512 * store.geometry.checkpoint) (sym held.new_is)
          (omega (arith, (going.0 goes).sealed sealed, rest.tells.sealed_len, counted (db_at_seal store_format opening), whole.room.allowed.most_checkpoint));
    }
      where
        sealed : store.sealed ≡ true
        sealed = sym rest.tells.sealed ∙ (tail_is (Some behind) tail).1.sealed

        held_sealed : opened.IsHeldBehindSeal store_format latest opening next store.disk.history.now
        held_sealed = held_behind_seal (List RowView) Command store_format latest opening store.disk.history.now behind next rest.settled opens tail
            (record { db = refl; place = refl; version = opens.half.known }) (omega arith)

        held : opened.IsHeldFrom store_format latest opening next store.disk.history.now
        held = held_sealed.held

    by_tail : (tail : Option (Reading Command)) → opening.tail ≡ tail → DeviceInvariant view
    by_tail None alone = sound_unsealed alone
    by_tail (Some behind) tail = sound_sealed behind tail

    sound : DeviceInvariant view
    sound = by_tail opening.tail refl

  -- one has
  module _ (honest : IsHonest store.disk) (broken : store.broken ≡ true) where
    stops : (b : Bool) → (b ≡ false → CanContinue store) → b ≡ true
    stops true goes = refl
    stops false goes = let both : true ≡ false = sym broken ∙ (goes refl).whole in absurd (cc)

    is_value : value_of_store store ≡ record { db = store.rows; place = store.place + 0 }
    is_value = let same : store.place ≡ store.place + 0 = omega arith in λ i. record { db = store.rows; place = same i }

    images : EveryImage store.disk.history.now (MayOpen view)
    images image left =
        let opens = (whole.sound honest).every image left in
        record {
          kept = 0;
          may = refl;
          inside = omega arith;
          opens = record {
            opens = record { opening = opens.opens.opening; is = opens.opens.is; stands_for = opens.opens.stands_for ∙ is_value };
            since = opens.since;
          };
        }

    is_broken : IsBroken view
    is_broken = record { stopped = stops stopped going.0; rests = refl; ready = ap check_in (whole.unsealed broken); images = images }

  either : (preparation : PreparationView) → IsFresh preparation → (honest : IsHonest store.disk) (b : Bool) → store.broken ≡ b → DeviceInvariantWith view None preparation ⊎ IsBroken view
  either preparation fresh honest true broken = inr (is_broken honest broken)
  either preparation fresh honest false fine = inl (record { sound = sound honest ((whole.sound honest).rest fine); streams = λ goes is. absurd (never_planned store.sealed is); prepared = λ goes contents of. fresh store.geometry contents })

  pub started_state : (staged staged_next : List ℕ) (preparation : PreparationView) → IsFresh preparation
      → IsState view (record { staged = staged; staged_next = staged_next; tip = store.rows; place = store.place; owed = []; merge = None; preparation = preparation })
  started_state staged staged_next preparation fresh = record { shape = start_shape staged staged_next preparation; sound = λ honest. either preparation fresh honest store.broken refl }

  pub started_so : (seen : StateView) (hidden : PrivateState) → seen ≡ view → hidden.tip ≡ store.rows → hidden.place ≡ store.place → hidden.owed ≡ [] → hidden.merge ≡ None → IsFresh hidden.preparation
      → IsState seen hidden
  started_so seen hidden seen_is tip place owed merge fresh =
      subst (λ (v : StateView). IsState v hidden) (sym seen_is)
      (subst (λ (h : PrivateState). IsState view h) (λ i. record { staged = hidden.staged; staged_next = hidden.staged_next; tip = sym tip i; place = sym place i; owed = sym owed i; merge = sym merge i; preparation = hidden.preparation })
      (started_state hidden.staged hidden.staged_next hidden.preparation fresh))
