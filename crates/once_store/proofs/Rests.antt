-- The states between two calls. For make_room.
use Rattle.std.proofs.Common.{◌≡◌, ◌⊎◌, inl, inr, ◌<◌, refl, sym, ap, subst, ◌∙◌, arith, ℕ}
use Rattle.store_layout.specs.Group.{last_place}
use Rattle.sector_dev.specs.Disk.{Disk}
use Rattle.group_phases.specs.declared.phases.Check.{Check}
use Rattle.group_phases.specs.declared.phases.Check.TheVariants.{Ready, Sealed, Planned, Laid, Switched, SwitchFailed, Live, Closing, CloseFailed}
use Rattle.group_core.specs.StateView.{StateView}
use Rattle.once_store.specs.Resting.{CheckRests, IsSteady}
use Rattle.once_store.specs.Folding.{MayFold, IsReadyOrFolded, IsRoomMade, OnlyDeviceWasRead}

-- it rests in one of two phases
two_phases : (check : Check) (view : StateView) → CheckRests check view → (check ≡ Ready) ⊎ (check ≡ Sealed)
two_phases Ready view rests = inl refl
two_phases Sealed view rests = inr refl
two_phases Planned view rests = absurd rests
two_phases Laid view rests = absurd rests
two_phases Switched view rests = absurd rests
two_phases SwitchFailed view rests = absurd rests
two_phases Live view rests = absurd rests
two_phases Closing view rests = absurd rests
two_phases CloseFailed view rests = absurd rests

sealed_rests : (view : StateView) → IsSteady view → view.check ≡ Sealed → CheckRests Sealed view
sealed_rests view steady sealed = subst (λ (c : Check). CheckRests c view) sealed steady.check

pub may_fold : (view : StateView) → IsSteady view → view.value.place < last_place → MayFold view
may_fold view steady place = record {
  going = steady.going;
  free = steady.plan;
  check = two_phases view.check view steady.check;
  epoch = λ sealed. let rests = sealed_rests view steady sealed in omega (arith, rests.0, place);
}

-- after a checkpoint the state rests
pub room_made : (old new : StateView) → IsSteady old → IsReadyOrFolded old new → IsRoomMade old new
room_made old new steady (inl (ready, same)) = subst (λ (v : StateView). IsRoomMade old v) (sym same) (record {
  steady = steady;
  ready = ready;
  state = ap (λ (c : Check). record old { check = c }) ready;
})
room_made old new steady (inr (sealed, folded)) =
    let rests = sealed_rests old steady sealed in
    let is = folded.state in
    record {
      steady = record {
        geometry = ap (λ (v : StateView). v.geometry) is ∙ steady.geometry;
        version = ap (λ (v : StateView). v.version) is;
        going = ap (λ (v : StateView). v.stopped) is ∙ steady.going;
        plan = folded.plan;
        check = subst (λ (c : Check). CheckRests c new) (sym (ap (λ (v : StateView). v.check) is)) (
          omega (arith, rests.0, ap (λ (v : StateView). v.epoch) is, ap (λ (v : StateView). v.value.place) is),
          λ some. absurd (omega (arith, some, rests.1, ap (λ (v : StateView). v.gate) is)),
        );
      };
      ready = ap (λ (v : StateView). v.check) is;
      state = subst (λ (v : StateView). v ≡ record old { disk = v.disk; check = Ready; plan = v.plan; epoch = v.epoch; version = v.version; checkpoint = v.checkpoint; written = v.written; unprepared = v.unprepared }) (sym is) refl;
    }

rests_on : (check : Check) (old : StateView) (disk : Disk) (unprepared : ℕ) → CheckRests check old → CheckRests check (record old { disk = disk; unprepared = unprepared })
rests_on Ready old disk unprepared rests = rests
rests_on Sealed old disk unprepared rests = rests
rests_on Planned old disk unprepared rests = rests
rests_on Laid old disk unprepared rests = rests
rests_on Switched old disk unprepared rests = rests
rests_on SwitchFailed old disk unprepared rests = rests
rests_on Live old disk unprepared rests = rests
rests_on Closing old disk unprepared rests = rests
rests_on CloseFailed old disk unprepared rests = rests

-- and so it does where its device was read
pub looked_at : (old new : StateView) → IsSteady old → new ≡ record old { disk = new.disk; unprepared = new.unprepared } → OnlyDeviceWasRead old new
looked_at old new steady is = record {
  steady = subst IsSteady (sym is) (record {
    geometry = steady.geometry;
    version = steady.version;
    going = steady.going;
    plan = steady.plan;
    check = rests_on old.check old new.disk new.unprepared steady.check;
  });
  state = is;
}
