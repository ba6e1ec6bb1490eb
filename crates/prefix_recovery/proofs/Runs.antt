-- Runs one after the other, and what their replies say.
use Rattle.std.proofs.Common.{◌≡◌, ◌<◌, List, [], ◌∷◌, ◌++◌, length, refl, sym, ◌∙◌, ap, subst, arith, append_assoc}
use Rattle.path_db.specs.declared.command.Command.{Command}
use Rattle.path_db.specs.Answer.{segments_of}
use Rattle.seg_lookup.specs.Answer.{answer_to}
use Rattle.seg_lookup.specs.Query.{query_view}
use Rattle.group_core.specs.StateView.{StateView}
use Rattle.group_recovery.specs.declared.events.Event.{Event}
use Rattle.group_recovery.specs.declared.events.Event.TheVariants as event
use Rattle.group_recovery.specs.declared.events.Reply.{Reply}
use Rattle.group_recovery.specs.declared.events.Reply.TheVariants as reply
use Rattle.group_recovery.specs.RunSteps.{RunView, IsRun, IsRunStep}
use Rattle.group_recovery.specs.SameDevice.{DeviceGoesOn}
use Rattle.group_recovery.specs.RunLeaves.{RunLeaves, accepted_by, accepted_in, lock_order}
use Rattle.prefix_recovery.specs.Survival.{last_run, IsCommittedIn, AcknowledgedAreCommitted}
use Rattle.prefix_recovery.specs.Steps.{LeadsThrough}
use Rattle.prefix_recovery.specs.Served.{IsServedFrom, LookupsAreServed}
use Rattle.prefix_recovery.specs.Composition.{RunsCompose, LeavesCompose}
use Rattle.prefix_recovery.proofs.Joined.{leaves_joined}

pub runs_joined : RunsCompose
runs_joined [] second [] more old mid new is later = subst (λ (run : RunView). IsRun second more run new) is later
runs_joined [] second (r ∷ replies) more old mid new is later = absurd is
runs_joined (e ∷ first) second [] more old mid new is later = absurd is
runs_joined (e ∷ first) second (r ∷ replies) more old mid new is later =
    (is.0, is.1, is.2, runs_joined first second replies more is.0 mid new is.3 later)

accepted_joined : (first second : List Event) (replies more : List Reply) (old mid : RunView) → IsRun first replies old mid
    → accepted_in (first ++ second) (replies ++ more) ≡ accepted_in first replies ++ accepted_in second more
accepted_joined [] second [] more old mid is = refl
accepted_joined [] second (r ∷ replies) more old mid is = absurd is
accepted_joined (e ∷ first) second [] more old mid is = absurd is
accepted_joined (e ∷ first) second (r ∷ replies) more old mid is =
    ap (λ (l : List Command). accepted_by e r ++ l) (accepted_joined first second replies more is.0 mid is.3)
    ∙ sym (append_assoc (accepted_by e r) (accepted_in first replies) (accepted_in second more))

pub orders_joined : (start : StateView) (first second : List Event) (replies more : List Reply) (old mid : RunView) → IsRun first replies old mid
    → lock_order start first replies ++ accepted_in second more ≡ lock_order start (first ++ second) (replies ++ more)
orders_joined start first second replies more old mid is =
    append_assoc start.pending (accepted_in first replies) (accepted_in second more)
    ∙ ap (λ (l : List Command). start.pending ++ l) (sym (accepted_joined first second replies more old mid is))

pub leaves_of_both : LeavesCompose
leaves_of_both first second replies more old mid new is before later =
    subst (λ (l : List Command). RunLeaves old.state l new.state) (orders_joined old.state first second replies more old mid is)
    (leaves_joined old.state mid.state new.state (lock_order old.state first replies) (accepted_in second more) before later)

-- a run has as many replies as events
pub as_many_replies : (events : List Event) (replies : List Reply) (old new : RunView) → IsRun events replies old new → length replies ≡ length events
as_many_replies [] [] old new is = refl
as_many_replies [] (r ∷ replies) old new is = absurd is
as_many_replies (e ∷ events) [] old new is = absurd is
as_many_replies (e ∷ events) (r ∷ replies) old new is = let same = as_many_replies events replies is.0 new is.3 in omega (arith, same)

-- what a reply says of the run after it
acknowledged_by_step : (e : Event) (r : Reply) (old new : RunView) → IsRunStep e r old new → IsCommittedIn r new
acknowledged_by_step (event.Submit command) (reply.Committed place outcome) old new step = absurd step
acknowledged_by_step (event.Redeem k) (reply.Committed place outcome) old new step = subst (λ (run : RunView). place < run.state.value.place) (sym step.3) step.1
acknowledged_by_step _ (reply.Committed place outcome) old new step = absurd step.1
acknowledged_by_step _ _ old new step = tt

served_by_step : (e : Event) (r : Reply) (old new : RunView) → IsRunStep e r old new → IsServedFrom e r new
served_by_step (event.Lookup query now) (reply.Answer found) old new step =
    subst (λ (view : StateView). found.items ≡ segments_of (answer_to view.value.db (query_view query) now)) (sym step.1.1) step.1.0
served_by_step _ _ old new step = tt

-- one more event, as a list of one
pub acknowledged_then : (event : List Event) (replies : List Reply) (r : Reply) (later : List RunView) (mid new : RunView) → length event ≡ 1 → AcknowledgedAreCommitted replies later → IsRun event (r ∷ []) mid new
    → AcknowledgedAreCommitted (replies ++ r ∷ []) (later ++ new ∷ [])
acknowledged_then [] [] r [] mid new one kept is = absurd (omega (arith, one))
acknowledged_then (e ∷ []) [] r [] mid new one kept is = (subst (λ (run : RunView). IsCommittedIn r run) (sym is.3) (acknowledged_by_step e r mid is.0 is.1), tt)
acknowledged_then (e ∷ other ∷ event) [] r [] mid new one kept is = absurd is.3
acknowledged_then event [] r (run ∷ later) mid new one kept is = absurd kept
acknowledged_then event (r' ∷ replies) r [] mid new one kept is = absurd kept
acknowledged_then event (r' ∷ replies) r (run ∷ later) mid new one kept is = (kept.0, acknowledged_then event replies r later mid new one kept.1 is)

pub served_then : (events event : List Event) (replies : List Reply) (r : Reply) (later : List RunView) (mid new : RunView) → length event ≡ 1 → LookupsAreServed events replies later → IsRun event (r ∷ []) mid new
    → LookupsAreServed (events ++ event) (replies ++ r ∷ []) (later ++ new ∷ [])
served_then [] [] [] r [] mid new one kept is = absurd (omega (arith, one))
served_then [] (e ∷ []) [] r [] mid new one kept is = (subst (λ (run : RunView). IsServedFrom e r run) (sym is.3) (served_by_step e r mid is.0 is.1), tt)
served_then [] (e ∷ other ∷ event) [] r [] mid new one kept is = absurd is.3
served_then [] event [] r (run ∷ later) mid new one kept is = absurd kept
served_then [] event (r' ∷ replies) r later mid new one kept is = absurd kept
served_then (e ∷ events) event [] r later mid new one kept is = absurd kept
served_then (e ∷ events) event (r' ∷ replies) r [] mid new one kept is = absurd kept
served_then (e ∷ events) event (r' ∷ replies) r (run ∷ later) mid new one kept is = (kept.0, served_then events event replies r later mid new one kept.1 is)

-- one more event leads on from the last run
pub leads_then : (events event : List Event) (replies : List Reply) (r : Reply) (start : RunView) (later : List RunView) (mid new : RunView) → length event ≡ 1 → last_run start later ≡ mid
    → LeadsThrough events replies start later → IsRun event (r ∷ []) mid new → LeadsThrough (events ++ event) (replies ++ r ∷ []) start (later ++ new ∷ [])
leads_then [] [] [] r start [] mid new one ends leads is = absurd (omega (arith, one))
leads_then [] (e ∷ []) [] r start [] mid new one ends leads is =
    subst (λ (run : RunView). IsRunStep e r start run × DeviceGoesOn start.state.disk run.state.disk × Unit {0}) (sym is.3)
    (subst (λ (run : RunView). IsRunStep e r run is.0) (sym ends) is.1, subst (λ (run : RunView). DeviceGoesOn run.state.disk is.0.state.disk) (sym ends) is.2, tt)
leads_then [] (e ∷ other ∷ event) [] r start [] mid new one ends leads is = absurd is.3
leads_then [] event [] r start (run ∷ later) mid new one ends leads is = absurd leads
leads_then [] event (r' ∷ replies) r start later mid new one ends leads is = absurd leads
leads_then (e ∷ events) event [] r start later mid new one ends leads is = absurd leads
leads_then (e ∷ events) event (r' ∷ replies) r start [] mid new one ends leads is = absurd leads
leads_then (e ∷ events) event (r' ∷ replies) r start (run ∷ later) mid new one ends leads is =
    (leads.0, leads.1, leads_then events event replies r run later mid new one ends leads.2 is)
