-- Each event of a run keeps the books; and what a stop leaves is a machine that is reopened.
use Rattle.std.proofs.Common.{◌≡◌, ◌⊎◌, inl, inr, ℕ, ◌≤◌, true, refl, sym, ◌∙◌, ap}
use Rattle.path_db.specs.Command.{outcome_of}
use Rattle.path_db.specs.declared.command.Command.{Command}
use Rattle.seg_lookup.specs.declared.query.Query.{Query}
use Rattle.group_phases.specs.declared.phases.Flush.{Flush}
use Rattle.group_phases.specs.declared.phases.Check.{Check}
use Rattle.group_phases.specs.declared.phases.Check.TheVariants as check
use Rattle.group_core.specs.declared.beginning.BeginError.TheVariants as begin
use Rattle.group_core.specs.StateView.{StateView}
use Rattle.group_core.specs.Staging.{Takes}
use Rattle.group_core.specs.Steps.{at_phase, half_counts, half_ready}
use Rattle.group_recovery.specs.declared.events.Event.{Event}
use Rattle.group_recovery.specs.declared.events.Event.TheVariants as event
use Rattle.group_recovery.specs.declared.events.Reply.{Reply}
use Rattle.group_recovery.specs.declared.events.Reply.TheVariants as reply
use Rattle.group_recovery.specs.declared.events.PublishRefusal.TheVariants as publish
use Rattle.group_recovery.specs.declared.events.StepRefusal.TheVariants as why
use Rattle.group_recovery.specs.Machine.{Machine, machine_of}
use Rattle.group_recovery.specs.Bookkeeping.{Bookkeeping, bookkeeping_of, rows_before_next, with_outcome, IsInFlight, stopped_by, KeepsBooks, EventsKeepTheBooks, StopsAreForGood}
use Rattle.group_recovery.specs.Reopening.{PrefixesAreReopened, FrontsAreReopened}
use Rattle.group_recovery.specs.RunSteps.{RunView, FlushEvent, CheckEvent, ChunkEvent, StageEvent, PrepareEvent, BeginEvent, PublishEvent, FollowEvent, PublishFollowedEvent, HaltEvent, LookupEvent, SubmitEvent, RedeemEvent}
use Rattle.group_recovery.proofs.Runs.{none_or_some}

module _ (old new : StateView) where
  so : {view : StateView} → new ≡ view → bookkeeping_of new ≡ bookkeeping_of view
  so is = ap bookkeeping_of is

  -- the events that change the books no more than a refusal may
  flushed : (from to failed : Flush) (r : Reply) → FlushEvent from to failed r old new → bookkeeping_of new ≡ stopped_by r (bookkeeping_of old)
  flushed from to failed reply.Done step = so step.3
  flushed from to failed (reply.StepRefused why.Stopped) step = so step.2
  flushed from to failed (reply.StepRefused why.Fault) step = so step.3
  flushed from to failed reply.NoValue step = so step.1
  flushed from to failed _ step = absurd step

  checked : (has : Type 0) (after : StateView) (failed : Check) (r : Reply) → bookkeeping_of after ≡ bookkeeping_of old → CheckEvent has after failed r old new
      → bookkeeping_of new ≡ stopped_by r (bookkeeping_of old)
  checked has after failed reply.Done same step = so step.3 ∙ same
  checked has after failed (reply.StepRefused why.Stopped) same step = so step.2
  checked has after failed (reply.StepRefused why.Fault) same step = so step.3
  checked has after failed reply.NoValue same step = so step.1
  checked has after failed _ same step = absurd step

  chunk_so : (r : Reply) → ChunkEvent r old new → bookkeeping_of new ≡ stopped_by r (bookkeeping_of old)
  chunk_so reply.Done step = so step.3
  chunk_so (reply.StepRefused why.Stopped) step = so step.2
  chunk_so (reply.StepRefused why.Fault) step = so step.3
  chunk_so (reply.StepRefused why.Damaged) step = so step.4
  chunk_so reply.NoValue step = so step.1
  chunk_so _ step = absurd step

  begun_so : (r : Reply) → BeginEvent r old new → bookkeeping_of new ≡ stopped_by r (bookkeeping_of old)
  begun_so reply.Done step = so step.1.4
  begun_so (reply.BeginRefused begin.Stopped) step = so step.1
  begun_so (reply.BeginRefused begin.InFlight) step = so step.2
  begun_so (reply.BeginRefused begin.NotSealed) step = so step.3
  begun_so (reply.BeginRefused begin.Exhausted) step = so step.4
  begun_so (reply.BeginRefused begin.Fault) step = so step.3
  begun_so (reply.BeginRefused begin.NoMemory) step = so step.3
  begun_so (reply.BeginRefused begin.Damaged) step = so step.4
  begun_so _ step = absurd step

  prepared_so : (r : Reply) → PrepareEvent r old new → bookkeeping_of new ≡ stopped_by r (bookkeeping_of old)
  prepared_so (reply.Prepared prepared) step = so step.3
  prepared_so (reply.BeginRefused e) step = begun_so (reply.BeginRefused e) step
  prepared_so _ step = absurd step

  looked_up : (query : Query) (now : ℕ) (r : Reply) → LookupEvent query now r old new → bookkeeping_of new ≡ stopped_by r (bookkeeping_of old)
  looked_up query now (reply.Answer found) step = so step.1
  looked_up query now reply.AnswerRefused step = so step.1
  looked_up query now _ step = absurd step

  -- the events that change more
  abbrev Keeps : Event → Reply → Type 0
  Keeps e r = KeepsBooks e r (machine_of old) (bookkeeping_of old) (bookkeeping_of new)

  staged : (r : Reply) → StageEvent r old new → Keeps event.Stage r
  staged reply.Done step = (in_flight step.1.0, so step.1.2)
    where
      in_flight : Takes old new.taken → IsInFlight old.version (machine_of old) new.taken
      in_flight (inl front) = inl front.front
      in_flight (inr sealing) = inr sealing.none
  staged (reply.StageRefused e) step = so step.1
  staged _ step = absurd step

  published : (r : Reply) → PublishEvent r old new → Keeps event.Publish r
  published reply.Done step = by (none_or_some old.taken)
    where
      by : (old.taken ≡ 0) ⊎ (1 ≤ old.taken) → bookkeeping_of new ≡ record (bookkeeping_of old) { taken = 0 }
      by (inl none) = so (step.1.seal none) ∙ (λ i. record (bookkeeping_of old) { taken = none i })
      by (inr some) = so (step.1.group some)
  published (reply.PublishRefused publish.NoMemory) step = so step.2
  published reply.NoValue step = so step.1
  published _ step = absurd step

  followed : (r : Reply) → FollowEvent r old new → Keeps event.Follow r
  followed reply.Done step = (step.2.front, so step.3)
  followed (reply.FollowRefused e) step = so step.2
  followed reply.NoValue step = so step.1
  followed _ step = absurd step

  published_followed : (r : Reply) → PublishFollowedEvent r old new → Keeps event.PublishFollowed r
  published_followed reply.Done step = so step.2
  published_followed (reply.PublishRefused publish.NoMemory) step = so step.2
  published_followed reply.NoValue step = so step.1
  published_followed _ step = absurd step

  half_counted : (has : Type 0) (after : StateView) (failed : Check) (r : Reply) → bookkeeping_of after ≡ record (bookkeeping_of old) { version = 2 } → CheckEvent has after failed r old new
      → Keeps event.SyncHalf r
  half_counted has after failed reply.Done same step = so step.3 ∙ same
  half_counted has after failed (reply.StepRefused why.Stopped) same step = so step.2
  half_counted has after failed (reply.StepRefused why.Fault) same step = so step.3
  half_counted has after failed reply.NoValue same step = so step.1
  half_counted has after failed _ same step = absurd step

  halted_so : (r : Reply) → HaltEvent r old new → Keeps event.Halt r
  halted_so reply.Done step = so step
  halted_so _ step = absurd step

state_so : {old new : RunView} → new ≡ old → bookkeeping_of new.state ≡ bookkeeping_of old.state
state_so is = ap (λ (run : RunView). bookkeeping_of run.state) is

submitted : (command : Command) (r : Reply) (old new : RunView) → SubmitEvent command r old new
    → KeepsBooks (event.Submit command) r (machine_of old.state) (bookkeeping_of old.state) (bookkeeping_of new.state)
submitted command (reply.Accepted place) old new step =
    (step.2, ap bookkeeping_of step.3 ∙ ap (λ (p : ℕ). with_outcome p (outcome_of (rows_before_next (machine_of old.state)) command) (bookkeeping_of old.state)) (sym step.2))
submitted command (reply.Refused e) old new step = state_so step.1
submitted command _ old new step = absurd step

redeemed : (k : ℕ) (r : Reply) (old new : RunView) → RedeemEvent k r old new
    → KeepsBooks (event.Redeem k) r (machine_of old.state) (bookkeeping_of old.state) (bookkeeping_of new.state)
redeemed k (reply.Committed place outcome) old new step = (step.1, step.2, ap (λ (run : RunView). bookkeeping_of run.state) step.3)
redeemed k (reply.Waiting place) old new step = state_so step.3
redeemed k (reply.Unknown place) old new step = (step.1, step.2, ap (λ (run : RunView). bookkeeping_of run.state) step.3)
redeemed k reply.NoValue old new step = state_so step.1
redeemed k _ old new step = absurd step

pub books_kept : EventsKeepTheBooks
books_kept (event.Submit command) r old new step = submitted command r old new step
books_kept event.Stage r old new step = staged old.state new.state r step.1
books_kept event.WriteGroup r old new step = flushed old.state new.state _ _ _ r step.1
books_kept event.SyncGroup r old new step = flushed old.state new.state _ _ _ r step.1
books_kept event.OpenGate r old new step = flushed old.state new.state _ _ _ r step.1
books_kept event.SyncGate r old new step = flushed old.state new.state _ _ _ r step.1
books_kept event.Publish r old new step = published old.state new.state r step.1
books_kept event.Follow r old new step = followed old.state new.state r step.1
books_kept event.WriteFollowing r old new step = flushed old.state new.state _ _ _ r step.1
books_kept event.SyncFollowed r old new step = flushed old.state new.state _ _ _ r step.1
books_kept event.PublishFollowed r old new step = published_followed old.state new.state r step.1
books_kept (event.Redeem k) r old new step = redeemed k r old new step
books_kept event.Prepare r old new step = prepared_so old.state new.state r step.1
books_kept event.Begin r old new step = begun_so old.state new.state r step.1
books_kept event.WriteChunk r old new step = chunk_so old.state new.state r step.1
books_kept event.SyncChunks r old new step = checked old.state new.state _ (at_phase check.Laid old.state) _ r refl step.1
books_kept event.OpenHalf r old new step = checked old.state new.state _ (at_phase check.Switched old.state) _ r refl step.1
books_kept event.SyncHalf r old new step = half_counted old.state new.state _ (half_counts old.state) _ r refl step.1
books_kept event.CloseHalf r old new step = checked old.state new.state _ (at_phase check.Closing old.state) _ r refl step.1
books_kept event.SyncClose r old new step = checked old.state new.state _ (half_ready old.state) _ r refl step.1
books_kept (event.Lookup query now) r old new step = looked_up old.state new.state query now r step.1
books_kept event.Halt r old new step = halted_so old.state new.state r step.1

-- no reply undoes a stop
module _ (old new : Bookkeeping) (stopped : old.stopped ≡ true) where
  still : (r : Reply) → new ≡ stopped_by r old → new.stopped ≡ true
  still (reply.StepRefused why.Fault) is = ap (λ (b : Bookkeeping). b.stopped) is
  still (reply.StepRefused why.Damaged) is = ap (λ (b : Bookkeeping). b.stopped) is
  still (reply.BeginRefused begin.Fault) is = ap (λ (b : Bookkeeping). b.stopped) is
  still (reply.BeginRefused begin.Damaged) is = ap (λ (b : Bookkeeping). b.stopped) is
  still _ is = ap (λ (b : Bookkeeping). b.stopped) is ∙ stopped

  still_stopped : (e : Event) (r : Reply) (machine : Machine) → KeepsBooks e r machine old new → new.stopped ≡ true
  still_stopped (event.Submit command) (reply.Accepted place) machine keeps = ap (λ (b : Bookkeeping). b.stopped) keeps.1 ∙ stopped
  still_stopped event.Stage reply.Done machine keeps = ap (λ (b : Bookkeeping). b.stopped) keeps.1 ∙ stopped
  still_stopped event.Publish reply.Done machine keeps = ap (λ (b : Bookkeeping). b.stopped) keeps ∙ stopped
  still_stopped event.Follow reply.Done machine keeps = ap (λ (b : Bookkeeping). b.stopped) keeps.1 ∙ stopped
  still_stopped event.PublishFollowed reply.Done machine keeps = ap (λ (b : Bookkeeping). b.stopped) keeps ∙ stopped
  still_stopped (event.Redeem k) (reply.Committed place outcome) machine keeps = ap (λ (b : Bookkeeping). b.stopped) keeps.2 ∙ stopped
  still_stopped (event.Redeem k) (reply.Unknown place) machine keeps = ap (λ (b : Bookkeeping). b.stopped) keeps.2 ∙ stopped
  still_stopped event.SyncHalf reply.Done machine keeps = ap (λ (b : Bookkeeping). b.stopped) keeps ∙ stopped
  still_stopped event.Halt reply.Done machine keeps = ap (λ (b : Bookkeeping). b.stopped) keeps
  still_stopped _ r machine keeps = still r keeps

pub stops_stay : StopsAreForGood
stops_stay e r old new step stopped =
    still_stopped (bookkeeping_of old.state) (bookkeeping_of new.state) stopped e r (machine_of old.state) (books_kept e r old new step)

pub prefixes_reopened : PrefixesAreReopened
prefixes_reopened start order least image opens = record { kept = opens.kept; inside = opens.inside; opens = opens.opens }

pub fronts_reopened : FrontsAreReopened
fronts_reopened view image opens = record { kept = opens.kept; inside = opens.inside; opens = opens.opens.opens }
