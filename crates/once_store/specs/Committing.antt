-- Committing the one pending command.
use Rattle.std.specs.Prelude.{◌≡◌, ◌≤◌, [], Option, Some, None, Result, Ok, Err}
use Rattle.path_db.specs.declared.outcome.Outcome.{Outcome}
use Rattle.group_phases.specs.declared.phases.Flush.TheVariants.{Resting, Durable}
use Rattle.group_phases.specs.declared.phases.Check.TheVariants.{Ready}
use Rattle.group_core.specs.declared.phases.AtDurable.{AtDurable}
use Rattle.group_core.specs.declared.values.Commit.{Commit}
use Rattle.group_core.specs.declared.ticket.Ticket.{Ticket}
use Rattle.group_core.specs.declared.ticket.Redeemed.{Redeemed}
use Rattle.group_core.specs.declared.ticket.Redeemed.TheVariants.{Committed, Waiting, Unknown, Stranger}
use Rattle.group_core.specs.StateView.{StateView}
use Rattle.group_core.specs.Steps.{IsFlushTurn}
use Rattle.group_core.specs.Submitting.{accepted_rows, next_place}
use Rattle.group_core.specs.Publishing.{group_committed, journal_sealed}
use Rattle.group_core.specs.Redeeming.{outcome_at, redeemed}
use Rattle.once_store.specs.Resting.{IsSteady, HasOnePending}

-- The one pending command is durable, or a seal is. There is a seal only where the journal already
-- has a group.
pub record IsNextDurable (value : Commit AtDurable) (old new : StateView) : Type 0 where
  -- It is the turn of this value to be published.
  pub turn : IsFlushTurn Durable value new
  -- At most one command is in flight.
  pub taken : new.taken ≤ 1
  -- Where a seal is in flight, the journal already had a group.
  pub seal : new.taken ≡ 0 → 1 ≤ old.gate
  -- Nothing else has changed.
  pub state : new ≡ record old { disk = new.disk; taken = new.taken; flush = Durable; group = new.group }

-- What publishing and redeeming return. A group's command is committed. A seal leaves its ticket
-- waiting. Where memory is refused, which happens for a group alone, nothing changes.
abbrev pub PublishesAndRedeems : {N : Type 0} → Ticket → Commit AtDurable → Result (Redeemed N) (Ticket × Commit AtDurable)
    → StateView → StateView → Type 0
PublishesAndRedeems ticket durable (Ok (Committed receipt)) old new =
    (old.taken ≡ 1) × (outcome_at ticket.place old.kept ≡ Some receipt.outcome) × (new ≡ redeemed ticket (group_committed old))
PublishesAndRedeems ticket durable (Ok (Waiting back)) old new = (old.taken ≡ 0) × (back ≡ ticket) × (new ≡ journal_sealed old)
PublishesAndRedeems ticket durable (Ok (Unknown place)) old new = ⊥
PublishesAndRedeems ticket durable (Ok (Stranger back)) old new = ⊥
PublishesAndRedeems ticket durable (Err (back, value)) old new = (old.taken ≡ 1) × (back ≡ ticket) × (value ≡ durable) × (new ≡ old)

-- What the layer above sees is unchanged: the rows after all accepted commands, the place of the
-- next command, and the home.
pub record SameAbove (old new : StateView) : Type 0 where
  pub rows : accepted_rows new ≡ accepted_rows old
  pub place : next_place new ≡ next_place old
  pub home : new.home ≡ old.home

-- The pending command is committed, and this is its outcome.
pub record IsOnePendingCommitted (outcome : Outcome) (old new : StateView) : Type 0 where
  -- The outcome is the one that was kept for the command.
  pub outcome_is : outcome_at old.value.place old.kept ≡ Some outcome
  -- The state is steady.
  pub steady : IsSteady new
  -- Nothing is in flight.
  pub rests : new.flush ≡ Resting
  -- No command is pending.
  pub pending : new.pending ≡ []
  -- No outcome is kept.
  pub kept : new.kept ≡ []
  -- The layer above sees no change.
  pub same : SameAbove old new

-- The value of a durable group is held, or nothing is in flight.
abbrev pub HoldsDurable : Option (Commit AtDurable) → StateView → Type 0
HoldsDurable None view = view.flush ≡ Resting
HoldsDurable (Some value) view = IsFlushTurn Durable value view × (view.taken ≡ 1) × (view.check ≡ Ready)

-- The command is still pending, and its ticket is returned, with the value of its group where the
-- group is durable.
pub record IsHeldBack (back : Ticket) (durable : Option (Commit AtDurable)) (ticket : Ticket) (old new : StateView) : Type 0 where
  -- The ticket is returned as it was.
  pub same_ticket : back ≡ ticket
  -- The command is still pending, and the ticket is its own.
  pub one : HasOnePending ticket new
  -- The state is steady.
  pub steady : IsSteady new
  -- The value of a durable group is held.
  pub holds : HoldsDurable durable new
  -- The outcomes that are kept are unchanged.
  pub kept : new.kept ≡ old.kept
  -- The layer above sees no change.
  pub same : SameAbove old new

-- A step that commits nothing keeps what is committed, and the pending command with its outcome.
pub record IsCarried (old new : StateView) : Type 0 where
  pub value : new.value ≡ old.value
  pub pending : new.pending ≡ old.pending
  pub kept : new.kept ≡ old.kept
  pub home : new.home ≡ old.home
