-- What is known through a lock of the results of the state's calls. Nothing is known of the state,
-- but how a call's ticket, value and result relate to each other is.
use Rattle.std.specs.Prelude.{◌≡◌, ℕ, ◌<◌, List, Result, Ok, Err, MatchOption}
use Rattle.row_map.specs.Database.{RowView}
use Rattle.path_db.specs.declared.command.Command.{Command}
use Rattle.store_layout.specs.Opening.{StoreValue}
use Rattle.group_core.specs.declared.error.StepError.{StepError}
use Rattle.group_core.specs.declared.error.StepError.TheVariants.{Stranger, NoMemory}
use Rattle.group_core.specs.declared.error.PublishError.{PublishError}
use Rattle.group_core.specs.declared.error.PublishError.TheVariants as refused
use Rattle.group_core.specs.declared.following.FollowError.{FollowError}
use Rattle.group_core.specs.declared.phases.AtDurable.{AtDurable}
use Rattle.group_core.specs.declared.phases.AtDurableFollowed.{AtDurableFollowed}
use Rattle.group_core.specs.declared.phases.AtFollowing.{AtFollowing}
use Rattle.group_core.specs.declared.phases.AtOpened.{AtOpened}
use Rattle.group_core.specs.declared.phases.AtStable.{AtStable}
use Rattle.group_core.specs.declared.submit_error.SubmitError.{SubmitError}
use Rattle.group_core.specs.declared.ticket.Ticket.{Ticket}
use Rattle.group_core.specs.declared.ticket.Receipt.{Receipt}
use Rattle.group_core.specs.declared.ticket.Redeemed.{Redeemed}
use Rattle.group_core.specs.declared.ticket.Redeemed.TheVariants as redeemed
use Rattle.group_core.specs.declared.values.Commit.{Commit}
use Rattle.group_core.specs.Values.{IsSame}

-- A ticket that shows the command, or the command again.
abbrev pub IsTicketOrCommand : Command → Result Ticket (Command × SubmitError) → Type 0
IsTicketOrCommand command (Ok ticket) = ticket.command.value ≡ command
IsTicketOrCommand command (Err (back, refusal)) = back ≡ command

-- The note was given for a value that is shown, whose place is above this one.
pub record IsShownAbove {N : Type 0} (tells : StoreValue (List RowView) → N → Type 0) (place : ℕ) (note : N) : Type 0 where
  pub value : StoreValue (List RowView)
  pub given : tells value note
  pub above : place < value.place

-- The receipt is the ticket's: it has the ticket's place and command, and a note of a value that
-- has the command.
pub record IsReceiptOf {N : Type 0} (tells : StoreValue (List RowView) → N → Type 0) (ticket : Ticket) (receipt : Receipt N) : Type 0 where
  pub place : receipt.place ≡ ticket.place
  pub command : receipt.command.value ≡ ticket.command.value
  pub note : MatchOption receipt.note ⊥ (IsShownAbove tells receipt.place)

-- What a ticket is redeemed for: its receipt, its place, or the ticket again.
abbrev pub IsRedeemed : {N : Type 0} → (StoreValue (List RowView) → N → Type 0) → Ticket → Redeemed N → Type 0
IsRedeemed tells ticket (redeemed.Committed receipt) = IsReceiptOf tells ticket receipt
IsRedeemed tells ticket (redeemed.Waiting back) = back ≡ ticket
IsRedeemed tells ticket (redeemed.Unknown place) = place ≡ ticket.place
IsRedeemed tells ticket (redeemed.Stranger back) = back ≡ ticket

-- A step leads from a value to the next one of the same group or plan. A value that is returned is
-- the one that was passed.
abbrev pub LeadsOn : {P Q : Type 0} → Commit P → Result (Commit Q) (StepError P) → Type 0
LeadsOn value (Ok next) = IsSame value next
LeadsOn value (Err (Stranger back)) = back ≡ value
LeadsOn value (Err (NoMemory back)) = back ≡ value
LeadsOn value _ = Unit {0}

-- The last step of a checkpoint: a value that is returned is the one that was passed.
abbrev pub LeadsOut : {P : Type 0} → Commit P → Result (Unit {0}) (StepError P) → Type 0
LeadsOut value (Err (Stranger back)) = back ≡ value
LeadsOut value (Err (NoMemory back)) = back ≡ value
LeadsOut value _ = Unit {0}

-- Publishing spends the value, or returns the one that was passed.
abbrev pub IsHandedIn : Commit AtDurable → Result (Unit {0}) (PublishError AtDurable) → Type 0
IsHandedIn value (Ok done) = Unit {0}
IsHandedIn value (Err (refused.NoMemory back)) = back ≡ value
IsHandedIn value (Err (refused.Stranger back)) = back ≡ value

-- Staging a group to follow leads on to the next value of the same group, or returns the value that
-- was passed.
abbrev pub IsFollowedOrBack : Commit AtOpened → Result (Commit AtFollowing) (Commit AtOpened × FollowError) → Type 0
IsFollowedOrBack value (Ok next) = IsSame value next
IsFollowedOrBack value (Err (back, refusal)) = back ≡ value

-- Publishing a group that is followed leads on to the value of the group that follows, or returns
-- the value that was passed.
abbrev pub IsPassedOn : Commit AtDurableFollowed → Result (Commit AtStable) (PublishError AtDurableFollowed) → Type 0
IsPassedOn value (Ok next) = IsSame value next
IsPassedOn value (Err (refused.NoMemory back)) = back ≡ value
IsPassedOn value (Err (refused.Stranger back)) = back ≡ value
