-- What stays known of a call's answer once the lock is free.
use Rattle.std.proofs.Common.{ℕ, ◌<◌, List, Option, Some, None, Result, Ok, Err, MatchOption, subst, sym}
use Rattle.row_map.specs.Database.{RowView}
use Rattle.path_db.specs.declared.command.Command.{Command}
use Rattle.store_layout.specs.Opening.{StoreValue}
use Rattle.group_phases.specs.declared.phases.Flush.{Flush}
use Rattle.group_phases.specs.declared.phases.Check.{Check}
use Rattle.group_phases.specs.declared.phases.Check.TheVariants.{Laid as laid}
use Rattle.group_core.specs.declared.error.StepError.{StepError}
use Rattle.group_core.specs.declared.error.StepError.TheVariants.{Fault, Stopped, Stranger, NoMemory, Damaged}
use Rattle.group_core.specs.declared.error.PublishError.{PublishError}
use Rattle.group_core.specs.declared.error.PublishError.TheVariants as refused
use Rattle.group_core.specs.declared.following.FollowError.{FollowError}
use Rattle.group_core.specs.declared.phases.AtDurable.{AtDurable}
use Rattle.group_core.specs.declared.phases.AtDurableFollowed.{AtDurableFollowed}
use Rattle.group_core.specs.declared.phases.AtFollowing.{AtFollowing}
use Rattle.group_core.specs.declared.phases.AtOpened.{AtOpened}
use Rattle.group_core.specs.declared.phases.AtStable.{AtStable}
use Rattle.group_core.specs.declared.submit_error.SubmitError.{SubmitError}
use Rattle.group_core.specs.declared.ticket.Ticket.{Ticket}
use Rattle.group_core.specs.declared.ticket.Redeemed.{Redeemed}
use Rattle.group_core.specs.declared.ticket.Redeemed.TheVariants as redeemed
use Rattle.group_core.specs.declared.values.Commit.{Commit}
use Rattle.group_core.specs.Values.{IsSame}
use Rattle.group_core.specs.StateView.{StateView}
use Rattle.group_core.specs.declared.phases.AtPlan.{AtPlan}
use Rattle.group_core.specs.Steps.{FlushStep, CheckStep, WritesChunk, SyncsChunks, WritesGate, SyncsHalf, SyncsClose, at_phase, half_counts, half_ready}
use Rattle.group_core.specs.Submitting.{Submits}
use Rattle.group_core.specs.Redeeming.{Redeems}
use Rattle.group_core.specs.Publishing.{PublishStep}
use Rattle.group_core.specs.Following.{Follows, PublishFollowedStep}
use Rattle.store_loops.specs.Receipts.{IsTicketOrCommand, IsShownAbove, IsRedeemed, LeadsOn, LeadsOut, IsHandedIn, IsFollowedOrBack, IsPassedOn}

pub taken : (command : Command) (result : Result Ticket (Command × SubmitError)) (old new : StateView) → Submits command result old new → IsTicketOrCommand command result
taken command (Ok ticket) old new step = step.2.shows
taken command (Err (back, refusal)) old new step = step.1

shown_above : {N : Type 0} (tells : StoreValue (List RowView) → N → Type 0) (value : StoreValue (List RowView)) (place : ℕ) (note : Option N)
    → place < value.place → MatchOption note ⊥ (tells value) → MatchOption note ⊥ (IsShownAbove tells place)
shown_above tells value place None above told = told
shown_above tells value place (Some n) above told = record { value = value; given = told; above = above }

pub is_redeemed : {N : Type 0} (tells : StoreValue (List RowView) → N → Type 0) (ticket : Ticket) (result : Redeemed N) (old new : StateView)
    → Redeems tells ticket result old new → IsRedeemed tells ticket result
is_redeemed tells ticket (redeemed.Committed receipt) old new step = record {
  place = step.1.place;
  command = step.1.command;
  note = shown_above tells old.value receipt.place receipt.note (subst (λ (p : ℕ). p < old.value.place) (sym step.1.place) step.0) step.1.note;
}
is_redeemed tells ticket (redeemed.Waiting back) old new step = step.3
is_redeemed tells ticket (redeemed.Unknown place) old new step = step.3
is_redeemed tells ticket (redeemed.Stranger back) old new step = step.1

pub flush_leads : {P Q : Type 0} (from to failed : Flush) (value : Commit P) (result : Result (Commit Q) (StepError P)) (old new : StateView)
    → FlushStep from to failed value result old new → LeadsOn value result
flush_leads from to failed value (Ok next) old new step = step.2
flush_leads from to failed value (Err (Stranger back)) old new step = step.1
flush_leads from to failed value (Err (NoMemory back)) old new step = absurd step
flush_leads from to failed value (Err Fault) old new step = tt
flush_leads from to failed value (Err Stopped) old new step = tt
flush_leads from to failed value (Err Damaged) old new step = tt

pub check_leads : {P Q : Type 0} (turn : Type 0) (value : Commit P) (gives : Commit Q → Type 0) (same : (next : Commit Q) → gives next → IsSame value next) (after : StateView) (failed : Check)
    (result : Result (Commit Q) (StepError P)) (old new : StateView) → CheckStep turn value gives after failed result old new → LeadsOn value result
check_leads turn value gives same after failed (Ok next) old new step = same next step.2
check_leads turn value gives same after failed (Err (Stranger back)) old new step = step.1
check_leads turn value gives same after failed (Err (NoMemory back)) old new step = absurd step
check_leads turn value gives same after failed (Err Fault) old new step = tt
check_leads turn value gives same after failed (Err Stopped) old new step = tt
check_leads turn value gives same after failed (Err Damaged) old new step = tt

pub check_ends : {P : Type 0} (turn : Type 0) (value : Commit P) (gives : Unit {0} → Type 0) (after : StateView) (failed : Check)
    (result : Result (Unit {0}) (StepError P)) (old new : StateView) → CheckStep turn value gives after failed result old new → LeadsOut value result
check_ends turn value gives after failed (Ok done) old new step = tt
check_ends turn value gives after failed (Err (Stranger back)) old new step = step.1
check_ends turn value gives after failed (Err (NoMemory back)) old new step = absurd step
check_ends turn value gives after failed (Err Fault) old new step = tt
check_ends turn value gives after failed (Err Stopped) old new step = tt
check_ends turn value gives after failed (Err Damaged) old new step = tt

pub chunk_leads : (value : Commit AtPlan) (result : Result (Commit AtPlan) (StepError AtPlan)) (old new : StateView) → WritesChunk value result old new → LeadsOn value result
chunk_leads value (Ok next) old new step = step.2.same
chunk_leads value (Err (Stranger back)) old new step = step.1
chunk_leads value (Err (NoMemory back)) old new step = absurd step
chunk_leads value (Err Fault) old new step = tt
chunk_leads value (Err Stopped) old new step = tt
chunk_leads value (Err Damaged) old new step = tt

pub chunks_lead : {Q : Type 0} (value : Commit AtPlan) (result : Result (Commit Q) (StepError AtPlan)) (old new : StateView) → SyncsChunks value result old new → LeadsOn value result
chunks_lead value result old new step = check_leads _ value _ (λ next s. s) (at_phase laid old) _ result old new step

pub gate_leads : {P Q : Type 0} (from to failed : Check) (value : Commit P) (result : Result (Commit Q) (StepError P)) (old new : StateView)
    → WritesGate from to failed value result old new → LeadsOn value result
gate_leads from to failed value result old new step = check_leads _ value _ (λ next s. s) (at_phase to old) _ result old new step

pub half_leads : {P Q : Type 0} (value : Commit P) (result : Result (Commit Q) (StepError P)) (old new : StateView) → SyncsHalf value result old new → LeadsOn value result
half_leads value result old new step = check_leads _ value _ (λ next s. s) (half_counts old) _ result old new step

pub close_leads : {P : Type 0} (value : Commit P) (result : Result (Unit {0}) (StepError P)) (old new : StateView) → SyncsClose value result old new → LeadsOut value result
close_leads value result old new step = check_ends _ value _ (half_ready old) _ result old new step

pub handed_in : (value : Commit AtDurable) (result : Result (Unit {0}) (PublishError AtDurable)) (old new : StateView) → PublishStep value result old new → IsHandedIn value result
handed_in value (Ok done) old new step = tt
handed_in value (Err (refused.NoMemory back)) old new step = step.2
handed_in value (Err (refused.Stranger back)) old new step = step.1

pub followed_or_back : (value : Commit AtOpened) (result : Result (Commit AtFollowing) (Commit AtOpened × FollowError)) (old new : StateView)
    → Follows value result old new → IsFollowedOrBack value result
followed_or_back value (Ok next) old new step = step.2
followed_or_back value (Err (back, refusal)) old new step = step.1

pub passed_on : (value : Commit AtDurableFollowed) (result : Result (Commit AtStable) (PublishError AtDurableFollowed)) (old new : StateView)
    → PublishFollowedStep value result old new → IsPassedOn value result
passed_on value (Ok next) old new step = step.2
passed_on value (Err (refused.NoMemory back)) old new step = step.2
passed_on value (Err (refused.Stranger back)) old new step = step.1
