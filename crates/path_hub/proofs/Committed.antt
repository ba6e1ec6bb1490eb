-- What a hub's receipt of a command says.
use Rattle.std.proofs.Common.{◌≡◌, ℕ, ◌+◌, ◌<◌, ◌∙◌, Bool, true, false, List, Option, Some, None, MatchOption, subst, sym, ap}
use Rattle.row_map.specs.Database.{RowView}
use Rattle.path_db.specs.declared.command.Command.{Command}
use Rattle.store_layout.specs.Opening.{StoreValue}
use Rattle.command_log.specs.declared.rule.Claim.{Claim}
use Rattle.group_core.specs.declared.submit_error.SubmitError.{SubmitError}
use Rattle.group_core.specs.declared.ticket.Ticket.{Ticket}
use Rattle.group_core.specs.declared.ticket.Redeemed.TheVariants.{Committed}
use Rattle.group_core.specs.Redeeming.{Redeems}
use Rattle.group_core.specs.StateView.{StateView}
use Rattle.logged_state.specs.Claims.{receipt_in}
use Rattle.logged_state.specs.ReceiptView.{ReceiptView}
use Rattle.store_loops.specs.Receipts.{IsShownAbove}
use Rattle.store_loops.proofs.Through.{is_redeemed}
use Rattle.hub_claims.specs.declared.answer.NotCommitted.{NotCommitted}
use Rattle.hub_claims.specs.declared.answer.NotCommitted.TheVariants as answer
use Rattle.hub_claims.specs.declared.error.HubError.{HubError}
use Rattle.hub_claims.specs.declared.error.HubError.TheVariants as hub
use Rattle.hub_claims.specs.Committed.{ReceiptShows, RefusesCommand, EndsWaiting, RefusesHandingIn, error_of, reason_in}

-- a hub's note is the place of what was shown
noted : (place : ℕ) (note : Option ℕ) → MatchOption note ⊥ (IsShownAbove (λ value shown. shown ≡ value.place) place) → MatchOption note ⊥ (λ shown. place < shown)
noted place None h = h
noted place (Some shown) h = subst (λ (n : ℕ). place < n) (sym h.given) h.above

-- the receipt for which a ticket is redeemed with its claim shows the ticket's command, at the
-- place of the claim
pub receipt_shows : (opening : StoreValue (List RowView)) (command : Command) (ticket : Ticket) (claim : Claim) (receipt : ReceiptView ℕ) (old new : StateView)
    → ticket.command.value ≡ command → ticket.place ≡ opening.place + claim.index → receipt.logged ≡ claim
    → Redeems (λ value shown. shown ≡ value.place) ticket (Committed (receipt_in receipt)) old new → ReceiptShows opening command receipt
receipt_shows opening command ticket claim receipt old new shows placed claimed step =
    let is = is_redeemed (λ value shown. shown ≡ value.place) ticket (Committed (receipt_in receipt)) old new step in
    record {
      command = is.command ∙ shows;
      place = is.place ∙ placed ∙ ap (λ (c : Claim). opening.place + c.index) (sym claimed);
      note = noted receipt.place receipt.note is.note;
    }

-- a command that the hub refused has no receipt, whoever waits for it
pub ends_waiting : (refused : Option SubmitError → Bool) (left : Bool) (why : NotCommitted) (e : HubError) → e ≡ error_of why → refused (reason_in why) ≡ true → EndsWaiting refused left e
ends_waiting refused left why e is known = subst (EndsWaiting refused left) (sym is) (ended why known)
  where
    ended : (reason : NotCommitted) → refused (reason_in reason) ≡ true → EndsWaiting refused left (error_of reason)
    ended (answer.Stopped place) so = so
    ended (answer.Refused refusal) so = so

-- the wait of who never leaves ends by a refusal alone
pub refuses : (refused : Option SubmitError → Bool) (e : HubError) → EndsWaiting refused false e → RefusesCommand refused e
refuses refused hub.NoMemory why = absurd why
refuses refused hub.NoReader why = absurd why
refuses refused (hub.Stopped place) why = why
refuses refused (hub.Submit e) why = why
refuses refused hub.NotAwaited why = absurd (cc why)

-- a command that was not handed in has no receipt
pub not_handed_in : (refused : Option SubmitError → Bool) (e : HubError) → RefusesHandingIn refused e → RefusesCommand refused e
not_handed_in refused hub.NoMemory why = absurd why
not_handed_in refused hub.NoReader why = absurd why
not_handed_in refused (hub.Stopped place) why = absurd why
not_handed_in refused (hub.Submit e) why = why
not_handed_in refused hub.NotAwaited why = absurd why
