-- Tickets and receipts with their claims.
use Rattle.std.specs.Prelude.{◌≡◌, ◌+◌, List, Result, Ok, Err}
use Rattle.row_map.specs.Database.{RowView}
use Rattle.store_layout.specs.Opening.{StoreValue}
use Rattle.command_log.specs.declared.rule.Claim.{Claim}
use Rattle.group_core.specs.declared.ticket.Ticket.{Ticket}
use Rattle.group_core.specs.declared.ticket.Receipt.{Receipt}
use Rattle.group_core.specs.declared.ticket.Redeemed.{Redeemed}
use Rattle.group_core.specs.declared.ticket.Redeemed.TheVariants as state
use Rattle.logged_state.specs.ReceiptView.{ReceiptView}
use Rattle.logged_state.specs.declared.receipt.LoggedRedeemed.{LoggedRedeemed}
use Rattle.logged_state.specs.declared.receipt.LoggedRedeemed.TheVariants.{Committed, Waiting, Unknown, Stranger}

-- The claim is of the ticket's command, whose place counts from that of the opening value.
pub record IsClaimOf (opening : StoreValue (List RowView)) (ticket : Ticket) (claim : Claim) : Type 0 where
  pub place : ticket.place ≡ opening.place + claim.index
  pub command : claim.command ≡ ticket.command.value

-- What `State::submit` returned.
abbrev pub ticket_in : {E : Type 0} → Result (Ticket × Claim) E → Result Ticket E
ticket_in (Ok given) = Ok given.0
ticket_in (Err refused) = Err refused

-- The receipt that shows the claimed command.
abbrev pub receipt_in : {N : Type 0} → ReceiptView N → Receipt N
receipt_in receipt = record {
  place = receipt.place;
  command = record { marker = record {}; value = receipt.logged.command };
  outcome = receipt.outcome;
  note = receipt.note;
}

-- What `State::redeem` returned.
abbrev pub redeemed_in : {B N : Type 0} → LoggedRedeemed B N → Redeemed N
redeemed_in (Committed receipt) = state.Committed (receipt_in receipt)
redeemed_in (Waiting ticket claim) = state.Waiting ticket
redeemed_in (Unknown lost) = state.Unknown lost.place
redeemed_in (Stranger ticket claim) = state.Stranger ticket

-- The claim is that of the receipt, or is returned with the ticket.
abbrev pub HasClaim : {B N : Type 0} → Claim → LoggedRedeemed B N → Type 0
HasClaim claim (Committed receipt) = receipt.logged ≡ claim
HasClaim claim (Waiting ticket back) = back ≡ claim
HasClaim claim (Unknown lost) = lost.accepted ≡ claim
HasClaim claim (Stranger ticket back) = back ≡ claim
