-- A receipt of a state, with the claim of its command.
use Rattle.std.proofs.Common.{◌≡◌, List, Option, MatchOption, sym, ◌∙◌, subst}
use Rattle.row_map.specs.Database.{RowView}
use Rattle.store_layout.specs.Opening.{StoreValue}
use Rattle.group_core.specs.declared.ticket.Ticket.{Ticket}
use Rattle.group_core.specs.declared.ticket.Receipt.{Receipt}
use Rattle.group_core.specs.StateView.{StateView}
use Rattle.group_core.specs.Redeeming.{HasOutcome, IsReceipt}
use Rattle.logged_state.specs.ReceiptView.{ReceiptView}
use Rattle.logged_state.specs.Claims.{receipt_in}

pub receipt_is : {N : Type 0} (tells : StoreValue (List RowView) → N → Type 0) (ticket : Ticket) (view : StateView) (given : Receipt N) (receipt : ReceiptView N)
    → IsReceipt tells ticket view given → receipt.place ≡ given.place → receipt.logged.command ≡ ticket.command.value → receipt.outcome ≡ given.outcome → receipt.note ≡ given.note
    → IsReceipt tells ticket view (receipt_in receipt)
receipt_is tells ticket view given receipt is place command outcome note = record {
  place = place ∙ is.place;
  command = command;
  outcome = subst (HasOutcome ticket view) (sym outcome) is.outcome;
  note = subst (λ (n : Option _). MatchOption n ⊥ (tells view.value)) (sym note) is.note;
}
