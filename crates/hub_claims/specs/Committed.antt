-- What a hub returns for a command that was handed in.
use Rattle.std.specs.Prelude.{◌≡◌, ℕ, ◌+◌, ◌<◌, nat_lt, Bool, true, false, List, Option, Some, None, MatchOption}
use Rattle.row_map.specs.Database.{RowView}
use Rattle.path_db.specs.declared.command.Command.{Command}
use Rattle.store_layout.specs.Opening.{StoreValue}
use Rattle.group_core.specs.declared.submit_error.SubmitError.{SubmitError}
use Rattle.logged_state.specs.ReceiptView.{ReceiptView}
use Rattle.hub_claims.specs.declared.answer.NotCommitted.{NotCommitted}
use Rattle.hub_claims.specs.declared.answer.NotCommitted.TheVariants as answer
use Rattle.hub_claims.specs.declared.error.HubError.{HubError}
use Rattle.hub_claims.specs.declared.error.HubError.TheVariants as hub

-- A hub's receipt of a command claims that the log of the hub's state has that command at its index
-- among the committed ones. The receipt's place counts from that of the value that the hub opened
-- with, and its note is a place above its own.
pub record ReceiptShows (opening : StoreValue (List RowView)) (handed : Command) (receipt : ReceiptView ℕ) : Type 0 where
  pub command : receipt.logged.command ≡ handed
  pub place : receipt.place ≡ opening.place + receipt.logged.index
  pub note : MatchOption receipt.note ⊥ (λ shown. receipt.place < shown)

-- The error of a command that has no receipt.
abbrev pub error_of : NotCommitted → HubError
error_of (answer.Stopped place) = hub.Stopped place
error_of (answer.Refused e) = hub.Submit e

-- Why it was refused, or nothing where the state stopped before it was committed.
abbrev pub reason_in : NotCommitted → Option SubmitError
reason_in (answer.Stopped place) = None
reason_in (answer.Refused e) = Some e

-- Of a command it is known for which reasons it was refused.
module _ (refused : Option SubmitError → Bool) where
  -- Why a command that was handed in has no receipt: it was not accepted, for the reason for which
  -- it was refused, or the state stopped before it was committed.
  abbrev pub RefusesCommand : HubError → Type 0
  RefusesCommand (hub.Stopped place) = refused None ≡ true
  RefusesCommand (hub.Submit e) = refused (Some e) ≡ true
  RefusesCommand _ = ⊥

  -- Why a wait for the answer to a command ends without a receipt: who waited has left; or the
  -- command was not accepted, for the reason for which it was refused, or the state stopped before
  -- it was committed.
  abbrev pub EndsWaiting : Bool → HubError → Type 0
  EndsWaiting left hub.NoMemory = ⊥
  EndsWaiting left hub.NoReader = ⊥
  EndsWaiting left (hub.Stopped place) = refused None ≡ true
  EndsWaiting left (hub.Submit e) = refused (Some e) ≡ true
  EndsWaiting left hub.NotAwaited = left ≡ true

  -- Why a command is not handed in: it was not accepted, for the reason for which it was refused.
  abbrev pub RefusesHandingIn : HubError → Type 0
  RefusesHandingIn (hub.Submit e) = refused (Some e) ≡ true
  RefusesHandingIn _ = ⊥

-- Whether there is a note, which is a place above this one.
abbrev pub is_above : ℕ → Option ℕ → Bool
is_above place None = false
is_above place (Some shown) = nat_lt place shown
