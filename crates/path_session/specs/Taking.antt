-- What handing a command to the hub returns.
use Rattle.std.specs.Prelude.{◌≡◌, Bool, true, List, Option, Some, None, Result, Ok, Err}
use Rattle.row_map.specs.Database.{RowView}
use Rattle.path_db.specs.declared.command.Command.{Command}
use Rattle.store_layout.specs.Opening.{StoreValue}
use Rattle.group_core.specs.declared.submit_error.SubmitError.{SubmitError}
use Rattle.session_core.specs.declared.service.Ack.{Ack}
use Rattle.reply_codes.specs.declared.refusal.Refusal.{Refusal}
use Rattle.reply_codes.specs.declared.refusal.Refusal.TheVariants.{Submit, Stopped, NotAwaited}
use Rattle.path_session.specs.Serving.{Serving, with_left}
use Rattle.path_session.specs.Answered.{AcknowledgesCommit}

module _ (refused : Command → Option SubmitError → Bool) where
  -- The hub refused the command for this reason, and nothing changed, but that the peer may have
  -- been asked whether it has left.
  pub record IsRefusedByHub (why : Option SubmitError) (old : Serving) (c : Command) (new : Serving) : Type 0 where
    -- It is known that the hub refused the command for this reason.
    pub by_hub : refused c why ≡ true
    pub same : new ≡ with_left old new.left

  -- The hub did not take the command, which it did not accept.
  abbrev pub RefusesTaking : Command → Refusal → Type 0
  RefusesTaking c (Submit e) = refused c (Some e) ≡ true
  RefusesTaking c _ = ⊥

-- The peer had left, and the wait for a commit was given up. Nothing else changed.
pub record GivesUpWaiting (old new : Serving) : Type 0 where
  pub gone : new.left ≡ true
  pub same : new ≡ with_left old new.left

module _ (opening : StoreValue (List RowView)) (refused : Command → Option SubmitError → Bool) where
  -- The command was committed. Otherwise the hub refused it, since it was not accepted or the store
  -- stopped before it was committed; or the peer had left. Nothing else changed then.
  abbrev pub IsCommandAnswered : Serving → Command → Result Ack Refusal → Serving → Type 0
  IsCommandAnswered old c (Ok ack) new = AcknowledgesCommit opening old c ack new
  IsCommandAnswered old c (Err (Submit e)) new = IsRefusedByHub refused (Some e) old c new
  IsCommandAnswered old c (Err Stopped) new = IsRefusedByHub refused None old c new
  IsCommandAnswered old c (Err NotAwaited) new = GivesUpWaiting old new
  IsCommandAnswered old c _ new = ⊥
