-- What a service over a hub knows of a message that it has taken and not answered.
use Rattle.std.specs.Prelude.{◌≡◌, ◌≢◌, ℕ, Bool, true, List, Option, Some, None, Result, Ok, Err, IsOk}
use Rattle.seg_core.specs.declared.error.SegError.TheVariants as seg
use Rattle.seg_core.specs.declared.seg_type.SegType.{SegType}
use Rattle.seg_core.specs.Registration.{registration_outline, registration_decoding, type_of}
use Rattle.seg_check.specs.Signatures.{Verdicts}
use Rattle.seg_check.specs.Checking.{first_refusal}
use Rattle.path_db.specs.declared.command.Command.{Command}
use Rattle.path_db.specs.declared.command.Command.TheVariants as command
use Rattle.row_map.specs.Database.{RowView}
use Rattle.store_layout.specs.Opening.{StoreValue}
use Rattle.group_core.specs.declared.submit_error.SubmitError.{SubmitError}
use Rattle.session_core.specs.declared.command_kind.CommandKind.{CommandKind}
use Rattle.session_core.specs.declared.command_kind.CommandKind.TheVariants as kind
use Rattle.session_core.specs.declared.message.Message.TheVariants.{Register, Lookup, Purge, Remove}
use Rattle.session_core.specs.declared.message.Message.TheVariants as message
use Rattle.session_core.specs.declared.service.Ack.{Ack}
use Rattle.session_core.specs.Frames.{MessageView}
use Rattle.session_core.specs.Reply as reply
use Rattle.session_core.specs.Reply.{ReplyView}
use Rattle.reply_codes.specs.declared.refusal.Refusal.{Refusal}
use Rattle.reply_codes.specs.declared.refusal.Refusal.TheVariants.{Message, Check, Submit}
use Rattle.path_session.specs.declared.under_way.HubUnderWay.{HubUnderWay}
use Rattle.path_session.specs.Serving.{Serving, at_moment}
use Rattle.path_session.specs.Taking.{IsCommandAnswered}

-- The acknowledgement of a command of this kind, as a reply.
abbrev pub reply_with : CommandKind → Ack → ReplyView
reply_with kind.Register ack = reply.Registered ack
reply_with kind.Purge ack = reply.Purged ack
reply_with kind.Remove ack = reply.Removed ack

-- The service after a message that was checked at this moment, if the clock was asked.
abbrev pub after_check : Serving → Option ℕ → Serving
after_check old (Some moment) = at_moment old moment
after_check old None = old

-- ---- what is known of a message

-- A registration was not read. Memory is refused only once its outline was read.
abbrev pub IsForUnread : List ℕ → Result Command Refusal → Type 0
IsForUnread body (Err (Message e)) = (e ≢ seg.NoMemory → registration_decoding body ≡ Err e) × (e ≡ seg.NoMemory → IsOk (registration_outline body))
IsForUnread body _ = ⊥

-- Of the commands of the hub it is known for which reasons they were refused.
module _ (refused : Command → Option SubmitError → Bool) where
  -- The segments of a registration were checked at this moment. They are accepted, and this is
  -- their command, or the hub refused it; or they are refused.
  abbrev pub IsForRows : Verdicts → List RowView → ℕ → Result Command Refusal → Type 0
  IsForRows verifies rows moment (Ok c) = (first_refusal verifies moment rows ≡ None) × (c ≡ command.Register rows)
  IsForRows verifies rows moment (Err (Check e)) = first_refusal verifies moment rows ≡ Some e
  IsForRows verifies rows moment (Err (Submit e)) = (first_refusal verifies moment rows ≡ None) × (refused (command.Register rows) (Some e) ≡ true)
  IsForRows verifies rows moment _ = ⊥

  -- A registration was read as these rows, which were checked.
  pub record IsForChecked (verifies : Verdicts) (body : List ℕ) (moment : ℕ) (handed : Result Command Refusal) : Type 0 where
    pub rows : List RowView
    pub read : registration_decoding body ≡ Ok rows
    pub checked : IsForRows verifies rows moment handed

  -- The clock was asked for a registration that was read.
  abbrev pub IsForRegistration : Verdicts → List ℕ → Option ℕ → Result Command Refusal → Type 0
  IsForRegistration verifies body (Some moment) handed = IsForChecked verifies body moment handed
  IsForRegistration verifies body None handed = IsForUnread body handed

  -- This is the command of a purge, or the hub refused it.
  abbrev pub IsForPurge : ℕ → Result Command Refusal → Type 0
  IsForPurge until (Ok c) = c ≡ command.Purge until
  IsForPurge until (Err (Submit e)) = refused (command.Purge until) (Some e) ≡ true
  IsForPurge until _ = ⊥

  -- The type of a removal was read. This is its command, or the hub refused it; or the type was not
  -- read.
  abbrev pub IsForRemoval : ℕ → List ℕ → Result Command Refusal → Type 0
  IsForRemoval number id (Ok c) = (of_type : SegType) × (type_of number ≡ Ok of_type) × (c ≡ command.Remove of_type id)
  IsForRemoval number id (Err (Message e)) = type_of number ≡ Err e
  IsForRemoval number id (Err (Submit e)) = (of_type : SegType) × (type_of number ≡ Ok of_type) × (refused (command.Remove of_type id) (Some e) ≡ true)
  IsForRemoval number id _ = ⊥

  -- By these verdicts on signatures, this is under way for the message.
  abbrev pub IsFor : {N : Type 0} → Verdicts → HubUnderWay N → MessageView → Type 0
  IsFor verifies under_way (Register body) = IsForRegistration verifies body under_way.moment under_way.handed
  IsFor verifies under_way (Lookup body) = ⊥
  IsFor verifies under_way (Purge until) = (under_way.moment ≡ None) × IsForPurge until under_way.handed
  IsFor verifies under_way (Remove number id) = (under_way.moment ≡ None) × IsForRemoval number id under_way.handed
  IsFor verifies under_way (message.List request) = ⊥

-- ---- what is answered

module _ (opening : StoreValue (List RowView)) (refused : Command → Option SubmitError → Bool) where
  -- A command that was taken is answered by the hub. A refusal is answered as it is.
  abbrev pub AnswersTaken : Serving → Result Command Refusal → Result Ack Refusal → Serving → Type 0
  AnswersTaken old (Ok c) result new = IsCommandAnswered opening refused old c result new
  AnswersTaken old (Err refusal) result new = (result ≡ Err refusal) × (new ≡ old)
