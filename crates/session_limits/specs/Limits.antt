-- Which messages a limited service refuses by itself, and what it answers to the others.
use Rattle.std.specs.Prelude.{◌≡◌, ◌⊎◌, ℕ, Bool, true, false, Option, Some, None, Result, Ok, Err, IsOk, IsSome, is_some}
use Rattle.seg_core.specs.Registration.{registration_outline}
use Rattle.group_core.specs.declared.submit_error.SubmitError.TheVariants.{Busy}
use Rattle.session_core.specs.declared.message.Message.TheVariants.{Register}
use Rattle.session_core.specs.declared.message.Message.TheVariants as message
use Rattle.session_core.specs.Commands.{command_kind}
use Rattle.session_core.specs.Frames.{MessageView}
use Rattle.session_core.specs.Reply.{ReplyView, Refused}
use Rattle.reply_codes.specs.Codes.{memory_code, future_code, submit_code}
use Rattle.session_limits.specs.declared.limit.Limit.{Limit}
use Rattle.session_limits.specs.declared.limit.Limit.TheVariants.{NoMemory, Future, NoRoom, NoCommands}
use Rattle.session_limits.specs.declared.limited.Limited.{Limited}
use Rattle.session_limits.specs.declared.limited.LimitedCommand.{LimitedCommand}
use Rattle.session_limits.specs.Future.{IsJudged}
use Rattle.session_limits.specs.Readings.{ReadsAs, untaken_code}

-- A limited service as contracts see it, over a service with states of this type.
pub record LimitedView (S : Type 0) : Type 0 where
  -- The seconds by which a time may lie after now, which do not change. None is no bound.
  pub future : Option ℕ
  -- Whether its commands need room, which does not change.
  pub shares : Bool
  -- Whether its commands are taken, which does not change.
  pub commands : Bool
  -- The moment at which the last message was answered for which the clock was asked, in half
  -- seconds since 1970.
  pub moment : ℕ
  -- The service below.
  pub inner : S

-- A limited service, by the states of the service below.
abbrev pub limited : {S C R X : Type 0} → (S → X) → Limited S C R → LimitedView X
limited state l = record { future = l.future; shares = is_some l.rooms; commands = l.commands; moment = l.moment; inner = state l.inner }

-- The limited service after a message that was judged at this moment, if the clock was asked.
abbrev pub after_judging : {X : Type 0} → LimitedView X → Option ℕ → LimitedView X
after_judging old (Some moment) = record old { moment = moment }
after_judging old None = old

-- ---- refusals

-- The code of a refusal.
abbrev pub limit_code : Limit → ℕ
limit_code NoMemory = memory_code
limit_code Future = future_code
limit_code NoRoom = submit_code Busy
limit_code (NoCommands fault) = untaken_code fault

-- A message that has to be read, by a bound, may be refused memory once its outline was read.
abbrev pub MayLackMemory : Option ℕ → MessageView → Type 0
MayLackMemory (Some bound) (Register body) = IsOk (registration_outline body)
MayLackMemory _ _ = ⊥

-- Why a message is refused, or None where it goes on to the service below. A session that takes no
-- commands refuses each one, first for why it cannot be read, and has no other refusal. Elsewhere a
-- message is refused that lies in the future. Only a command that does not is refused for want of
-- room, and only where room is shared.
abbrev pub IsAdmission : Bool → Option ℕ → Bool → Option ℕ → MessageView → Option Limit → Type 0
IsAdmission takes future shares moment message None = IsJudged future moment message false × (takes ≡ false → command_kind message ≡ None)
IsAdmission takes future shares moment message (Some NoMemory) = (takes ≡ true) × ((moment ≡ None) × MayLackMemory future message)
IsAdmission takes future shares moment message (Some Future) = (takes ≡ true) × IsJudged future moment message true
IsAdmission takes future shares moment message (Some NoRoom) =
    (takes ≡ true) × (IsJudged future moment message false × ((shares ≡ true) × IsSome (command_kind message)))
IsAdmission takes future shares moment message (Some (NoCommands fault)) =
    (takes ≡ false) × ((moment ≡ None) × (IsSome (command_kind message) × ReadsAs message fault))

-- ---- what is answered

-- The message is refused by the limited service itself. The service below is as it was.
pub record IsRefusedAbove {X : Type 0} (old : LimitedView X) (message : MessageView) (reply : ReplyView) (new : LimitedView X) : Type 0 where
  pub moment : Option ℕ
  pub limit : Limit
  pub admission : IsAdmission old.commands old.future old.shares moment message (Some limit)
  pub replied : reply ≡ Refused (limit_code limit)
  pub kept : new ≡ after_judging old moment

-- By the answers of the service below.
module _ {X : Type 0} (answers : X → MessageView → ReplyView → X → Type 0) where
  -- The service below answered the message, which does not lie in the future.
  pub record IsAnsweredBelow (old : LimitedView X) (message : MessageView) (reply : ReplyView) (new : LimitedView X) : Type 0 where
    pub moment : Option ℕ
    pub admission : IsAdmission old.commands old.future old.shares moment message None
    pub answered : answers old.inner message reply new.inner
    pub kept : new ≡ record (after_judging old moment) { inner = new.inner }

  -- What a limited service answers to a message, and what it is then.
  abbrev pub LimitedAnswers : LimitedView X → MessageView → ReplyView → LimitedView X → Type 0
  LimitedAnswers old message reply new = IsAnsweredBelow old message reply new ⊎ IsRefusedAbove old message reply new

-- ---- what is known of a command that was taken

-- The service below has taken it, or it is refused.
abbrev pub IsTaken : {X U : Type 0} → (X → U → MessageView → Type 0) → LimitedView X → Option ℕ → Result U Limit → MessageView → Type 0
IsTaken is_for state moment (Ok under_way) message = IsAdmission state.commands state.future state.shares moment message None × is_for state.inner under_way message
IsTaken is_for state moment (Err limit) message = IsAdmission state.commands state.future state.shares moment message (Some limit)

-- In this state it is known that this is under way for the message.
abbrev pub IsLimitedFor : {X U : Type 0} → (X → U → MessageView → Type 0) → LimitedView X → LimitedCommand U → MessageView → Type 0
IsLimitedFor is_for state command message = IsTaken is_for state command.moment command.taken message
