-- What taking a command returns.
use Rattle.std.specs.Prelude.{◌≡◌, ◌≢◌, ◌⊎◌, ◌-◌, ◌^◌, Result, Ok, Err}
use Rattle.path_db.specs.declared.command.Command.{Command}
use Rattle.path_db.specs.Command.{database_after}
use Rattle.session_core.specs.declared.service.Ack.{Ack}
use Rattle.group_core.specs.declared.submit_error.SubmitError.TheVariants as submit
use Rattle.once_store.specs.declared.error.TakeError.{TakeError}
use Rattle.once_store.specs.declared.error.TakeError.TheVariants as take
use Rattle.once_store.specs.Taking.{FitStore}
use Rattle.reply_codes.specs.declared.refusal.Refusal.{Refusal}
use Rattle.reply_codes.specs.declared.refusal.Refusal.TheVariants.{NoMemory, Submit}
use Rattle.cli_once.specs.Memory.{Served, ack_of, after_command}

-- The refusal that says why a store did not take a command.
abbrev pub take_refusal : TakeError → Refusal
take_refusal take.NoMemory = NoMemory
take_refusal take.Full = Submit submit.Full
take_refusal take.Exhausted = Submit submit.Exhausted

-- The command was taken: a place was left, and the rows after the command fit.
pub record ServesCommand (old : Served) (c : Command) (new : Served) : Type 0 where
  pub left : old.place ≢ 2 ^ 64 - 1
  pub fits : FitStore (database_after old.rows c)
  pub taken : new ≡ after_command old c

-- The command was taken and acknowledged. Otherwise nothing changed: no place was left, or the rows
-- after the command do not fit. Where memory was refused, either nothing changed, or the command
-- was taken and its outcome is not reported.
abbrev pub MayAcknowledge : Served → Command → Result Ack Refusal → Served → Type 0
MayAcknowledge old c (Ok ack) new = (ack ≡ ack_of old c) × ServesCommand old c new
MayAcknowledge old c (Err NoMemory) new = (new ≡ old) ⊎ ServesCommand old c new
MayAcknowledge old c (Err (Submit submit.Full)) new =
    (old.place ≢ 2 ^ 64 - 1) × (¬ FitStore (database_after old.rows c)) × (new ≡ old)
MayAcknowledge old c (Err (Submit submit.Exhausted)) new = (old.place ≡ 2 ^ 64 - 1) × (new ≡ old)
MayAcknowledge old c _ new = ⊥
