-- What is handed in for a message is its command: for the calls that take and answer a message.
use Rattle.std.proofs.Common.{inl, inr, ℕ, Bool, List, Option, Some, None, Result, Ok, Err}
use Rattle.seg_check.specs.Signatures.{Verdicts}
use Rattle.path_db.specs.declared.command.Command.{Command}
use Rattle.group_core.specs.declared.submit_error.SubmitError.{SubmitError}
use Rattle.command_queue.specs.Handed.{Handed}
use Rattle.session_core.specs.declared.message.Message.TheVariants.{Register, Purge, Remove}
use Rattle.reply_codes.specs.declared.refusal.Refusal.{Refusal}
use Rattle.path_session.specs.UnderWay.{IsForRegistration, IsForPurge, IsForRemoval}
use Rattle.path_session.specs.Sending.{HandsIn, HandsInAtMost}

module _ (refused : Command → Option SubmitError → Bool) (old new : Handed) where
  pub registration_sent : (verifies : Verdicts) (body : List ℕ) (moment : Option ℕ) (handed : Result Command Refusal) → IsForRegistration refused verifies body moment handed
      → HandsIn handed old new → HandsInAtMost (Register body) old new
  registration_sent verifies body (Some moment) (Ok c) known sent =
      inr (record { command = c; read = record { rows = known.rows; read = known.read; is = known.checked.1 }; one = sent })
  registration_sent verifies body (Some moment) (Err refusal) known sent = inl sent
  registration_sent verifies body None (Ok c) known sent = absurd known
  registration_sent verifies body None (Err refusal) known sent = inl sent

  pub purge_sent : (until : ℕ) (handed : Result Command Refusal) → IsForPurge refused until handed → HandsIn handed old new → HandsInAtMost (Purge until) old new
  purge_sent until (Ok c) known sent = inr (record { command = c; read = known; one = sent })
  purge_sent until (Err refusal) known sent = inl sent

  pub removal_sent : (number : ℕ) (id : List ℕ) (handed : Result Command Refusal) → IsForRemoval refused number id handed → HandsIn handed old new → HandsInAtMost (Remove number id) old new
  removal_sent number id (Ok c) known sent = inr (record { command = c; read = record { kind = known.0; read = known.1; is = known.2 }; one = sent })
  removal_sent number id (Err refusal) known sent = inl sent
