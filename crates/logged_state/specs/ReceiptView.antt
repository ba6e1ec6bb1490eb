-- What contracts see of a receipt of a state with a log.
use Rattle.std.specs.Prelude.{ℕ, Option}
use Rattle.path_db.specs.declared.outcome.Outcome.{Outcome}
use Rattle.command_log.specs.declared.rule.Claim.{Claim}

-- A receipt as contracts see it.
pub record ReceiptView (N : Type 0) : Type 0 where
  -- The place of the command.
  pub place : ℕ
  -- What the command did.
  pub outcome : Outcome
  -- The showcase's note, until it is taken.
  pub note : Option N
  -- The command, and its index in the log.
  pub logged : Claim
