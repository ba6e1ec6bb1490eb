-- The commands of a purge in steps, and what is printed of it.
use Rattle.std.specs.Prelude.{◌≡◌, ℕ, ◌+◌, ◌-◌, ◌==◌, Bool, false, IsTrue, List, [], ◌∷◌, ◌++◌, Option, None, Some, if◌then◌else◌, length, nat_lt}
use Rattle.std.specs.Io.KnownBytes.{Appends}
use Rattle.row_lines.specs.declared.form.RowForm.{RowForm}
use Rattle.session_core.specs.Reply.{Purged}
use Rattle.session_core.specs.declared.message.Message.TheVariants as message
use Rattle.session_core.specs.declared.service.Ack.{Ack}
use Rattle.cli_ask.specs.declared.steps.Step.{Step}
use Rattle.cli_ask.specs.declared.steps.TheConstants.{REACH}
use Rattle.cli_ask.specs.Lines.{ack_line}
use Rattle.cli_ask.specs.Steps.{next_width, total_with}
use Rattle.cli_ask.specs.Talk.{Byte, Passes, exchange_of}

-- A step's command was sent and acknowledged, has dropped this many, and was added to the total.
pub record HasAdded (talk talk_after : Option (List Byte)) (moment : ℕ) (old new : Option Ack) (dropped : ℕ) : Type 0 where
  pub last : Ack
  pub passed : Passes talk talk_after (exchange_of (message.Purge moment) (Purged last))
  pub total : new ≡ Some (total_with old last)
  pub purged : dropped ≡ last.outcome.purged

-- The first step of a purge by this moment.
abbrev pub first_step : ℕ → Step
first_step last = record { moment = last - REACH; width = REACH }

-- A step that goes this much further.
abbrev pub step_by : ℕ → ℕ → Step
step_by width moment = record { moment = moment + width; width = width }

-- The step after this one, which has dropped this number of rows, of a purge by the moment `last`.
abbrev pub step_after : Step → ℕ → ℕ → Step
step_after step dropped last = step_by (next_width dropped step.width (last - step.moment)) step.moment

-- The commands of steps from this one on, each with its acknowledgement.
abbrev pub steps_talk : ℕ → Step → List Ack → List Byte
steps_talk last step [] = []
steps_talk last step (ack ∷ acks) = exchange_of (message.Purge step.moment) (Purged ack) ++ steps_talk last (step_after step ack.outcome.purged last) acks

-- With these acknowledgements the steps from this one on are done: the last one is by the moment
-- `last` of the purge, and each one before it is by an earlier moment.
abbrev pub is_done : ℕ → Step → List Ack → Bool
is_done last step [] = false
is_done last step (ack ∷ acks) = if nat_lt step.moment last then is_done last (step_after step ack.outcome.purged last) acks else (length acks == 0)

-- The total of steps, after those before.
abbrev pub total_with_all : Option Ack → List Ack → Option Ack
total_with_all total [] = total
total_with_all total (ack ∷ acks) = total_with_all (Some (total_with total ack)) acks

-- All steps from this one on were sent and acknowledged, and were added to the total.
pub record HasDropped (talk talk_after : Option (List Byte)) (last : ℕ) (step : Step) (old new : Option Ack) : Type 0 where
  pub acks : List Ack
  pub passed : Passes talk talk_after (steps_talk last step acks)
  pub done : IsTrue (is_done last step acks)
  pub total : new ≡ total_with_all old acks

-- The line of a total, if there is one.
abbrev pub total_line : RowForm → Option Ack → List ℕ
total_line form None = []
total_line form (Some ack) = ack_line form ack

-- All steps of a purge were sent and acknowledged, and the line of their total was printed.
pub record HasPurged (talk talk_after : Option (List Byte)) (output output_after : Option (List ℕ)) (form : RowForm) (last : ℕ) : Type 0 where
  pub total : Option Ack
  pub dropped : HasDropped talk talk_after last (first_step last) None total
  pub printed : Appends output output_after (total_line form total)
