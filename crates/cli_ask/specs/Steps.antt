-- The steps of a purge: whether there are any, how far each one goes, and what all of them did.
use Rattle.std.specs.Prelude.{ℕ, ◌+◌, ◌*◌, ◌-◌, ◌/◌, ◌^◌, ◌≤◌, ◌⊎◌, Option, None, Some, if◌then◌else◌, nat_lt, min, max}
use Rattle.session_core.specs.declared.service.Ack.{Ack}
use Rattle.cli_ask.specs.declared.question.Question.{Question}
use Rattle.cli_ask.specs.declared.question.Question.TheVariants as question
use Rattle.cli_ask.specs.declared.steps.TheConstants.{SHARE, LEAST, ENOUGH, FEW, MANY}

-- The same question, but that a purge is one command.
abbrev pub at_once_of : Question → Question
at_once_of (question.Purge moment) = question.PurgeAtOnce moment
at_once_of asked = asked

-- The time within which some `ENOUGH` rows expire, after a step of this width that dropped this number.
unfoldable pub width_for : ℕ → ℕ → ℕ
width_for dropped width =
    if nat_lt MANY dropped then width / (dropped / ENOUGH + 1)
    else if nat_lt dropped FEW then min (width * 2) (2 ^ 64 - 1)
    else width

-- The time that the next step covers, where this much is left: at least 1, at most all of that, and
-- at most a part of it or `LEAST`.
unfoldable pub next_width : ℕ → ℕ → ℕ → ℕ
next_width dropped width left =
    min (max (width_for dropped width) 1) (min (max (left / SHARE) LEAST) left)

-- The acknowledgement of steps and of one more: its place, and the sums of the counts.
abbrev pub total_of : Ack → Ack → Ack
total_of before last = record {
  place = last.place;
  outcome = record {
    inserted = before.outcome.inserted + last.outcome.inserted;
    updated = before.outcome.updated + last.outcome.updated;
    kept = before.outcome.kept + last.outcome.kept;
    purged = before.outcome.purged + last.outcome.purged;
  };
}

-- The total of the steps before, if there were any, and of one more.
abbrev pub total_with : Option Ack → Ack → Ack
total_with None last = last
total_with (Some before) last = total_of before last

-- One of the sums has more than 32 bits.
abbrev pub TooMany : Ack → Ack → Type 0
TooMany before last =
    (2 ^ 32 ≤ before.outcome.inserted + last.outcome.inserted)
    ⊎ ((2 ^ 32 ≤ before.outcome.updated + last.outcome.updated)
    ⊎ ((2 ^ 32 ≤ before.outcome.kept + last.outcome.kept)
    ⊎ (2 ^ 32 ≤ before.outcome.purged + last.outcome.purged)))
