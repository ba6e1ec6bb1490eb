-- What contracts see of a service over a hub.
use Rattle.std.specs.Prelude.{ℕ, Bool, List, []}
use Rattle.seg_check.specs.Signatures.{Verdicts}
use Rattle.path_db.specs.declared.command.Command.{Command}
use Rattle.seg_lookup.specs.Roster.{RosterView}
use Rattle.command_log.specs.declared.rule.Claim.{Claim}
use Rattle.hub_readers.specs.Sight.{Sight}

-- A service over a hub as contracts see it.
pub record Serving : Type 0 where
  -- The core ASes, which do not change.
  pub roster : RosterView
  -- The verdicts on signatures, which do not change.
  pub verifies : Verdicts
  -- The groups that its reader was shown.
  pub groups : List (List Command)
  -- The greatest place that the reader has seen.
  pub seen : ℕ
  -- The moment at which the last message was answered for which the clock was asked, in half
  -- seconds since 1970. A registration is answered at the moment at which it was checked.
  pub moment : ℕ
  -- The claims of all its commands that were committed, in the order of their acknowledgements.
  pub acknowledged : List Claim
  -- Whether its peer has left, as it was asked last.
  pub left : Bool

-- The service where a message is answered at a moment.
abbrev pub at_moment : Serving → ℕ → Serving
at_moment serving moment = record serving { moment = moment }

-- The service where its peer was asked whether it has left.
abbrev pub with_left : Serving → Bool → Serving
with_left serving left = record serving { left = left }

-- A service that has answered no message, by a reader, whose peer has left or not.
abbrev pub beginning : RosterView → Verdicts → Sight → Bool → Serving
beginning roster verifies reader left =
    record { roster = roster; verifies = verifies; groups = reader.groups; seen = reader.seen; moment = 0; acknowledged = []; left = left }
