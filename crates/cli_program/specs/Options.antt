-- What words say of a server.
use Rattle.std.specs.Prelude.{◌≡◌, ℕ, ◌*◌, ◌==◌, List, Option, Some, None, codes, if◌then◌else◌}
use Rattle.clap.specs.declared.parser.matches.Found.{Found}
use Rattle.clap.specs.Words.{one_text}
use Rattle.isd_as.specs.declared.number.IsdAs.{IsdAs}
use Rattle.seg_lookup.specs.Roster.{RosterView, roster_of}
use Rattle.cli_commands.specs.Options.{AreCoresOf}
use Rattle.session_core.specs.declared.message_kinds.Kinds.{Kinds}
use Rattle.session_core.specs.declared.message_kinds.Kinds.TheVariants.{Base, WithLists}

-- A roster has the core ASes of a list, and none without a list.
pub record IsRosterOf (list : Option (List ℕ)) (roster : RosterView) : Type 0 where
  pub cores : List IsdAs
  pub are : AreCoresOf list cores
  pub same : roster ≡ roster_of cores

-- The kinds of messages have lists where the flag is set, and not where it is left out.
pub record AreKindsOf (found : Found) (kinds : Kinds) : Type 0 where
  pub absent : one_text found (codes "lists") ≡ None → kinds ≡ Base
  pub unset : one_text found (codes "lists") ≡ Some (codes "false") → kinds ≡ Base
  pub given : one_text found (codes "lists") ≡ Some (codes "true") → kinds ≡ WithLists

-- The nanoseconds of a number of seconds, of which 0 is no limit.
abbrev pub limit_of : ℕ → Option ℕ
limit_of count = if count == 0 then None else Some (count * 1_000_000_000)

-- A number of seconds as a bound, of which 0 is none.
abbrev pub bound_of : ℕ → Option ℕ
bound_of count = if count == 0 then None else Some count
