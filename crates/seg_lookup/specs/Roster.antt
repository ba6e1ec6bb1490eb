-- The core ASes of a network, and which sides of a lookup are core.
use Rattle.std.specs.Prelude.{ℕ, ◌%◌, ◌^◌, List, Bool, ◌==◌, ◌||◌, map}
use Rattle.std.specs.Ordering.{nat_cmp}
use Rattle.std.specs.Coded.{Coded, coded_ℕ}
use Rattle.std.specs.FinSet as set
use Rattle.isd_as.specs.declared.number.IsdAs.{IsdAs}
use Rattle.isd_as.specs.IsdAs.{isd_as_number}

-- A finite set of ISD-ASes, by their numbers.
abbrev pub RosterView : Type 0
RosterView = set.FinSet nat_cmp

-- How a roster is stored as data, for a `Value` that has one.
abbrev pub roster_code : Coded RosterView
roster_code = set.code coded_ℕ

-- The roster of these core ASes.
abbrev pub roster_of : List IsdAs → RosterView
roster_of cores = set.from_list (map isd_as_number cores)

-- A side is core where its AS is 0, or it is on the roster.
abbrev pub is_core : RosterView → ℕ → Bool
is_core roster side = side % 2 ^ 48 == 0 || set.contains roster side
