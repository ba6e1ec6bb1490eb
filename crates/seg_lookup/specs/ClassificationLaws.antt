-- Laws of rosters and queries, for any sides.
use Rattle.std.specs.Prelude.{◌≡◌, ℕ, ◌⊎◌, ◌↔◌, List, IsTrue, Ok, map}
use Rattle.std.specs.List.{Contains}
use Rattle.std.specs.FinSet as set
use Rattle.isd_as.specs.declared.number.IsdAs.{IsdAs}
use Rattle.isd_as.specs.IsdAs.{isd_as_number}
use Rattle.seg_lookup.specs.Roster.{RosterView, roster_of, is_core}
use Rattle.seg_lookup.specs.Query.{QueryView}
use Rattle.seg_lookup.specs.Classification.{query_of}

-- A roster has just the ASes that it was made of.
abbrev pub RostersHaveTheirCores : Type 0
RostersHaveTheirCores =
    (cores : List IsdAs) (number : ℕ) → IsTrue (set.contains (roster_of cores) number) ↔ Contains (map isd_as_number cores) number

-- A query goes between one side and the other, in either order.
abbrev pub AreSides : QueryView → ℕ → ℕ → Type 0
AreSides query source destination =
    ((query.start ≡ source) × (query.end ≡ destination)) ⊎ ((query.start ≡ destination) × (query.end ≡ source))

-- A query goes from one side to the other, and starts at one that is core.
abbrev pub QueriesStartAtACore : Type 0
QueriesStartAtACore =
    (roster : RosterView) (source destination : ℕ) (query : QueryView) → query_of roster source destination ≡ Ok query
    → AreSides query source destination × IsTrue (is_core roster query.start)
