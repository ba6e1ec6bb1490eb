-- What a source and a destination ask for.
use Rattle.std.specs.Prelude.{ℕ, ◌/◌, ◌%◌, ◌^◌, Bool, true, false, not, ◌==◌, ◌&&◌, ◌||◌, Result, Ok, Err, if◌then◌else◌}
use Rattle.seg_core.specs.declared.seg_type.SegType.TheVariants.{Up, Down, Core}
use Rattle.seg_lookup.specs.declared.error.LookupError.{LookupError}
use Rattle.seg_lookup.specs.declared.error.LookupError.TheVariants.{NullDestination, IsdOnlyWildcard, NoCore}
use Rattle.seg_lookup.specs.Roster.{RosterView, is_core}
use Rattle.seg_lookup.specs.Query.{QueryView}

-- The ISD is 0, and the AS is not.
abbrev pub is_isd_only_wildcard : ℕ → Bool
is_isd_only_wildcard side = side / 2 ^ 48 == 0 && not (side % 2 ^ 48 == 0)

-- What a lookup asks for, by whether its source is core and whether its destination is: which side
-- has built the segments, and up to which side.
abbrev pub query_by_core : Bool → Bool → ℕ → ℕ → Result QueryView LookupError
query_by_core true true source destination = Ok (record { kind = Core; start = destination; end = source })
query_by_core false true source destination = Ok (record { kind = Up; start = destination; end = source })
query_by_core true false source destination = Ok (record { kind = Down; start = source; end = destination })
query_by_core false false source destination = Err NoCore

-- What a source and a destination ask for, or the first reason why they ask for nothing.
unfoldable pub query_of : RosterView → ℕ → ℕ → Result QueryView LookupError
query_of roster source destination =
    if source == 0 && destination == 0 then Err NullDestination
    else if is_isd_only_wildcard source || is_isd_only_wildcard destination then Err IsdOnlyWildcard
    else query_by_core (is_core roster source) (is_core roster destination) source destination
