-- Which sides a query is between: for `laws`.
use Rattle.std.proofs.Common.{◌≡◌, ℕ, Bool, true, false, Result, Ok, Err, if◌then◌else◌, ◌==◌, ◌&&◌, ◌||◌, inl, inr, refl, sym, ap, ◌∙◌}
use Rattle.seg_lookup.specs.declared.error.LookupError.{LookupError}
use Rattle.seg_lookup.specs.declared.error.LookupError.TheVariants.{NullDestination, IsdOnlyWildcard}
use Rattle.seg_core.specs.declared.seg_type.SegType.{SegType}
use Rattle.seg_lookup.specs.Roster.{RosterView, is_core}
use Rattle.seg_lookup.specs.Query.{QueryView}
use Rattle.seg_lookup.specs.Classification.{query_by_core, query_of, is_isd_only_wildcard}
use Rattle.seg_lookup.specs.ClassificationLaws.{AreSides, QueriesStartAtACore}

-- where there is a query, the first refusal did not come
not_refused : (b : Bool) (e : LookupError) (rest : Result QueryView LookupError) (query : QueryView) → (if b then Err e else rest) ≡ Ok query → rest ≡ Ok query
not_refused true e rest query is = cc
not_refused false e rest query is = is

abbrev asks : QueryView → Result QueryView LookupError
asks query = Ok query

found : (asked query : QueryView) → asks asked ≡ Ok query → asked ≡ query
found asked query is = cc

from_there : (roster : RosterView) (source destination : ℕ) (query : QueryView) (kind : SegType) → record { kind = kind; start = destination; end = source } ≡ query → is_core roster destination ≡ true → AreSides query source destination × (is_core roster query.start ≡ true)
from_there roster source destination query kind is core =
    let start : query.start ≡ destination = ap (λ (q : QueryView). q.start) (sym is) in
    let end : query.end ≡ source = ap (λ (q : QueryView). q.end) (sym is) in
    (inr (start, end), ap (is_core roster) start ∙ core)

from_here : (roster : RosterView) (source destination : ℕ) (query : QueryView) (kind : SegType) → record { kind = kind; start = source; end = destination } ≡ query → is_core roster source ≡ true → AreSides query source destination × (is_core roster query.start ≡ true)
from_here roster source destination query kind is core =
    let start : query.start ≡ source = ap (λ (q : QueryView). q.start) (sym is) in
    let end : query.end ≡ destination = ap (λ (q : QueryView). q.end) (sym is) in
    (inl (start, end), ap (is_core roster) start ∙ core)

starts_at : (roster : RosterView) (source destination : ℕ) (query : QueryView) (from_core to_core : Bool) → is_core roster source ≡ from_core → is_core roster destination ≡ to_core
    → query_by_core from_core to_core source destination ≡ Ok query → AreSides query source destination × (is_core roster query.start ≡ true)
starts_at roster source destination query true true source_is destination_is is = from_there roster source destination query _ (found _ query is) destination_is
starts_at roster source destination query false true source_is destination_is is = from_there roster source destination query _ (found _ query is) destination_is
starts_at roster source destination query true false source_is destination_is is = from_here roster source destination query _ (found _ query is) source_is
starts_at roster source destination query false false source_is destination_is is = cc

abbrev unless_null : RosterView → ℕ → ℕ → Result QueryView LookupError
unless_null roster source destination =
    if is_isd_only_wildcard source || is_isd_only_wildcard destination then Err IsdOnlyWildcard
    else query_by_core (is_core roster source) (is_core roster destination) source destination

pub queries_start_at_a_core : QueriesStartAtACore
unfolding query_of
queries_start_at_a_core roster source destination query is =
    starts_at roster source destination query (is_core roster source) (is_core roster destination) refl refl
    (not_refused (is_isd_only_wildcard source || is_isd_only_wildcard destination) IsdOnlyWildcard (query_by_core (is_core roster source) (is_core roster destination) source destination) query
    (not_refused (source == 0 && destination == 0) NullDestination (unless_null roster source destination) query is))
