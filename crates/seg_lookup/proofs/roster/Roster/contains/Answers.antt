use Rattle.std.proofs.Common.{rules, ap, ◌∙◌}
use Rattle.std.proofs.lemmas.Fn.{always_returns_same}
use Rattle.std.specs.FinSet as set
use Rattle.std.specs.List.Sorted.{IsNonDecreasingBy, IsBinarySearchResult}
use Rattle.std.specs.Ordering.{nat_cmp}
use Rattle.isd_as.specs.declared.number.IsdAs.{IsdAs}
use Rattle.isd_as.specs.IsdAs.{isd_as_number}
use Rattle.seg_lookup.specs.Roster.{roster_of}
use Rattle.seg_lookup.proofs.Rosters.{found_in_roster}
use Rattle.seg_lookup.proofs.roster.Roster.contains.Goals as goal

-- the closure gives the number of a core AS
pub returns : goal.returns
returns c =
    let facts = c.binary_search_by_key-found.ensures in
    let cores = c.deref.result.now in
    let found = c.binary_search_by_key-found.result in
    let position : IsBinarySearchResult (λ (core : IsdAs). nat_cmp (isd_as_number core) c.to_u64-number.result) cores found = facts.position isd_as_number (always_returns_same _ _ _ (λ a r f called. search rules)) in
    let rising : IsNonDecreasingBy isd_as_number cores = rw c.deref.ensures.value c.self.invariant in
    c.is_ok.ensures.value
    ∙ found_in_roster cores c.to_u64-number.result found rising facts.bound position
    ∙ ap (λ n. set.contains (roster_of cores) n) c.to_u64-number.ensures
    ∙ ap (λ roster. set.contains roster (isd_as_number c.args.ia)) (ap roster_of c.deref.ensures.value ∙ c.self.view_is)
