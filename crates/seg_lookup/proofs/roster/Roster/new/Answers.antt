use Rattle.std.proofs.Common.{rules}
use Rattle.std.proofs.lemmas.List.Sorted.{IsNonDecreasingBy-from_sort_by_key}
use Rattle.isd_as.specs.IsdAs.{isd_as_number}
use Rattle.seg_lookup.proofs.Rosters.{same_roster}
use Rattle.seg_lookup.proofs.roster.Roster.new.Goals as goal

pub invariant_of-result : goal.invariant_of-result
invariant_of-result c = IsNonDecreasingBy-from_sort_by_key isd_as_number _ c.sort_unstable_by_key.ensures.sorted (λ a r f called. search rules)

pub returns : goal.returns
returns c = same_roster _ _ c.sort_unstable_by_key.ensures.permutation
