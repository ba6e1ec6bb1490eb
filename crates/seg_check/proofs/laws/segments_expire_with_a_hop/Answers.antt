use Rattle.seg_check.proofs.Expiries.{expiry-le_hops, expiry-of_hop, expiry-fits}
use Rattle.seg_check.proofs.laws.segments_expire_with_a_hop.Goals as goal

pub returns-clause-none_before : goal.returns-clause-none_before
returns-clause-none_before c s whole = expiry-le_hops s

pub returns-clause-one_then : goal.returns-clause-one_then
returns-clause-one_then c s whole = expiry-of_hop s whole.counted.0

pub returns-clause-fits : goal.returns-clause-fits
returns-clause-fits c = expiry-fits
