use Rattle.seg_lookup.proofs.Sides.{queries_start_at_a_core}
use Rattle.seg_lookup.proofs.laws.queries_start_at_a_core.Goals as goal

pub returns : goal.returns
returns c = queries_start_at_a_core
