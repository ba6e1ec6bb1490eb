use Rattle.seg_lookup.proofs.Rosters.{rosters_have_their_cores}
use Rattle.seg_lookup.proofs.laws.rosters_have_their_cores.Goals as goal

pub returns : goal.returns
returns c = rosters_have_their_cores
