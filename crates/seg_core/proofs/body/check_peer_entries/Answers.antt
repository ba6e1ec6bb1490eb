use Rattle.std.proofs.Common.{rules}
use Rattle.seg_core.proofs.body.check_peer_entries.Goals as goal

pub returns : goal.returns
returns c = search rules
