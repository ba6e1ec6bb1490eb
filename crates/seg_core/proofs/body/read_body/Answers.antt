use Rattle.std.proofs.Common.{rules}
use Rattle.seg_core.specs.Entry.{body_decoding}
use Rattle.seg_core.proofs.body.read_body.Goals as goal

pub returns : goal.returns
unfolding body_decoding
returns c = search rules
