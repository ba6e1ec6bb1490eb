use Rattle.std.proofs.Common.{rules}
use Rattle.seg_core.specs.Request.{request_decoding}
use Rattle.seg_core.proofs.request.read_request.Goals as goal

pub returns : goal.returns
unfolding request_decoding
returns c = search rules
