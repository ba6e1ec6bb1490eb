use Rattle.std.proofs.Common.{rules}
use Rattle.seg_core.specs.Registration.{segments_decoding}
use Rattle.seg_core.proofs.registration.read_segments.Goals as goal

pub returns : goal.returns
unfolding segments_decoding
returns c = search rules

pub returns-in_err-read_segment : goal.returns-in_err-read_segment
unfolding segments_decoding
returns-in_err-read_segment c = search rules
