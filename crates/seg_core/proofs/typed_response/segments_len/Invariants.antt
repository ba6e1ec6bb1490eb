use Rattle.std.proofs.Common.{◌≡◌, ◌+◌, length, drop}
use Rattle.seg_core.specs.Encoding.{segments_encoding}
use Rattle.seg_core.proofs.typed_response.segments_len.Given as goal

abbrev pub invariant-loop-segment : goal.invariant-loop-segment
invariant-loop-segment l = l.len + length (segments_encoding (drop l.segment-index l.segments)) ≡ length (segments_encoding l.segments)
