use Rattle.std.proofs.Common.{◌≡◌, ◌++◌, drop}
use Rattle.seg_core.specs.Encoding.{segments_encoding}
use Rattle.seg_core.proofs.typed_response.put_all.Given as goal

abbrev pub invariant-loop-segment : goal.invariant-loop-segment
invariant-loop-segment l = l.out.items ++ segments_encoding (drop l.segment-index l.segments) ≡ l.fn.out.items ++ segments_encoding l.segments
