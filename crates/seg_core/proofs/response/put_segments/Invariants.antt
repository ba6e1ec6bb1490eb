use Rattle.std.proofs.Common.{◌≡◌, ◌++◌, drop}
use Rattle.seg_core.specs.Encoding.{segments_encoding, of_type, referred_rows}
use Rattle.seg_core.proofs.response.put_segments.Given as goal

abbrev pub invariant-loop-of : goal.invariant-loop-of
invariant-loop-of l =
    l.out.items ++ segments_encoding (of_type l.kind (referred_rows (drop l.of-index l.segments))) ≡ l.fn.out.items ++ segments_encoding (of_type l.kind (referred_rows l.segments))
