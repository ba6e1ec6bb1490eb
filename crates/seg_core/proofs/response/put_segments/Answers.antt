use Rattle.std.proofs.Common.{◌++◌, sym, ◌∙◌}
use Rattle.seg_core.specs.Encoding.{segments_encoding, of_type, referred_rows}
use Rattle.seg_core.proofs.Responses.{segment-next, other-next}
use Rattle.seg_core.proofs.response.put_segments.Goals as goal
use Rattle.seg_core.proofs.response.put_segments.Goals.{then-eq+in_ok-put_head+in_ok-put_segment, else-eq}

pub loop-of-preserved : goal.loop-of-preserved
loop-of-preserved c =
    let rows = c.args.segments.now in
    let whole = c.args.out.now.items ++ segments_encoding (of_type c.args.kind (referred_rows rows)) in
    elim c.if-eq.branch [
      | then-eq+in_ok-put_head+in_ok-put_segment w ↦
          rw w.out-is (segment-next c.args.kind rows c.loop-of.of-index c.loop-of-item.result w.encoded_len.result whole c.loop-of.out.items w.put_head.new.out.items w.put_segment.new.out.items
          c.loop-of-test.true c.loop-of-item.is (sym c.eq.ensures ∙ w.if-eq.true) c.loop-of.invariant w.encoded_len.ensures.exact w.in_ok-put_head.ensures w.in_ok-put_segment.ensures.ok)
      | else-eq w ↦
          rw w.out-is (other-next c.args.kind rows c.loop-of.of-index c.loop-of-item.result whole c.loop-of.out.items
          c.loop-of-test.true c.loop-of-item.is (sym c.eq.ensures ∙ w.if-eq.false) c.loop-of.invariant)
    ]
