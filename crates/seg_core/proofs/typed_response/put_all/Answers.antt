-- One more segment.
use Rattle.std.proofs.Common.{◌≡◌, ◌+◌, ◌∷◌, ◌++◌, drop, sym, ap, ◌∙◌, append_assoc}
use Rattle.std.proofs.lemmas.List.{drop_more}
use Rattle.std.proofs.lemmas.List.Concat.{flat_map-cons}
use Rattle.pw_wire.specs.Field.{bytes_field_encoding}
use Rattle.seg_core.specs.Encoding.{segment_encoding, segments_encoding}
use Rattle.seg_core.proofs.Written.{field-put}
use Rattle.seg_core.proofs.typed_response.put_all.Goals as goal

pub loop-segment-preserved : goal.loop-segment-preserved
loop-segment-preserved c =
    let segments = c.args.segments.now in
    let index = c.loop-segment.segment-index in
    let segment = c.segment-item.result in
    let out = c.loop-segment.out.items in
    let left = drop (index + 1) segments in
    let front : drop index segments ≡ segment ∷ left = drop_more segments index segment c.loop-segment-test.true ∙ ap (λ s. s ∷ left) (sym c.segment-item.is) in
    let first = bytes_field_encoding 1 (segment_encoding segment) in
    let split : segments_encoding (drop index segments) ≡ first ++ segments_encoding left =
    ap segments_encoding front ∙ flat_map-cons (λ s. bytes_field_encoding 1 (segment_encoding s)) segment left in
    ap (λ bytes. bytes ++ segments_encoding left)
    (field-put 1 c.encoded_len.result (segment_encoding segment) out c.put_head.new.out.items c.put_segment.new.out.items c.encoded_len.ensures.exact c.in_ok-put_head.ensures c.in_ok-put_segment.ensures.ok)
    ∙ append_assoc out first (segments_encoding left)
    ∙ ap (λ bytes. out ++ bytes) (sym split)
    ∙ c.loop-segment.invariant
