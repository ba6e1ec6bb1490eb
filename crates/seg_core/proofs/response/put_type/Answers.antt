use Rattle.std.proofs.Common.{◌++◌, ◌∙◌, sym, ap}
use Rattle.std.proofs.lemmas.Result.{on_ok_weaker}
use Rattle.std.proofs.lemmas.List.{append-nil}
use Rattle.pw_wire.specs.Field.{varint_field_encoding}
use Rattle.seg_core.specs.Encoding.{of_type, segments_encoding, referred_rows}
use Rattle.seg_core.proofs.Responses.{none-of, type-put}
use Rattle.seg_core.proofs.response.put_type.Goals as goal

pub returns-then-value-eq0 : goal.returns-then-value-eq0
returns-then-value-eq0 c =
    let ss = of_type c.args.kind (referred_rows c.args.segments.now) in
    rw (none-of c.args.kind ss (sym c.requires ∙ c.if-value-eq0.true)) (sym (append-nil c.args.out.now.items))

pub returns : goal.returns
returns c =
    let ss = of_type c.args.kind (referred_rows c.args.segments.now) in
    on_ok_weaker c.put_segments.result
    (type-put c.args.kind ss c.args.value c.in_ok-content_len.field-0 c.args.out.now.items c.put_head.new.out.items c.put_varint_field.new.out.items c.put_head-2.new.out.items c.put_segments.new.out.items
    (λ none. c.if-value-eq0.false (c.requires ∙ none)) c.requires (c.in_ok-content_len.ensures (segments_encoding ss) (sym c.requires))
    c.in_ok-put_head.ensures (c.in_ok-put_varint_field.ensures.ok ∙ ap (λ n. c.put_head.new.out.items ++ varint_field_encoding 1 n) c.number.ensures) c.in_ok-put_head-2.ensures)
    c.put_segments.ensures
