-- The bytes that are appended are the one map entry of the response.
use Rattle.std.proofs.Common.{rules, ◌++◌, sym, ap, ◌∙◌}
use Rattle.pw_wire.specs.Field.{varint_field_encoding}
use Rattle.seg_core.specs.Encoding.{segments_encoding, map_entry_encoding}
use Rattle.seg_core.proofs.OneType.{response-one_type, response-nothing, not_nothing}
use Rattle.seg_core.proofs.Responses.{type-put}
use Rattle.seg_core.proofs.typed_response.write_response_of_type.Goals as goal

pub returns-then-is_empty-clause-exact : goal.returns-then-is_empty-clause-exact
returns-then-is_empty-clause-exact c = c.new.ensures.items ∙ sym (response-nothing c.args.kind c.args.segments.now (search rules))

pub returns-clause-exact : goal.returns-clause-exact
returns-clause-exact c =
    let kind = c.args.kind in
    let segments = c.args.segments.now in
    type-put kind segments c.in_ok-value.value c.in_ok-content.content c.in_ok-out.out.items c.put_head.new.out.items c.put_varint_field.new.out.items c.put_head-2.new.out.items c.put_all.new.out.items
    (not_nothing segments (search rules)) c.in_ok-value.ensures (c.in_ok-content.ensures (segments_encoding segments) (sym c.in_ok-value.ensures))
    c.in_ok-put_head.ensures (c.in_ok-put_varint_field.ensures.ok ∙ ap (λ n. c.put_head.new.out.items ++ varint_field_encoding 1 n) c.number.ensures) c.in_ok-put_head-2.ensures c.in_ok-put_all.ensures
    ∙ ap (λ bytes. bytes ++ map_entry_encoding kind segments) c.in_ok-out.ensures.items
    ∙ sym (response-one_type kind segments)
