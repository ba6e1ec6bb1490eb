use Rattle.std.proofs.Common.{◌≡◌, ◌++◌, length, ap, refl, arith, length-append}
use Rattle.std.proofs.lemmas.Result.{IfOk-weaker}
use Rattle.pw_wire.specs.Field.{bytes_field_encoding}
use Rattle.seg_core.specs.declared.pieces.Span.{Span}
use Rattle.seg_core.specs.Encoding.{field_head_encoding}
use Rattle.seg_core.proofs.Written.{field-put, head-length}
use Rattle.seg_core.proofs.putting.put_field.Goals as goal

pub put_piece-requires : goal.put_piece-requires
put_piece-requires c =
    let bytes = c.args.bytes.now in
    omega (arith, head-length c.args.number (length bytes) bytes refl, ap length c.in_ok-put_head.ensures, length-append c.args.out.now.items (field_head_encoding c.args.number (length bytes)))

pub returns-clause-put : goal.returns-clause-put
returns-clause-put c =
    let out = c.args.out.now.items in
    let bytes = c.args.bytes.now in
    let headed = c.put_head.new.out.items in
    let done = c.put_piece.new.out.items in
    IfOk-weaker c.put_piece.result (λ (span : Span). done ≡ headed ++ bytes) (λ (span : Span). done ≡ out ++ bytes_field_encoding c.args.number bytes)
    (λ span is. field-put c.args.number (length bytes) bytes out headed done refl c.in_ok-put_head.ensures is)
    c.put_piece.ensures.put
