use Rattle.std.proofs.Common.{◌≡◌, ◌++◌, length, ap, arith, length-append}
use Rattle.std.proofs.lemmas.Result.{IfOk-weaker}
use Rattle.pw_wire.specs.Field.{bytes_field_encoding}
use Rattle.seg_core.specs.declared.pieces.Spans.{Spans}
use Rattle.seg_core.specs.EntryView.{borrowed_view}
use Rattle.seg_core.specs.Encoding.{field_head_encoding, pieces_encoding, as_entry_encoding}
use Rattle.seg_core.proofs.Sizes.{bytes_field-within}
use Rattle.seg_core.proofs.EncodedLengths.{entry-parts}
use Rattle.seg_core.proofs.Written.{entry-put, entry-lengths}
use Rattle.seg_core.proofs.putting.put_entry.Goals as goal

pub signed_len-signed-requires : goal.signed_len-signed-requires
signed_len-signed-requires c =
    let e = borrowed_view c.args.entry.now in
    omega (arith, entry-parts e, bytes_field-within 2 (as_entry_encoding e))

pub entry_len-requires-clause-short : goal.entry_len-requires-clause-short
entry_len-requires-clause-short c = omega (arith, bytes_field-within 2 (as_entry_encoding (borrowed_view c.args.entry.now)))

pub put_pieces-requires : goal.put_pieces-requires
put_pieces-requires c =
    let len = c.entry_len.result in
    let signed = c.signed_len-signed.result in
    omega (
      arith,
      entry-lengths (borrowed_view c.args.entry.now) len signed c.entry_len.ensures c.signed_len-signed.ensures,
      ap length c.in_ok-put_head.ensures,
      length-append c.args.out.now.items (field_head_encoding 2 len),
      ap length c.in_ok-put_head-2.ensures,
      length-append c.put_head.new.out.items (field_head_encoding 1 signed),
    )

pub returns-clause-put : goal.returns-clause-put
returns-clause-put c =
    let e = borrowed_view c.args.entry.now in
    let out = c.args.out.now.items in
    let opened = c.put_head-2.new.out.items in
    let done = c.put_pieces.new.out.items in
    IfOk-weaker c.put_pieces.result (λ (spans : Spans). done ≡ opened ++ pieces_encoding e) (λ (spans : Spans). done ≡ out ++ bytes_field_encoding 2 (as_entry_encoding e))
    (λ spans is.
    entry-put e c.entry_len.result c.signed_len-signed.result out c.put_head.new.out.items opened done
    c.entry_len.ensures c.signed_len-signed.ensures c.in_ok-put_head.ensures c.in_ok-put_head-2.ensures is)
    c.put_pieces.ensures.put
