use Rattle.std.proofs.Common.{ap, length, arith, length-append}
use Rattle.pw_wire.specs.Field.{bytes_field_encoding}
use Rattle.seg_core.specs.EntryView.{borrowed_view}
use Rattle.seg_core.specs.Encoding.{as_entry_encoding}
use Rattle.seg_core.proofs.Sizes.{bytes_field-mono}
use Rattle.seg_core.proofs.Whole.{entry_read}
use Rattle.seg_core.proofs.segment.read_entry.Goals as goal

pub put_entry-requires : goal.put_entry-requires
put_entry-requires c =
    let e = borrowed_view c.in_ok-entry.entry in
    let message = c.args.message.now in
    let was = entry_read message e (λ i. omega (arith, c.type_inv.message i)) c.in_ok-entry.ensures in
    omega (arith, bytes_field-mono 2 (as_entry_encoding e) message was.short)

pub returns-clause-short : goal.returns-clause-short
returns-clause-short c =
    let e = borrowed_view c.in_ok-entry.entry in
    let message = c.args.message.now in
    let was = entry_read message e (λ i. omega (arith, c.type_inv.message i)) c.in_ok-entry.ensures in
    omega (arith, bytes_field-mono 2 (as_entry_encoding e) message was.short, ap length c.in_ok-spans.ensures.put, length-append c.args.out.now.items (bytes_field_encoding 2 (as_entry_encoding e)))
