use Rattle.std.proofs.Common.{sym, arith}
use Rattle.seg_core.specs.EntryView.{borrowed_view}
use Rattle.seg_core.specs.Encoding.{signed_encoding}
use Rattle.seg_core.proofs.EncodedLengths.{entry-parts}
use Rattle.seg_core.proofs.lengths.entry_len.Goals as goal

pub overflow_add-result : goal.overflow_add-result
overflow_add-result c = omega (arith, entry-parts (borrowed_view c.args.entry.now))

pub overflow_add-result-2 : goal.overflow_add-result-2
overflow_add-result-2 c = omega (arith, entry-parts (borrowed_view c.args.entry.now))

pub returns : goal.returns
returns c =
    let e = borrowed_view c.args.entry.now in
    omega (arith, entry-parts e, c.head_len.ensures.exact 1 (signed_encoding e) (omega arith) (sym c.requires.signed))
