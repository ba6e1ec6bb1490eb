use Rattle.std.proofs.Common.{arith}
use Rattle.seg_core.specs.EntryView.{borrowed_view}
use Rattle.seg_core.proofs.EncodedLengths.{entry-parts}
use Rattle.seg_core.proofs.lengths.signed_len.Goals as goal

pub bytes_len-requires : goal.bytes_len-requires
bytes_len-requires c = omega (arith, entry-parts (borrowed_view c.args.entry.now))

pub bytes_len-requires-2 : goal.bytes_len-requires-2
bytes_len-requires-2 c = omega (arith, entry-parts (borrowed_view c.args.entry.now))
