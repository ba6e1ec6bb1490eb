use Rattle.std.proofs.Common.{◌∙◌, refl, sym, ap, length}
use Rattle.seg_core.proofs.EncodedLengths.{bytes-some}
use Rattle.seg_core.proofs.lengths.bytes_len.Goals as goal

pub returns : goal.returns
returns c = λ k lt.
    c.head_len.ensures.exact k c.args.bytes.now lt refl
    ∙ ap length (sym (bytes-some k c.args.bytes.now (sym c.is_empty.ensures ∙ c.if-is_empty.false)))
