use Rattle.std.proofs.Common.{◌∙◌, sym, ap, length, arith}
use Rattle.std.proofs.lemmas.Result.{IfOk-weaker}
use Rattle.seg_core.specs.Encoding.{segments_encoding}
use Rattle.seg_core.proofs.Responses.{none-of, some-of, content_of, content-length}
use Rattle.seg_core.proofs.response.map_entry_len.Goals as goal

pub returns-then-value-eq0 : goal.returns-then-value-eq0
returns-then-value-eq0 c = λ kind ss is. sym (ap length (none-of kind ss (sym is ∙ c.if-value-eq0.true)))

pub returns : goal.returns
returns c = λ kind ss is.
    let content = c.in_ok-content.ensures (segments_encoding ss) (sym is) in
    let whole = c.head_len.ensures.exact 1 (content_of kind ss) (omega arith) (content-length kind ss ∙ sym content) in
    let some = some-of kind ss (λ none. c.if-value-eq0.false (is ∙ none)) in
    IfOk-weaker c.sum.result _ _ (λ n same. same ∙ whole ∙ ap length (sym some)) c.sum.ensures
