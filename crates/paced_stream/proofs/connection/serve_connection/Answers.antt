use Rattle.std.proofs.Common.{◌≡◌, [], ◌++◌, ap, ◌∙◌}
use Rattle.std.proofs.lemmas.List.{append-nil}
use Rattle.paced_stream.proofs.ConnectionLemmas.{not_set_up, without_buffer, hands_in_nothing, handed_in_through, served_through}
use Rattle.paced_stream.proofs.connection.serve_connection.Goals as goal

pub returns-then-is_err : goal.returns-then-is_err
returns-then-is_err g c = record {
  served = not_set_up _ _ _ _ _ _ _ _ _ c.close.ensures c.close-then-is_err.ensures;
  handed_in = hands_in_nothing _ _ _ _ _ _ c.close.ensures;
}

pub returns-in_default : goal.returns-in_default
returns-in_default g c = record {
  served = without_buffer _ _ _ _ _ _ _ _ _ c.close-in_default.ensures c.close-in_default-2.ensures;
  handed_in = hands_in_nothing _ _ _ _ _ _ c.close-in_default.ensures;
}

pub returns : goal.returns
returns g c =
    let taken = g.T.StreamCalls.taken in
    let buffered = c.new-buffered.result in
    let nothing : buffered.held.items ≡ [] = ap (λ held. held.items) c.new-buffered.ensures.1 ∙ c.in-Ok.ensures.items in
    let first : taken buffered.paced.stream ++ buffered.held.items ≡ taken c.args.output =
    ap (λ bytes. taken buffered.paced.stream ++ bytes) nothing ∙ append-nil (taken buffered.paced.stream)
    ∙ ap (λ paced. taken paced.stream) c.new-buffered.ensures.0 ∙ ap taken c.new.ensures ∙ ap taken c.into_stream-2.ensures in
    let left = c.into_paced-output.ensures in
    let last = ap (λ stream. taken stream ++ left.0) (c.of-2.ensures ∙ c.into_stream-4.ensures) ∙ left.1 in
    let begins = c.new-input.ensures ∙ c.into_stream.ensures in
    let ends = c.of.ensures ∙ c.into_stream-3.ensures in
    record {
      served = served_through c.args.kinds g.S.Service.answers g.T.StreamCalls.given taken g.T.StreamCalls.is_at_end (λ paced. paced.stream) _ _ _ _ _ _ _ _ _ _ left.0 _ _
          c.serve_over-replies.ensures.served (c.serve_over-replies.ensures.sent nothing) begins ends first last left.2;
      handed_in = handed_in_through c.args.kinds g.S.Service.answers g.T.StreamCalls.given taken g.T.StreamCalls.is_at_end (λ paced. paced.stream) g.S.Service.hands_in _ _ _ _ _ _
          c.serve_over-replies.ensures.handed_in begins ends;
    }
