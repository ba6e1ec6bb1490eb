use Rattle.std.proofs.Common.{◌≡◌, ◌-◌, ℕ, min, length, take, sym, ap, subst, ◌∙◌, arith}
use Rattle.std.proofs.lemmas.List.{length-take, take_min}
use Rattle.ckpt_pair.specs.Stream.{StreamView, HasStreamed}
use Rattle.ckpt_pair.proofs.Streams.{streamed_more}
use Rattle.ckpt_pair.proofs.row_stream.RowStream.push.Goals as goal

pub returns-clause-pushed : goal.returns-clause-pushed
returns-clause-pushed c = λ size count pushed given is.
    let s = c.self.inside in
    let stream : StreamView = record { cursor = s.cursor; bytes = s.bytes; rows = s.rows } in
    let piece = c.args.piece.now in
    let taken = take c.min.result piece in
    let few : c.min.result ≡ min s.bytes (length piece) = omega (arith, c.min.ensures) in
    let front : taken ≡ take s.bytes piece = ap (λ (n : ℕ). take n piece) few ∙ take_min s.bytes piece in
    streamed_more size count pushed given stream (subst (λ (v : StreamView). HasStreamed size count pushed given v) (sym c.self.view_is) is)
    piece taken c.push.new.self (s.bytes - length taken) (c.in_ok-push.ensures.fed (take size pushed) given) front
    (omega (arith, few, length-take c.min.result piece))
