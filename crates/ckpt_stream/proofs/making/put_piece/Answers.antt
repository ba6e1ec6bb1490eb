use Rattle.std.proofs.Common.{◌≡◌, ℕ, ◌+◌, ◌-◌, ◌*◌, ◌/◌, ◌∙◌, List, ◌++◌, length, take, drop, replicate, ap, arith, length-append, length-take, length-drop}
use Rattle.ckpt_stream.proofs.Pieces.{padded_in, padded_size}
use Rattle.ckpt_stream.proofs.making.put_piece.Goals as goal

pub returns-clause-piece : goal.returns-clause-piece
returns-clause-piece c =
    let size : ℕ = c.min-size.result in
    let k : ℕ = (c.min-size.result + 511) / 512 * 512 - c.min-size.result in
    let rest : List ℕ = c.copy_from_slice.new.self ++ drop c.min-size.result c.args.window.now in
    let long : length (take k (drop size rest)) ≡ k = omega (arith, length-take k (drop size rest), length-drop size rest, length-append c.copy_from_slice.new.self (drop c.min-size.result c.args.window.now), length-drop c.min-size.result c.args.window.now, c.min-size.ensures, c.copy_from_slice.ensures.len, c.requires) in
    padded_in c.args.made.now c.copy_from_slice.new.self c.args.window.now c.fill.new.self c.min-size.result _ c.min-size.ensures c.copy_from_slice.ensures.after (c.fill.ensures.after (λ y h. h) ∙ ap (λ (n : ℕ). replicate n 0) long)

pub returns-clause-size : goal.returns-clause-size
returns-clause-size c = padded_size c.args.made.now c.min-size.result c.min-size.ensures
