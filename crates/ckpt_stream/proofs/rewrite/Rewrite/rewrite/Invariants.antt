use Rattle.ckpt_stream.specs.Rewriting.{Rewrites, steps_left}
use Rattle.ckpt_stream.proofs.rewrite.Rewrite.rewrite.Given as goal

abbrev pub invariant-loop : goal.invariant-loop
invariant-loop l = Rewrites l.from l.window l.initial.self l.self

abbrev pub decreases-loop : goal.decreases-loop
decreases-loop l = steps_left l.self
