use Rattle.ckpt_stream.proofs.RewriteSteps.{cut_moved}
use Rattle.ckpt_stream.proofs.rewrite_buffer.cut_front.Goals as goal

pub returns-clause-left : goal.returns-clause-left
returns-clause-left c = cut_moved c.args.count c.args.used c.args.buffer.now c.copy_within.new.self c.requires.count c.requires.used c.copy_within.ensures.after
