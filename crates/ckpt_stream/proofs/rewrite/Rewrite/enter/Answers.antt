use Rattle.std.proofs.Common.{refl, sym, ap, ◌∙◌}
use Rattle.ckpt_stream.specs.declared.plan.Edit.{Edit}
use Rattle.ckpt_stream.specs.Rewriting.{untaken_len, with_edit}
use Rattle.ckpt_stream.proofs.RewriteSteps.{put_len}
use Rattle.ckpt_stream.proofs.rewrite.Rewrite.enter.Goals as goal

pub returns-in-Put-clause-len : goal.returns-in-Put-clause-len
returns-in-Put-clause-len c =
    ap untaken_len c.put_next.ensures ∙ put_len c.args.self.now.rows c.args.self.now refl ∙ ap (λ (e : Edit). untaken_len (with_edit e c.args.self.now)) (sym c.in-Put.is)
