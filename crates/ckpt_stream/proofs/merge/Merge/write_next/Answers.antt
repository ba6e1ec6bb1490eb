-- What is made after the piece that is written.
use Rattle.std.proofs.Common.{arith, length, ap, subst}
use Rattle.std.specs.Prelude.{OnOk}
use Rattle.ckpt_stream.specs.Rewriting.{RewriteView}
use Rattle.ckpt_stream.specs.Merge.{MergeView, after_piece, MakesOn}
use Rattle.ckpt_stream.proofs.Written.{made_on}
use Rattle.ckpt_stream.proofs.merge.Merge.write_next.Goals as goal

pub returns-clause-made : goal.returns-clause-made
returns-clause-made g c =
    let made = subst (λ (p : RewriteView). MakesOn (g.D.Device.disk c.write.new.self) c.args.area c.self.inside.size p c.make_piece.new.rewrite) c.take.ensures c.make_piece.ensures.made in
    subst (λ (m : MergeView). OnOk c.make_piece.result (MakesOn (g.D.Device.disk c.make_piece.new.device) c.args.area m.size (after_piece m.rewrite) c.make_piece.new.rewrite)) c.self.view_is
    (made_on c.make_piece.result (g.D.Device.disk c.write.new.self) (g.D.Device.disk c.make_piece.new.device) c.args.area c.self.inside.size c.min-taken.result c.self.inside.rewrite c.make_piece.new.rewrite
    (omega (arith, c.min-taken.ensures, ap length c.made-2.ensures)) c.make_piece.ensures.looks.keeps c.make_piece.ensures.looks.history made)
