use Rattle.std.proofs.Common.{refl}
use Rattle.session_core.specs.ReplyViews.{reply_view}
use Rattle.session_core.proofs.AheadLemmas.{first_settled, still_handed_in}
use Rattle.session_core.proofs.session.Session.settle.Goals as goal

pub returns : goal.returns
returns g c = record {
  answered = rw c.advance.ensures (first_settled _ g.S.Service.is_for g.S.Ack.Acknowledges.says g.S.Service.answers _ _ c.args.first c.args.self.now.inbox c.settle-answered.result (reply_view g.S.Ack.Acknowledges.says c.reply_to.result)
      c.requires.first c.reply_to.ensures.reply c.reply_to.ensures.sized c.settle-answered.ensures.answers);
  kinds = refl;
  others = rw c.advance.ensures (still_handed_in c.args.self.now.kinds g.S.Service.is_for _ _ _ _ c.settle-answered.ensures.others c.requires.others);
  left = c.advance.ensures;
  same = refl;
  handed_in = c.settle-answered.ensures.sent;
}
