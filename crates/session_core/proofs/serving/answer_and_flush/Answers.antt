use Rattle.session_core.proofs.SessionLemmas.{not_flushed}
use Rattle.session_core.proofs.serving.answer_and_flush.Goals as goal

pub returns-then-is_err : goal.returns-then-is_err
returns-then-is_err g c = record {
  fronts = not_flushed c.args.form g.S.Service.answers _ _ _ _ (g.W.Sink.contents c.args.replies.now.writer) (g.W.Sink.contents c.answer_all.new.replies.writer) (g.W.Sink.contents c.send.new.self.writer) _ c.answer_all.result c.answer_all.ensures.fronts c.send.ensures.bytes;
  none = tt;
  kinds = c.answer_all.ensures.kinds;
  sent = tt;
  handed_in = c.answer_all.ensures.handed_in;
}
