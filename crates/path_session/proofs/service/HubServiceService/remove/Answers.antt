use Rattle.std.proofs.Common.{refl, sym, subst}
use Rattle.command_queue.specs.Handed.{Handed}
use Rattle.session_core.specs.declared.command_kind.CommandKind.TheVariants as kind
use Rattle.session_core.specs.declared.message.Message.TheVariants.{Remove}
use Rattle.session_core.specs.declared.service.Ack.{Ack}
use Rattle.session_core.specs.Service.{reply_to_remove}
use Rattle.path_session.specs.Answered.{HubAnswers}
use Rattle.path_session.specs.Kept.{serving}
use Rattle.path_session.specs.Serving.{Serving}
use Rattle.path_session.specs.Sending.{HandsInAtMost}
use Rattle.path_session.proofs.Sending.{removal_sent}
use Rattle.path_session.proofs.service.HubServiceService.remove.Goals as goal

pub returns : goal.returns
returns g c =
    let taken = c.take_removal-under_way.ensures in
    let new = serving g.V.Verifier.verifies g.P.Waiter.has_left c.settle.new.self in
    let handed = removal_sent g.N.QueueName.refused c.args.self.now.sender c.take_removal-under_way.new.self.sender c.args.kind c.args.id.now c.take_removal-under_way.result.handed taken.known taken.sent in
    record {
      answers = subst (λ (old : Serving). HubAnswers g.N.StateName.opening g.N.QueueName.refused g.N.ReaderName.shut old (Remove c.args.kind c.args.id.now) (reply_to_remove (λ (ack : Ack). ack) c.settle.result) new) taken.same
          (c.settle.ensures.answers (Remove c.args.kind c.args.id.now) kind.Remove (taken.moment, taken.known) refl);
      sent = subst (λ (s : Handed). HandsInAtMost (Remove c.args.kind c.args.id.now) c.args.self.now.sender s) (sym c.settle.ensures.sent) handed;
    }
