use Rattle.std.proofs.Common.{refl, sym, subst}
use Rattle.command_queue.specs.Handed.{Handed}
use Rattle.session_core.specs.declared.command_kind.CommandKind.TheVariants as kind
use Rattle.session_core.specs.declared.message.Message.TheVariants.{Register}
use Rattle.session_core.specs.declared.service.Ack.{Ack}
use Rattle.session_core.specs.Service.{reply_to_register}
use Rattle.path_session.specs.Answered.{HubAnswers}
use Rattle.path_session.specs.Kept.{serving}
use Rattle.path_session.specs.Serving.{Serving}
use Rattle.path_session.specs.Sending.{HandsInAtMost}
use Rattle.path_session.proofs.Sending.{registration_sent}
use Rattle.path_session.proofs.service.HubServiceService.register.Goals as goal

pub returns : goal.returns
returns g c =
    let taken = c.take_registration-under_way.ensures in
    let after = c.take_registration-under_way.new.self in
    let new = serving g.V.Verifier.verifies g.P.Waiter.has_left c.settle.new.self in
    let under_way = c.take_registration-under_way.result in
    let handed = registration_sent g.N.QueueName.refused c.args.self.now.sender after.sender (g.V.Verifier.verifies after.verifier.now) c.args.message.now under_way.moment under_way.handed taken.known taken.sent in
    record {
      answers = subst (λ (old : Serving). HubAnswers g.N.StateName.opening g.N.QueueName.refused g.N.ReaderName.shut old (Register c.args.message.now) (reply_to_register (λ (ack : Ack). ack) c.settle.result) new) taken.same
          (c.settle.ensures.answers (Register c.args.message.now) kind.Register taken.known refl);
      sent = subst (λ (s : Handed). HandsInAtMost (Register c.args.message.now) c.args.self.now.sender s) (sym c.settle.ensures.sent) handed;
    }
