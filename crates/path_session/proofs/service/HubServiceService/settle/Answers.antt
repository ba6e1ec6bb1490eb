use Rattle.std.proofs.Common.{sym, subst}
use Rattle.seg_check.specs.Signatures.{Verdicts}
use Rattle.path_session.specs.Kept.{serving}
use Rattle.path_session.specs.UnderWay.{IsFor}
use Rattle.path_session.proofs.ServingLemmas.{settled_coded, verdicts_stay}
use Rattle.path_session.proofs.service.HubServiceService.settle.Goals as goal

pub returns : goal.returns
returns g c =
    let old = serving g.V.Verifier.verifies g.P.Waiter.has_left c.args.self.now in
    let new = serving g.V.Verifier.verifies g.P.Waiter.has_left c.answer.new.self in
    let taken = c.args.under_way in
    record {
      answers = λ message kind known of_kind. settled_coded g.N.StateName.opening g.N.QueueName.refused g.N.ReaderName.shut old taken message kind c.answer.result c.coded.result new known of_kind c.answer.ensures.answered (c.coded.ensures kind);
      others = λ other message known. subst (λ (verifies : Verdicts). IsFor g.N.QueueName.refused verifies other message) (sym (verdicts_stay g.N.StateName.opening g.N.QueueName.refused old new taken.handed c.answer.result taken.moment c.answer.ensures.answered)) known;
      sent = c.answer.ensures.sent;
    }
