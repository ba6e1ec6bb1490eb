use Rattle.std.proofs.Common.{refl, sym, ap, subst, ◌∙◌}
use Rattle.store_layout.specs.Journal.{all_of}
use Rattle.path_session.specs.Answered.{HubAnswers}
use Rattle.path_session.specs.Acknowledged.{AreClaimed}
use Rattle.path_session.specs.Serving.{Serving}
use Rattle.path_session.specs.Kept.{serving}
use Rattle.path_session.specs.Sending.{HandsInAtMost}
use Rattle.path_session.proofs.Acknowledging.{are_claimed}
use Rattle.session_limits.specs.Limits.{LimitedView, LimitedAnswers, limited}
use Rattle.paced_stream.specs.Connection.{IsConnectionServed}
use Rattle.path_server.specs.declared.options.Options.{Options}
use Rattle.path_server.specs.Verifying.{verdicts_of}
use Rattle.path_server.proofs.Claimed.{limited_keeps, begins_so}
use Rattle.path_server.proofs.HandedIn.{handed_below, nothing_below}
use Rattle.path_server.proofs.NoCommands.{claims_stay}
use Rattle.path_server.proofs.server.Server.serve.Goals as goal

pub returns-clause-served : goal.returns-clause-served
returns-clause-served g c =
    let state = serving (λ (options : Options). verdicts_of options.key) g.P.Waiter.has_left in
    let opening = g.N.StateName.opening in
    let refused = g.N.QueueName.refused in
    let shut = g.N.ReaderName.shut in
    let ended = c.serve_connection-ended in
    let last = limited state ended.new.service.service in
    let begins = ap (λ service. limited state service) c.new-counted.ensures ∙ c.new-limited.ensures.view ∙ begins_so _ _ _ _ _ _ _ _ c.limits-limits.ensures.future c.limits-limits.ensures.rooms c.limits-limits.ensures.commands c.new-service.ensures.begins in
    let connection = subst (λ (start : LimitedView Serving). IsConnectionServed c.args.self.now.options.now.kinds (LimitedAnswers (HubAnswers opening refused shut)) g.T.StreamCalls.given g.T.StreamCalls.taken g.T.StreamCalls.is_at_end
    start last c.args.input ended.result.input c.args.output ended.result.output ended.result.replies) begins ended.ensures.served in record {
      reader = c.args.reader;
      last = last;
      connection = connection;
      acknowledged = subst (AreClaimed opening connection.served.exchanges)
          (ap (λ limits. (state limits.inner).acknowledged) (sym c.into_service.ensures) ∙ ap (λ service. (state service).acknowledged) (sym c.into_service-service.ensures) ∙ sym c.into_parts-reader.ensures.acknowledged)
          (are_claimed opening (LimitedAnswers (HubAnswers opening refused shut)) (λ (s : LimitedView Serving). s.inner.acknowledged) (limited_keeps opening refused shut) _ connection.served.exchanges last refl connection.served.answered);
      looked = c.into_parts-reader.ensures.looked ∙ ap (λ service. all_of (state service).groups) c.into_service-service.ensures ∙ ap (λ limits. all_of (state limits.inner).groups) c.into_service.ensures;
    }

pub returns-clause-nothing : goal.returns-clause-nothing
returns-clause-nothing g c off =
    let state = serving (λ (options : Options). verdicts_of options.key) g.P.Waiter.has_left in
    let opening = g.N.StateName.opening in
    let refused = g.N.QueueName.refused in
    let shut = g.N.ReaderName.shut in
    let ended = c.serve_connection-ended in
    let last = limited state ended.new.service.service in
    let begins = ap (λ service. limited state service) c.new-counted.ensures ∙ c.new-limited.ensures.view ∙ begins_so _ _ _ _ _ _ _ _ c.limits-limits.ensures.future c.limits-limits.ensures.rooms c.limits-limits.ensures.commands c.new-service.ensures.begins in
    let connection = subst (λ (start : LimitedView Serving). IsConnectionServed c.args.self.now.options.now.kinds (LimitedAnswers (HubAnswers opening refused shut)) g.T.StreamCalls.given g.T.StreamCalls.taken g.T.StreamCalls.is_at_end
    start last c.args.input ended.result.input c.args.output ended.result.output ended.result.replies) begins ended.ensures.served in
    let handed = ap (λ limits. (state limits.inner).acknowledged) (sym c.into_service.ensures) ∙ ap (λ service. (state service).acknowledged) (sym c.into_service-service.ensures) ∙ sym c.into_parts-reader.ensures.acknowledged in
    sym handed ∙ claims_stay opening refused shut _ connection.served.exchanges last off connection.served.answered

pub returns-clause-handed_in : goal.returns-clause-handed_in
returns-clause-handed_in g c =
    let ended = c.serve_connection-ended in
    let starts = ap (λ limited. limited.inner.sender) c.new-counted.ensures ∙ ap (λ service. service.sender) c.new-limited.ensures.inner ∙ c.new-service.ensures.sender in
    let ends = c.into_parts-reader.ensures.sent ∙ ap (λ service. service.sender) c.into_service-service.ensures ∙ ap (λ limited. limited.inner.sender) c.into_service.ensures in
    handed_below (λ old message new. HandsInAtMost message old new) _ _ _ _ _ _ _ _ _ ended.ensures.handed_in starts ends

pub returns-clause-unsent : goal.returns-clause-unsent
returns-clause-unsent g c off =
    let ended = c.serve_connection-ended in
    let starts = ap (λ limited. limited.inner.sender) c.new-counted.ensures ∙ ap (λ service. service.sender) c.new-limited.ensures.inner ∙ c.new-service.ensures.sender in
    let ends = c.into_parts-reader.ensures.sent ∙ ap (λ service. service.sender) c.into_service-service.ensures ∙ ap (λ limited. limited.inner.sender) c.into_service.ensures in
    let begins_off = ap (λ limited. limited.commands) c.new-counted.ensures ∙ ap (λ view. view.commands) c.new-limited.ensures.view ∙ c.limits-limits.ensures.commands ∙ off in
    ends ∙ nothing_below (λ old message new. HandsInAtMost message old new) _ _ _ _ _ _ _ ended.ensures.handed_in begins_off ∙ starts
