-- Each acknowledgement of a limited session has its claim: for `Server::serve`.
use Rattle.std.proofs.Common.{◌≡◌, inl, inr, ℕ, Bool, List, Option, Some, None, refl, sym, ap, ◌∙◌, subst}
use Rattle.path_db.specs.declared.command.Command.{Command}
use Rattle.row_map.specs.Database.{RowView}
use Rattle.store_layout.specs.Opening.{StoreValue}
use Rattle.group_core.specs.declared.submit_error.SubmitError.{SubmitError}
use Rattle.session_core.specs.Frames.{MessageView}
use Rattle.session_core.specs.Reply.{ReplyView}
use Rattle.path_session.specs.Serving.{Serving}
use Rattle.path_session.specs.Answered.{HubAnswers}
use Rattle.path_session.specs.Acknowledged.{ack_in}
use Rattle.path_session.proofs.Acknowledging.{Keeps, answer_keeps}
use Rattle.session_limits.specs.Limits.{LimitedView, LimitedAnswers, after_judging}
use Rattle.path_server.specs.Attending.{limited_beginning}

-- judging a message keeps the claims
judging_keeps : (old : LimitedView Serving) (moment : Option ℕ) → (after_judging old moment).inner.acknowledged ≡ old.inner.acknowledged
judging_keeps old (Some moment) = refl
judging_keeps old None = refl

pub limited_keeps : (opening : StoreValue (List RowView)) (refused : Command → Option SubmitError → Bool) (shut : Bool) (old : LimitedView Serving) (message : MessageView) (reply : ReplyView) (new : LimitedView Serving)
    → LimitedAnswers (HubAnswers opening refused shut) old message reply new → Keeps opening old.inner.acknowledged message (ack_in reply) new.inner.acknowledged
limited_keeps opening refused shut old message reply new (inl a) = answer_keeps opening refused shut old.inner message reply new.inner a.answered
limited_keeps opening refused shut old message reply new (inr a) =
    let same : new.inner.acknowledged ≡ old.inner.acknowledged = ap (λ (s : LimitedView Serving). s.inner.acknowledged) a.kept ∙ judging_keeps old a.moment in
    subst (λ (r : ReplyView). Keeps opening old.inner.acknowledged message (ack_in r) new.inner.acknowledged) (sym a.replied) same

-- how a limited session begins
pub begins_so : (future limit : Option ℕ) (shares shared commands taken : Bool) (inner service : Serving) → future ≡ limit → shares ≡ shared → commands ≡ taken → inner ≡ service
    → limited_beginning future shares commands inner ≡ limited_beginning limit shared taken service
begins_so future limit shares shared commands taken inner service bound room takes is =
    λ i. record { future = bound i; shares = room i; commands = takes i; moment = 0; inner = is i }
