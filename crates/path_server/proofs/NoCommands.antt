-- A session whose commands are not taken acknowledges nothing: for `Server::serve`.
use Rattle.std.proofs.Common.{◌≡◌, inl, inr, ℕ, Bool, false, List, [], ◌∷◌, Option, Some, None, refl, sym, ap, ◌∙◌}
use Rattle.path_db.specs.declared.command.Command.{Command}
use Rattle.row_map.specs.Database.{RowView}
use Rattle.store_layout.specs.Opening.{StoreValue}
use Rattle.group_core.specs.declared.submit_error.SubmitError.{SubmitError}
use Rattle.command_log.specs.declared.rule.Claim.{Claim}
use Rattle.session_core.specs.declared.message.Message.TheVariants.{Register, Lookup, Purge, Remove}
use Rattle.session_core.specs.declared.message.Message.TheVariants as message
use Rattle.session_core.specs.declared.service.Ack.{Ack}
use Rattle.session_core.specs.Commands.{command_kind}
use Rattle.session_core.specs.Frames.{MessageView}
use Rattle.session_core.specs.Reply.{ReplyView}
use Rattle.session_core.specs.Service.{Exchange, AreAnswered}
use Rattle.path_session.specs.Serving.{Serving}
use Rattle.path_session.specs.Answered.{HubAnswers}
use Rattle.path_session.specs.Acknowledged.{ack_in}
use Rattle.path_session.proofs.Acknowledging.{Keeps, answer_keeps}
use Rattle.session_limits.specs.Limits.{LimitedView, LimitedAnswers, after_judging}

-- judging a message does not change whether commands are taken, nor the claims
judging_takes : (old : LimitedView Serving) (moment : Option ℕ) → (after_judging old moment).commands ≡ old.commands
judging_takes old (Some moment) = refl
judging_takes old None = refl

judging_claims : (old : LimitedView Serving) (moment : Option ℕ) → (after_judging old moment).inner.acknowledged ≡ old.inner.acknowledged
judging_claims old (Some moment) = refl
judging_claims old None = refl

module _ (opening : StoreValue (List RowView)) (refused : Command → Option SubmitError → Bool) (shut : Bool) where
  -- what is no command is not acknowledged
  no_claim : (asked : MessageView) (before : List Claim) (ack : Option Ack) (after : List Claim) → command_kind asked ≡ None → Keeps opening before asked ack after → after ≡ before
  no_claim asked before None after none kept = kept
  no_claim (Register body) before (Some ack) after none kept = absurd (cc none)
  no_claim (Lookup body) before (Some ack) after none kept = absurd kept.2.command
  no_claim (Purge moment) before (Some ack) after none kept = absurd (cc none)
  no_claim (Remove kind id) before (Some ack) after none kept = absurd (cc none)
  no_claim (message.List request) before (Some ack) after none kept = absurd kept.2.command

  -- one message
  one_message : (old : LimitedView Serving) (asked : MessageView) (reply : ReplyView) (new : LimitedView Serving) → old.commands ≡ false
      → LimitedAnswers (HubAnswers opening refused shut) old asked reply new → (new.commands ≡ false) × (new.inner.acknowledged ≡ old.inner.acknowledged)
  one_message old asked reply new off (inl a) = (
    ap (λ (s : LimitedView Serving). s.commands) a.kept ∙ judging_takes old a.moment ∙ off,
    no_claim asked old.inner.acknowledged (ack_in reply) new.inner.acknowledged (a.admission.1 off) (answer_keeps opening refused shut old.inner asked reply new.inner a.answered),
  )
  one_message old asked reply new off (inr a) = (
    ap (λ (s : LimitedView Serving). s.commands) a.kept ∙ judging_takes old a.moment ∙ off,
    ap (λ (s : LimitedView Serving). s.inner.acknowledged) a.kept ∙ judging_claims old a.moment,
  )

  -- all messages of a session
  pub claims_stay : (old : LimitedView Serving) (exchanges : List Exchange) (new : LimitedView Serving) → old.commands ≡ false
      → AreAnswered (LimitedAnswers (HubAnswers opening refused shut)) old exchanges new → new.inner.acknowledged ≡ old.inner.acknowledged
  claims_stay old [] new off done = sym (ap (λ (s : LimitedView Serving). s.inner.acknowledged) done)
  claims_stay old (exchange ∷ exchanges) new off a =
      let first = one_message old exchange.message exchange.reply a.0 off a.1 in
      claims_stay a.0 exchanges new first.0 a.2 ∙ first.1
