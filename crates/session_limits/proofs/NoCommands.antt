-- What a session answers to a command that takes none: for the law.
use Rattle.std.proofs.Common.{◌≡◌, inl, inr, ℕ, Bool, true, false, Option, Some, sym, ap, ◌∙◌, subst}
use Rattle.std.specs.Option.{IsSome}
use Rattle.std.proofs.lemmas.Bool.{false≢true}
use Rattle.session_core.specs.declared.command_kind.CommandKind.{CommandKind}
use Rattle.session_core.specs.Commands.{command_kind}
use Rattle.session_core.specs.Frames.{MessageView}
use Rattle.session_core.specs.Reply.{ReplyView, Refused}
use Rattle.seg_core.specs.declared.error.SegError.{SegError}
use Rattle.session_limits.specs.declared.limit.Limit.{Limit}
use Rattle.session_limits.specs.declared.limit.Limit.TheVariants.{NoMemory, Future, NoRoom, NoCommands}
use Rattle.session_limits.specs.Limits.{LimitedView, LimitedAnswers, IsAdmission, after_judging, limit_code}
use Rattle.session_limits.specs.Readings.{ReadsAs, untaken_code}

takes_some : (takes : Bool) → takes ≡ false → takes ≡ true → ⊥
takes_some takes none some = false≢true (sym none ∙ some)

-- the message is refused by the code of why it cannot be read, or of a session that takes no
-- commands
abbrev IsUntaken : MessageView → ReplyView → Type 0
IsUntaken message reply = (fault : Option SegError) × (ReadsAs message fault × (reply ≡ Refused (untaken_code fault)))

module _ {X : Type 0} (old : LimitedView X) (message : MessageView) (reply : ReplyView) (new : LimitedView X) (none : old.commands ≡ false) where
  refused_so : (moment : Option ℕ) (limit : Limit) → IsAdmission old.commands old.future old.shares moment message (Some limit) → reply ≡ Refused (limit_code limit) → new ≡ after_judging old moment
      → IsUntaken message reply × (new ≡ old)
  refused_so moment NoMemory admission replied kept = absurd (takes_some old.commands none admission.0)
  refused_so moment Future admission replied kept = absurd (takes_some old.commands none admission.0)
  refused_so moment NoRoom admission replied kept = absurd (takes_some old.commands none admission.0)
  refused_so moment (NoCommands fault) admission replied kept = ((fault, (admission.1.1.1, replied)), kept ∙ ap (after_judging old) admission.1.0)

  pub not_taken : (answers : X → MessageView → ReplyView → X → Type 0) → IsSome (command_kind message) → LimitedAnswers answers old message reply new → IsUntaken message reply × (new ≡ old)
  not_taken answers some (inl a) = absurd (false≢true (subst (λ (kind : Option CommandKind). IsSome kind) (a.admission.1 none) some))
  not_taken answers some (inr a) = refused_so a.moment a.limit a.admission a.replied a.kept
