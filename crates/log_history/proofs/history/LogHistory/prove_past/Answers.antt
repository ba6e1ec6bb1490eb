use Rattle.std.proofs.Common.{sym, ap, ◌∙◌, subst}
use mathlib.Core.List.{IsPrefix}
use Rattle.log_history.specs.Entries.{LogMoment, log_of, IsPastOf}
use Rattle.log_history.proofs.Rights.{looks_moves}
use Rattle.log_history.proofs.Moments.{past_of}
use Rattle.log_history.proofs.history.LogHistory.prove_past.Goals as goal

pub compare_exchange-requires : goal.compare_exchange-requires
compare_exchange-requires c =
    let i = c.self.invariant in
    let h = i.0 in
    let offer = c.plain-offer.ensures in
    let at = sym (ap (λ w. w.book) h) in (
      ap (λ w. w.tracked) h,
      c.learn.ensures.0 ∙ (ap (λ s. s.book) c.again-all.ensures ∙ (ap (λ (l : LogMoment). l.book) c.past.view_is ∙ c.requires ∙ (sym (ap (λ (l : LogMoment). l.book) c.self.view_is) ∙ at))),
      i.1 ∙ at,
      offer.0,
      rw (ap (λ w. w.key) h, offer.3) (looks_moves c.learn.new.self.log c.self.inside.pen.nib),
    )

-- all that was seen is what the owner knows, and begins with the past entries
pub returns-clause-past : goal.returns-clause-past
returns-clause-past c =
    let known = c.learn.ensures in
    let own = c.self.inside.seen in
    let past = c.past.inside.seen in
    let all = c.compare_exchange.ensures.7.1 own.log known.3 c.self.invariant.2 in
    let front = subst (λ l. IsPrefix l own.log) (ap (λ s. s.log) c.again-all.ensures) (subst (λ l. IsPrefix c.again-all.result.log l) all known.2) in
    let is = past_of past.book own.book past.log own.log front in
    subst (λ (l : LogMoment). IsPastOf l c.args.self.now) c.past.view_is (subst (λ (l : LogMoment). IsPastOf (log_of past.book past.log) l) c.self.view_is is)
