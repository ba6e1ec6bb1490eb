use Rattle.std.proofs.Common.{sym, ap, ◌∙◌}
use Rattle.log_history.proofs.Rights.{issues_moves}
use Rattle.log_history.proofs.history.issue.Goals as goal

pub compare_exchange-requires : goal.compare_exchange-requires
compare_exchange-requires c =
    let h = c.requires in
    let s = c.again-seen.ensures in
    let offer = c.plain-offer.ensures in
    let pen = c.no_pen-pen.ensures in
    let book = ap (λ s. s.book) s in (
      ap (λ w. w.tracked) h,
      book ∙ sym (ap (λ w. w.book) h),
      pen.0 ∙ (book ∙ sym (ap (λ w. w.book) h)),
      offer.0,
      rw (ap (λ w. w.key) h, pen.1, offer.3) (issues_moves c.again-seen.result.log),
    )
