use Rattle.std.proofs.Common.{sym, ap, ◌∙◌}
use Rattle.log_history.proofs.Rights.{issues_moves}
use Rattle.log_history.proofs.history.LogHistory.new.Goals as goal

pub compare_exchange-found-requires : goal.compare_exchange-found-requires
compare_exchange-found-requires c =
    let begun = c.open-seen.ensures in
    let h = c.tracked-head.ensures.0 in
    let offer = c.plain-offer.ensures in
    let pen = c.no_pen-pen.ensures in
    let at = ap (λ w. w.book) h ∙ begun.2 in (
      ap (λ w. w.tracked) h,
      sym at,
      pen.0 ∙ sym at,
      offer.0,
      rw (ap (λ w. w.key) h ∙ ap (λ n. n.key) begun.4, pen.1, offer.3) (issues_moves c.open-seen.result.0.log),
    )
