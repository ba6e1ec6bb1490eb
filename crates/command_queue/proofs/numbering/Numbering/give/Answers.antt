use Rattle.std.proofs.Common.{length, sym, ap, ◌∙◌}
use Rattle.command_queue.proofs.Adding.{adds_moves}
use Rattle.command_queue.proofs.numbering.Numbering.give.Goals as goal

pub compare_exchange-found-requires : goal.compare_exchange-found-requires
compare_exchange-found-requires g c =
    let l = c.args.self.now in
    let h = l.head_is in
    let s = c.again-seen.ensures in
    let offer = c.plain-offer.ensures in
    let pen = c.no_pen-pen.ensures in
    let book = ap (λ s. s.book) s ∙ l.history_is in (
      ap (λ w. w.tracked) h,
      book ∙ sym (ap (λ w. w.book) h),
      pen.0 ∙ (book ∙ sym (ap (λ w. w.book) h)),
      offer.0,
      rw (ap (λ w. w.key) h, pen.1, offer.1, offer.3) (adds_moves c.again-seen.result.log c.args.command.now l.next (ap (λ s. length s.log) s ∙ sym l.counted)),
    )
