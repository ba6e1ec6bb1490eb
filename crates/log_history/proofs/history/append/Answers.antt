use Rattle.std.proofs.Common.{sym, ap, ◌∙◌}
use Rattle.log_history.specs.Rights.{FIRST_KEY, right_after}
use Rattle.log_history.proofs.Rights.{appends_moves, right_of_last}
use Rattle.log_history.proofs.history.append.Goals as goal

pub compare_exchange-requires : goal.compare_exchange-requires
compare_exchange-requires c =
    let h = c.requires.head in
    let at = sym (ap (λ w. w.book) h) in (
      ap (λ w. w.tracked) h,
      at,
      c.requires.pen.0 ∙ at,
      c.requires.offer.0,
      rw (ap (λ w. w.key) h, c.requires.offer.1) (appends_moves c.args.seen.now.log c.args.pen.now.nib _ c.requires.pen.1),
    )

pub returns-clause-pen : goal.returns-clause-pen
returns-clause-pen c =
    let done = c.compare_exchange.ensures in
    let last = ap (λ l. right_after FIRST_KEY l) done.7 ∙ right_of_last FIRST_KEY c.args.seen.now.log c.args.offer.ask in
    (c.requires.next.0 ∙ sym done.0, (c.requires.next.1.0, c.requires.next.1.1 ∙ sym last))
