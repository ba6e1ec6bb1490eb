-- What is shown is what the store that was opened has.
use Rattle.cli_store.proofs.PartlyShown.{opened_stands_for, shown_in_part}
use Rattle.cli_store.proofs.showing.show.Goals as goal

pub returns-in-Ok-written-clause-ok : goal.returns-in-Ok-written-clause-ok
returns-in-Ok-written-clause-ok g c = record {
  rows = c.db.result.now;
  place = c.place.result;
  opens = λ honest. rw (c.db.ensures.rows, c.place.ensures) (opened_stands_for _ c.in-Ok.store (c.in-Ok.ensures.opened honest));
  written = c.in-Ok-written.ensures.ok;
}

pub returns-in-Err-written-clause-err : goal.returns-in-Err-written-clause-err
returns-in-Err-written-clause-err g c =
    shown_in_part c.args.form c.in-Err-written.fault _ _ _ c.db.result.now c.place.result
    (λ honest. rw (c.db.ensures.rows, c.place.ensures) (opened_stands_for _ c.in-Ok.store (c.in-Ok.ensures.opened honest)))
    c.in-Err-written.ensures.err
