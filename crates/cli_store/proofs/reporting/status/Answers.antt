-- What is printed is the status of what the device opens with.
use Rattle.std.proofs.Common.{◌∙◌}
use Rattle.cli_store.proofs.Reported.{reported}
use Rattle.cli_store.proofs.reporting.status.Goals as goal

pub returns-in-Ok-status_text-clause-answer : goal.returns-in-Ok-status_text-clause-answer
returns-in-Ok-status_text-clause-answer g c =
    let line = c.as_bytes.ensures.value ∙ c.in-Ok-status_text.ensures in
    reported _ c.in-Ok.folded c.in-Ok.ensures.seen _ _ c.write_all.result (rw line at c.write_all.ensures.ok) (rw line at c.write_all.ensures.err) c.write_all.ensures.output
