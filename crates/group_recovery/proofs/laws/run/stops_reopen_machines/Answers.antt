use Rattle.group_recovery.proofs.BooksKept.{prefixes_reopened, fronts_reopened}
use Rattle.group_recovery.proofs.laws.run.stops_reopen_machines.Goals as goal

pub returns-clause-run : goal.returns-clause-run
returns-clause-run c = prefixes_reopened

pub returns-clause-state : goal.returns-clause-state
returns-clause-state c = fronts_reopened
