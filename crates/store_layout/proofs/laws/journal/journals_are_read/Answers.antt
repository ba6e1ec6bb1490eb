use Rattle.store_layout.proofs.Scans.{is_read_so, is_refused_so, has_one_reading}
use Rattle.store_layout.proofs.laws.journal.journals_are_read.Goals as goal

pub returns-clause-read : goal.returns-clause-read
returns-clause-read g c = is_read_so _

pub returns-clause-refused : goal.returns-clause-refused
returns-clause-refused g c = is_refused_so _

pub returns-clause-one : goal.returns-clause-one
returns-clause-one g c = has_one_reading _
