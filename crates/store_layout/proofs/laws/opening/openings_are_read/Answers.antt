use Rattle.store_layout.proofs.Opened.{is_opened_so, has_value_just_where, has_one_value}
use Rattle.store_layout.proofs.Refusals.{is_open_refused_so}
use Rattle.store_layout.proofs.laws.opening.openings_are_read.Goals as goal

pub returns-clause-read : goal.returns-clause-read
returns-clause-read g c = is_opened_so _ _

pub returns-clause-value : goal.returns-clause-value
returns-clause-value g c = has_value_just_where _ _

pub returns-clause-one : goal.returns-clause-one
returns-clause-one g c = has_one_value _ _

pub returns-clause-refused : goal.returns-clause-refused
returns-clause-refused g c = is_open_refused_so _ _
