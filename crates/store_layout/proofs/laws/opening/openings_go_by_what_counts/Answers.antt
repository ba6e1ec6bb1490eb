use Rattle.store_layout.proofs.Counts.{goes_by_what_counts, kept_by_writes_elsewhere, goes_by_the_chosen_half}
use Rattle.store_layout.proofs.laws.opening.openings_go_by_what_counts.Goals as goal

pub returns-clause-same : goal.returns-clause-same
returns-clause-same g c = goes_by_what_counts _ _

pub returns-clause-kept : goal.returns-clause-kept
returns-clause-kept g c = kept_by_writes_elsewhere _ _

pub returns-clause-chosen : goal.returns-clause-chosen
returns-clause-chosen g c = goes_by_the_chosen_half _ _
