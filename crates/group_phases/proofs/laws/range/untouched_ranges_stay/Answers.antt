use Rattle.group_phases.proofs.Ranges.{reads_as_before, stays_settled, has_untouched_parts, stays_on_and_on, clean_stays_in_images}
use Rattle.group_phases.proofs.laws.range.untouched_ranges_stay.Goals as goal

pub returns-clause-reads : goal.returns-clause-reads
returns-clause-reads c = reads_as_before

pub returns-clause-settled : goal.returns-clause-settled
returns-clause-settled c = stays_settled

pub returns-clause-part : goal.returns-clause-part
returns-clause-part c = has_untouched_parts

pub returns-clause-then : goal.returns-clause-then
returns-clause-then c = stays_on_and_on

pub returns-clause-image : goal.returns-clause-image
returns-clause-image c = clean_stays_in_images
