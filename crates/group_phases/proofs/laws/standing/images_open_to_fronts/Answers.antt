use Rattle.group_phases.proofs.TailReads.{reads_by_its_part}
use Rattle.group_phases.proofs.Exports.{opens_by_both_parts}
use Rattle.group_phases.proofs.laws.standing.images_open_to_fronts.Goals as goal

pub returns-clause-journal : goal.returns-clause-journal
returns-clause-journal g c = reads_by_its_part _

pub returns-clause-opens : goal.returns-clause-opens
returns-clause-opens g c = opens_by_both_parts _ _
