use Rattle.group_phases.proofs.Kept.{keeps_flusher_part, keeps_base_part}
use Rattle.group_phases.proofs.laws.kept.parts_stay_where_untouched.Goals as goal

pub returns-clause-flusher : goal.returns-clause-flusher
returns-clause-flusher g c = keeps_flusher_part _

pub returns-clause-base : goal.returns-clause-base
returns-clause-base g c = keeps_base_part _ _
