use Rattle.seg_core.proofs.FirstMisfit.{all_fit-iff, first_misfit-iff}
use Rattle.seg_core.proofs.laws.fields.first_misfit_is_exact.Goals as goal

pub returns-clause-misfit : goal.returns-clause-misfit
returns-clause-misfit c = λ shape fs refusal. first_misfit-iff shape fs refusal

pub returns-clause-none : goal.returns-clause-none
returns-clause-none c = λ shape fs. all_fit-iff shape fs
