use Rattle.std.proofs.Common.{[], ◌<◌, sym, refl, subst, arith}
use Rattle.command_queue.proofs.PassSteps.{issues}
use Rattle.command_queue.specs.Passes.{lists_view}
use Rattle.command_queue.proofs.steps.issue.Goals as goal

pub load_new_seat-found-requires : goal.load_new_seat-found-requires
load_new_seat-found-requires c = (subst (λ n. 0 < n) (sym c.requires) (omega arith), (λ s h long fits. (lists_view [], issues s.views h, refl)))
