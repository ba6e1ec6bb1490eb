use Rattle.std.proofs.Common.{◌<◌, sym, subst, arith}
use Rattle.command_queue.proofs.PassSteps.{begins_front}
use Rattle.command_queue.proofs.steps.begin.Goals as goal

pub split_seat-requires : goal.split_seat-requires
split_seat-requires c = (c.requires.0, subst (λ n. 0 < n) (sym c.requires.1) (omega arith), (λ s h at. begins_front _ _ s.views h at))
