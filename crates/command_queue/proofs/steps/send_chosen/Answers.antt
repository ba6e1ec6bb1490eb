use Rattle.std.proofs.Common.{◌<◌, sym, subst, arith}
use Rattle.command_queue.proofs.PassSteps.{sends}
use Rattle.command_queue.proofs.steps.send_chosen.Goals as goal

pub split_seat-requires : goal.split_seat-requires
split_seat-requires g c = (c.requires.table.0, subst (λ n. 0 < n) (sym c.requires.table.1) (omega arith), (λ s h at. sends _ _ c.requires.keeper s.views h at _))
