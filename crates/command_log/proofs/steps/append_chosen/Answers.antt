use Rattle.std.proofs.Common.{◌<◌, sym, subst, arith}
use Rattle.command_log.proofs.OwnerSteps.{appends}
use Rattle.command_log.proofs.steps.append_chosen.Goals as goal

pub split_seat-requires : goal.split_seat-requires
split_seat-requires g c = (c.requires.table.0, subst (λ n. 0 < n) (sym c.requires.table.1) (omega arith), (λ s h at. appends _ _ c.requires.owner s.views h at _))
