use Rattle.std.proofs.Common.{ℕ, ◌<◌, sym, subst, arith}
use Rattle.command_queue.specs.Passes.{HasNumber}
use Rattle.path_db.specs.declared.command.Command.{Command}
use Rattle.command_queue.proofs.PassSteps.{numbers}
use Rattle.command_queue.proofs.steps.number_chosen.Goals as goal

pub split_seat-requires : goal.split_seat-requires
split_seat-requires g c =
    let t = c.requires.table in
    let has = subst (λ (y : ℕ × Command). HasNumber c.args.keeper.now.me.0.history y.0 y.1) (λ i. (sym c.requires.chosen.0 i, sym c.requires.chosen.1 i)) c.requires.there in
    (t.0, subst (λ n. 0 < n) (sym t.1) (omega arith), (λ s h at. numbers _ _ c.requires.keeper s.views h at _ _ has))
