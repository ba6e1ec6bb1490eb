use Rattle.std.proofs.Common.{◌<◌, sym, ◌∙◌, subst, arith}
use Rattle.command_queue.proofs.PassSteps.{takes}
use Rattle.command_queue.proofs.steps.send.Goals as goal

pub join_seat-requires : goal.join_seat-requires
join_seat-requires c =
    let t = c.requires.table in
    let k = c.requires.sender in
    (t.0, k.0 ∙ t.0, k.1, subst (λ n. 0 < n) (sym t.1) (omega arith), (λ s h at apart there. takes _ _ s.views h at _ _ apart there))
