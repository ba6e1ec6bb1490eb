use Rattle.std.proofs.Common.{◌<◌, sym, ap, ◌∙◌, subst, arith}
use Rattle.command_queue.specs.declared.ghosts.rule.QueueView.{QueueView}
use Rattle.command_queue.specs.Passes.{view_with}
use Rattle.command_queue.proofs.PassSteps.{takes, checks}
use Rattle.atomic_table.specs.Table.Act.{keeps}
use Rattle.command_queue.proofs.steps.check.Goals as goal

pub join_seat-requires : goal.join_seat-requires
join_seat-requires c =
    let t = c.requires.table in
    let k = c.requires.submitter in
    (t.0, k.0 ∙ t.0, k.1, subst (λ n. 0 < n) (sym t.1) (omega arith), (λ s h at apart there. takes _ _ s.views h at _ _ apart there))

pub join_seat-requires-2 : goal.join_seat-requires-2
join_seat-requires-2 c =
    let t = c.requires.table in
    let k = c.requires.ended in
    let j = c.join_seat.ensures in
    (j.0 ∙ t.0, k.0 ∙ t.0, k.1, subst (λ n. 0 < n) (sym t.1) (omega arith), (λ s h at apart there. takes _ _ s.views h at _ _ apart there))

pub load-requires : goal.load-requires
load-requires c =
    let t = c.requires.table in
    let j = c.join_seat.ensures in
    let k = c.join_seat-2.ensures in
    let view = ap (λ m. m.0) k.2 ∙ ap (λ (m : QueueView). view_with m c.args.ended.me.0) (ap (λ m. m.0) j.2) in
    let is_keeper = ap (λ (v : QueueView). v.keeps) view ∙ ap (λ (v : QueueView). v.keeps) c.requires.keeper in
    (k.0 ∙ (j.0 ∙ t.0), subst (λ n. 0 < n) (sym t.1) (omega arith), (λ s h long at fits. let done = checks _ _ is_keeper s.views h at in (_, keeps, tt, done.0, done.1)))
