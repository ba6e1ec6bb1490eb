use Rattle.std.proofs.Common.{◌<◌, sym, ap, ◌∙◌, subst, arith}
use Rattle.command_log.specs.declared.rule.LogView.{LogView}
use Rattle.command_log.proofs.OwnerSteps.{takes, checks}
use Rattle.atomic_table.specs.Table.Act.{keeps}
use Rattle.command_log.proofs.steps.check_claim.Goals as goal

pub join_seat-requires : goal.join_seat-requires
join_seat-requires c =
    let t = c.requires.table in
    let k = c.requires.claim in
    (t.0, k.0 ∙ t.0, k.1, subst (λ n. 0 < n) (sym t.1) (omega arith), (λ s h at apart there. takes _ _ c.requires.owner s.views h at _ _ apart there))

pub load-requires : goal.load-requires
load-requires c =
    let t = c.requires.table in
    let j = c.join_seat.ensures in
    let view = ap (λ m. m.0) j.2 in
    let is_owner = ap (λ (v : LogView). v.keeps) view ∙ ap (λ (v : LogView). v.keeps) c.requires.owner in
    (j.0 ∙ t.0, subst (λ n. 0 < n) (sym t.1) (omega arith), (λ s h long at fits. let done = checks _ _ is_owner s.views h at in (_, keeps, tt, done.0, done.1)))
