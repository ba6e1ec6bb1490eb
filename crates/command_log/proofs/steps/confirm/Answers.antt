use Rattle.std.proofs.Common.{◌<◌, sym, ap, ◌∙◌, subst, arith}
use Rattle.command_log.specs.declared.rule.LogView.{LogView}
use Rattle.command_log.proofs.OwnerSteps.{takes, confirms}
use Rattle.command_log.proofs.steps.confirm.Goals as goal

pub join_seat-requires : goal.join_seat-requires
join_seat-requires c =
    let t = c.requires.table in
    let k = c.requires.claim in
    (t.0, k.0 ∙ t.0, k.1, subst (λ n. 0 < n) (sym t.1) (omega arith), (λ s h at apart there. takes _ _ c.requires.owner s.views h at _ _ apart there))

pub split_seat-requires : goal.split_seat-requires
split_seat-requires c =
    let t = c.requires.table in
    let j = c.join_seat.ensures in
    let view = ap (λ m. m.0) j.2 in
    let keeps = ap (λ (v : LogView). v.keeps) view ∙ ap (λ (v : LogView). v.keeps) c.requires.owner in
    let claimed = ap (λ (v : LogView). v.claims) view ∙ c.requires.claim.2 in
    let below = subst (λ (v : LogView). v.index < v.committed) (sym view) c.requires.committed in
    (j.0 ∙ t.0, subst (λ n. 0 < n) (sym t.1) (omega arith), (λ s h at. confirms _ _ keeps s.views h at claimed below))
