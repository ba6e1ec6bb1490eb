use Rattle.std.proofs.Common.{◌≡◌, ◌<◌, ◌≤◌, sym, ap, ◌∙◌, subst, arith}
use Rattle.command_queue.specs.declared.ghosts.rule.QueueView.{QueueView}
use Rattle.command_queue.specs.Passes.{view_with, number_view, submitted_view}
use Rattle.command_queue.proofs.PassSteps.{takes, submits}
use Rattle.command_queue.proofs.steps.submit.Goals as goal

pub join_seat-requires : goal.join_seat-requires
join_seat-requires c =
    let t = c.requires.table in
    let k = c.requires.claim in
    (t.0, k.0 ∙ t.0, k.1, subst (λ n. 0 < n) (sym t.1) (omega arith), (λ s h at apart there. takes _ _ s.views h at _ _ apart there))

pub split_seat-requires : goal.split_seat-requires
split_seat-requires c =
    let t = c.requires.table in
    let j = c.join_seat.ensures in
    let submitter = c.args.submitter.now.me.0 in
    let claim = c.args.claim.me.0 in
    let view : view_with submitter claim ≡ view_with (submitted_view submitter.next submitter.submitted) (number_view claim.number claim.command) =
    λ i. view_with (c.requires.submitter i) (c.requires.claim.2 i) in
    let now = ap (λ m. m.0) j.2 ∙ view in
    let is_submitter = ap (λ (v : QueueView). v.submits) now in
    let claims = ap (λ (v : QueueView). v.claims) now in
    let later = subst (λ (v : QueueView). v.next ≤ v.number) (sym now) c.requires.later in
    (j.0 ∙ t.0, subst (λ n. 0 < n) (sym t.1) (omega arith), (λ s h at. submits _ _ is_submitter claims later s.views h at))
