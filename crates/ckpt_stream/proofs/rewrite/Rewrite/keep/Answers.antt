use Rattle.std.proofs.Common.{arith, ◌≡◌, ℕ, ◌+◌, ◌-◌, ◌<◌, ◌≤◌, List, ◌∷◌, ◌++◌, length, take, drop, sym, ap, subst}
use Rattle.std.proofs.lemmas.List.{length-take-le, with_items_is}
use Rattle.ckpt_stream.specs.declared.plan.Edit.TheVariants.{Keep}
use Rattle.ckpt_stream.specs.Edits.{views_if_any}
use Rattle.ckpt_stream.specs.Rewriting.{RewriteView, Rewrites, steps_left, left_to_keep}
use Rattle.ckpt_stream.proofs.RewriteSteps.{keeps, kept_smaller}
use Rattle.ckpt_stream.proofs.rewrite.Rewrite.keep.Goals as goal

pub returns-clause-rewrites : goal.returns-clause-rewrites
returns-clause-rewrites c =
    let s = c.self.inside in
    let count = c.min-count.result in
    let new = c.put_part-self-inside.new.buffer in
    let used = c.put_part-self-inside.result in
    let d : ℕ = s.position - c.args.from in
    let le : count ≤ s.kept = omega arith in
    let inside : d + count ≤ length c.args.window.now = omega arith in
    let is : take used new ≡ take s.used s.buffer.items ++ take count (drop d c.args.window.now) = cc (c.put_part-self-inside.ensures.put, c.deref_mut.ensures.value) in
    let size : length new ≡ s.buffer.len = omega (arith, c.put_part-self-inside.ensures.buffer, s.buffer.ok.0, ap length c.deref_mut.ensures.value) in
    let whole = with_items_is s.buffer new size in
    subst (λ (items : List ℕ). Rewrites c.args.from c.args.window.now c.args.self.now (record { out = take used items; edits = Keep (s.kept - count) ∷ drop s.at s.edits.items; rows = views_if_any (drop s.next s.rows.items); position = s.position + count }))
    (sym whole)
    (subst (λ (v : RewriteView). Rewrites c.args.from c.args.window.now v (record { out = take used new; edits = Keep (s.kept - count) ∷ drop s.at s.edits.items; rows = views_if_any (drop s.next s.rows.items); position = s.position + count }))
    c.self.view_is
    (keeps _ _ c.args.window.now (drop s.at s.edits.items) (views_if_any (drop s.next s.rows.items)) s.position s.kept count c.args.from (omega arith) le inside is))

pub returns-clause-goes_on : goal.returns-clause-goes_on
returns-clause-goes_on c =
    let s = c.self.inside in
    let count = c.min-count.result in
    let new = c.put_part-self-inside.new.buffer in
    let used = c.put_part-self-inside.result in
    let d : ℕ = s.position - c.args.from in
    let long = length-take-le s.used s.buffer.items (omega (arith, c.self.invariant.used, c.self.invariant.room)) in
    let room : length (take s.used s.buffer.items) < 131072 = subst (λ (v : RewriteView). length v.out < 131072) (sym c.self.view_is) c.requires.room in
    let kept : 0 < s.kept = subst (λ (v : RewriteView). 0 < left_to_keep v) (sym c.self.view_is) c.requires.some in
    let some : 0 < count = omega (arith, room, kept, long) in
    let inside : d + count ≤ length c.args.window.now = omega arith in
    let is : take used new ≡ take s.used s.buffer.items ++ take count (drop d c.args.window.now) = cc (c.put_part-self-inside.ensures.put, c.deref_mut.ensures.value) in
    let size : length new ≡ s.buffer.len = omega (arith, c.put_part-self-inside.ensures.buffer, s.buffer.ok.0, ap length c.deref_mut.ensures.value) in
    let whole = with_items_is s.buffer new size in
    λ _. subst (λ (items : List ℕ). steps_left (record { out = take used items; edits = Keep (s.kept - count) ∷ drop s.at s.edits.items; rows = views_if_any (drop s.next s.rows.items); position = s.position + count }) < steps_left c.args.self.now)
    (sym whole)
    (subst (λ (v : RewriteView). steps_left (record { out = take used new; edits = Keep (s.kept - count) ∷ drop s.at s.edits.items; rows = views_if_any (drop s.next s.rows.items); position = s.position + count }) < steps_left v)
    c.self.view_is
    (kept_smaller _ _ c.args.window.now (drop s.at s.edits.items) (views_if_any (drop s.next s.rows.items)) s.position s.kept count d room some inside is))
