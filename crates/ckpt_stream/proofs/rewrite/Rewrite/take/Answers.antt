use Rattle.std.proofs.Common.{arith, ◌≡◌, List, ℕ, ◌∷◌, length, take, drop, ap, ◌∙◌}
use Rattle.std.proofs.lemmas.List.{with_items_is}
use Rattle.ckpt_stream.specs.declared.plan.Edit.TheVariants.{Keep}
use Rattle.ckpt_stream.specs.Edits.{views_if_any}
use Rattle.ckpt_stream.specs.Rewriting.{RewriteView}
use Rattle.ckpt_stream.proofs.rewrite.Rewrite.take.Goals as goal

pub returns : goal.returns
returns c =
    let s = c.self.inside in
    let new = c.cut_front-self-inside.new.buffer in
    let used = c.cut_front-self-inside.result in
    let size : length new ≡ s.buffer.len = omega (arith, c.cut_front-self-inside.ensures.buffer, s.buffer.ok.0, ap length c.deref_mut.ensures.value) in
    let left : take used new ≡ drop c.args.count (take s.used s.buffer.items) = cc (c.cut_front-self-inside.ensures.left, c.deref_mut.ensures.value) in
    ap (λ (out : List ℕ). let r : RewriteView = record { out = out; edits = Keep s.kept ∷ drop s.at s.edits.items; rows = views_if_any (drop s.next s.rows.items); position = s.position } in r)
    (ap (take used) (with_items_is s.buffer new size) ∙ left)
    ∙ ap (λ (v : RewriteView). let r : RewriteView = record { out = drop c.args.count v.out; edits = v.edits; rows = v.rows; position = v.position } in r) c.self.view_is
