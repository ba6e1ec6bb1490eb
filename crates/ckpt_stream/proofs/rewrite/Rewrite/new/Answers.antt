use Rattle.std.proofs.Common.{rules, arith, ◌≡◌, List, ℕ, ◌∷◌, ◌+◌, length, take, ap, ◌∙◌}
use Rattle.std.proofs.lemmas.List.{with_items_is}
use Rattle.ckpt_stream.specs.declared.plan.Edit.TheVariants.{Keep}
use Rattle.ckpt_stream.specs.Edits.{views_if_any}
use Rattle.ckpt_stream.specs.Rewriting.{RewriteView}
use Rattle.ckpt_stream.proofs.rewrite.Rewrite.new.Goals as goal

pub returns : goal.returns
returns c =
    let new = c.put.new.bytes in
    let size : length new ≡ c.in_ok-buffer.buffer.len = omega (arith, c.put.ensures.size, c.in_ok-buffer.buffer.ok.0, ap length c.deref_mut.ensures.value) in
    let head : length c.args.head.now ≡ 32 = search rules in
    let long : 32 ≡ 0 + length c.args.head.now = omega (arith, head) in
    let front : take 32 new ≡ c.args.head.now = ap (λ (n : ℕ). take n new) long ∙ c.put.ensures.front in
    ap (λ (out : List ℕ). let r : RewriteView = record { out = out; edits = Keep 0 ∷ c.args.edits.items; rows = views_if_any c.args.rows.items; position = 0 } in r)
    (ap (take 32) (with_items_is c.in_ok-buffer.buffer new size) ∙ front)
