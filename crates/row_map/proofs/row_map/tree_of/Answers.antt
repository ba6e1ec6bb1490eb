use Rattle.std.proofs.Common.{◌≡◌, sym, ap, ◌∙◌, subst}
use Rattle.std.specs.BTreeMap.{IsFromIterResult}
use Rattle.std.proofs.lemmas.List.{map-id}
use Rattle.std.proofs.lemmas.Iterator.{items_from_drains}
use Rattle.std.proofs.lemmas.Iterator.Adapters.{YieldsList-from_vec}
use Rattle.std.proofs.lemmas.Result.{IfOk-weaker}
use Rattle.row_map.proofs.Collected.{collected_own, collected_views}
use Rattle.row_map.proofs.Keyed.{key_cmp}
use Rattle.row_map.proofs.row_map.tree_of.Goals as goal

pub returns : goal.returns
returns c =
    let es = c.args.entries.items in
    let made = IfOk-weaker c.from_iter.result _ (IsFromIterResult key_cmp es)
    (λ tree r.
    let all = YieldsList-from_vec {s = r.0} es r.2.0 (r.2.1 ∙ c.args.entries.ok.0) in
    let same : r.1 ≡ es = sym (map-id r.1) ∙ items_from_drains r.1 r.3 all in
    subst (λ xs. IsFromIterResult key_cmp xs tree) same r.4)
    c.from_iter.ensures.ran in
    record {
      own = IfOk-weaker c.from_iter.result _ _ (λ tree is. collected_own es tree c.requires.own c.requires.rising is) made;
      same = IfOk-weaker c.from_iter.result _ _ (λ tree is. collected_views es tree c.requires.own c.requires.rising is) made;
    }
