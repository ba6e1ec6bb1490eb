use Rattle.std.proofs.Common.{◌++◌, List, ℕ, ap, ◌∙◌, subst, sym, rules}
use Rattle.std.specs.Prelude.{map}
use Rattle.std.specs.Ordering.{is_lt}
use Rattle.std.proofs.lemmas.Cmp.{nat_list_cmp_total}
use Rattle.std.proofs.lemmas.Fn.{always_returns_same}
use Rattle.std.proofs.lemmas.List.Sorted.{ranks_by}
use Rattle.std.proofs.lemmas.Result.{IfOk-weaker}
use Rattle.path_records.specs.declared.key.Key.{Key}
use Rattle.path_records.specs.Key.{key_bytes}
use Rattle.ckpt_stream.specs.Merging.{has_key, keys_named_by, order_of}
use Rattle.ckpt_stream.specs.Touched.{IsKeyOrder}
use Rattle.ckpt_stream.proofs.Touches.{moved_keys, union_same}
use Rattle.ckpt_stream.proofs.touched.with_named.Goals as goal

-- the closure compares the bytes of two keys
pub merged-requires : goal.merged-requires
merged-requires c = subst IsKeyOrder (sym c.deref.ensures.value)
    (c.in_ok-sort_by.ensures.sorted (λ (x y : Key). is_lt (order_of (key_bytes x) (key_bytes y))) (ranks_by nat_list_cmp_total key_bytes)
    (always_returns_same _ _ _ (λ a r f called. search rules)))

pub returns : goal.returns
returns c = IfOk-weaker c.merged.result _ _ (λ keys is rise.
    union_same _ _ _ _ (λ k. ap (λ (l : List Key). has_key (map key_bytes l) k) c.deref.ensures.value ∙ moved_keys _ _ c.sort_by.ensures.permutation k ∙ ap (λ (ks : List (List ℕ)). has_key ks k) (c.in_ok-push_all_named.ensures ∙ ap (λ (l : List Key). map key_bytes l ++ keys_named_by c.args.commands.now) c.new-named.ensures.items)) (is rise)) c.merged.ensures
