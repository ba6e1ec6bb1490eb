use Rattle.std.proofs.Common.{◌≡◌, ◌-◌, [], ◌∷◌, ◌++◌, List, ℕ, length, if◌then◌else◌, true, false, Some, None, refl, ap, ◌∙◌, rules}
use Rattle.std.specs.Prelude.{Bool, Option, map, slice_get}
use Rattle.std.specs.Option.{option_map}
use Rattle.std.proofs.lemmas.List.{map-append}
use Rattle.path_records.specs.declared.key.Key.{Key}
use Rattle.path_records.specs.Key.{key_bytes}
use Rattle.ckpt_stream.specs.Touched.{is_key_above, with_above}
use Rattle.ckpt_stream.proofs.Touches.{last_is}
use Rattle.ckpt_stream.proofs.touched.push_above.Goals as goal
use Rattle.ckpt_stream.proofs.touched.push_above.Goals.{in_default-via-in-Some+else-not-is_lt, in_default-via-in_default}

-- by whether the key is above the last one
pushed_if : (items slice : List Key) (last : Option Key) (k : List ℕ) (b : Bool) → slice ≡ items → last ≡ slice_get slice (length slice - 1)
    → b ≡ is_key_above (option_map key_bytes last) k → (if b then map key_bytes items ++ k ∷ [] else map key_bytes items) ≡ with_above (map key_bytes items) k
pushed_if items slice last k b same is e =
    ap (λ (b : Bool). if b then map key_bytes items ++ k ∷ [] else map key_bytes items)
    (e ∙ ap (λ (o : Option (List ℕ)). is_key_above o k) (ap (λ (o : Option Key). option_map key_bytes o) (is ∙ ap (λ (l : List Key). slice_get l (length l - 1)) same) ∙ last_is items))

pub returns-in-Some : goal.returns-in-Some
returns-in-Some c =
    let below : false ≡ is_key_above (Some (key_bytes c.in-Some.last.now)) (key_bytes c.args.key.now) = search rules in
    pushed_if c.args.keys.now.items c.deref.result.now (Some c.in-Some.last.now) (key_bytes c.args.key.now) false c.deref.ensures.value c.in-Some.ensures.value below

pub returns-in_ok-push-in_default : goal.returns-in_ok-push-in_default
returns-in_ok-push-in_default c =
    let k = key_bytes c.args.key.now in
    let items = c.args.keys.now.items in
    let put : map key_bytes items ++ k ∷ [] ≡ with_above (map key_bytes items) k = elim c.in_default.branch [
      | in_default-via-in-Some+else-not-is_lt w ↦
          let above : true ≡ is_key_above (Some (key_bytes w.in-Some.last.now)) k = search rules in
          pushed_if items c.deref.result.now (Some w.in-Some.last.now) k true c.deref.ensures.value w.in-Some.ensures.value above
      | in_default-via-in_default w ↦ pushed_if items c.deref.result.now None k true c.deref.ensures.value w.in_default.ensures.value refl
    ] in
    ap (λ (l : List Key). map key_bytes l) c.in_ok-push-in_default.ensures.items ∙ map-append key_bytes items (c.args.key.now ∷ []) ∙ put
