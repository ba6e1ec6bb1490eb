use Rattle.std.proofs.Common.{◌≡◌, take, drop, refl, ◌∙◌, arith}
use Rattle.std.proofs.lemmas.List.{take_all, length-drop}
use Rattle.std.specs.Int.{w64, from_be_bytes}
use Rattle.session_core.specs.Frames.{id_bytes}
use Rattle.session_core.proofs.FrameLemmas.{list_is_long, list_body-of}
use Rattle.session_core.proofs.frames.list_of.Goals as goal

pub returns-clause-body : goal.returns-clause-body
returns-clause-body c =
    let body = c.args.body.now in
    let start : c.read_u64.result ≡ from_be_bytes w64 (take 8 (drop 1 body)) = omega (arith, c.read_u64.ensures) in
    let end : c.read_u64-2.result ≡ from_be_bytes w64 (take 8 (drop 9 body)) = omega (arith, c.read_u64-2.ensures) in
    let after : id_bytes c.after_of.result ≡ drop 17 body = c.after_of.ensures ∙ take_all _ (drop 17 body) (omega (arith, length-drop 17 body)) in
    list_body-of body (record { kind = _; start = c.read_u64.result; end = c.read_u64-2.result; after = c.after_of.result }) (λ i. omega (arith, c.type_inv.body i)) (list_is_long body c.requires) refl start end after
