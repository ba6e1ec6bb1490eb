-- Where there are no bytes under the number, there is nothing to read.
use Rattle.std.proofs.Common.{◌≡◌, ℕ, true, List, [], ◌∷◌, Option, Some, None, refl, sym, ap}
use Rattle.std.specs.Prelude.{Bool, false, is_some, not}
use Rattle.std.specs.Option.{option_map, option_or}
use Rattle.std.specs.Borrow.{Bor}
use Rattle.pw_wire.specs.Fields.{fields}
use Rattle.seg_core.specs.Steps.{each, result_map}
use Rattle.seg_core.specs.Message.{last_of, bytes_fields}
use Rattle.seg_core.specs.Entry.{peer_entry_decoding}
use Rattle.seg_core.proofs.body.check_peers.Goals as goal

some_stays : (o : Option (List ℕ)) (x : List ℕ) → option_or o (Some x) ≡ None → ⊥
some_stays None x e = cc
some_stays (Some y) x e = cc

none_are : (xs : List (List ℕ)) → last_of xs ≡ None → xs ≡ []
none_are [] e = refl
none_are (x ∷ xs) e = absurd (some_stays (last_of xs) x e)

none_noted : (o : Option (Bor (List ℕ))) (xs : List (List ℕ)) (b : Bool) → is_some o ≡ not b → b ≡ true → option_map (λ s. s.now) o ≡ last_of xs → xs ≡ []
none_noted None xs b h t e = none_are xs (sym e)
none_noted (Some s) xs true h t e = absurd cc
none_noted (Some s) xs false h t e = absurd cc

pub returns-then-is_none : goal.returns-then-is_none
returns-then-is_none c =
    let none : bytes_fields 4 (fields c.args.slots.now.message.now) ≡ [] = none_noted c.bytes_field.result _ c.is_none.result c.is_none.ensures c.if-is_none.true c.bytes_field.ensures in
    ap (λ (xs : List (List ℕ)). result_map (λ _. tt {0}) (each peer_entry_decoding xs)) none
