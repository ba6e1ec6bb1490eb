use Rattle.std.proofs.Common.{◌≡◌, ℕ, List, [], ◌∷◌, ◌++◌, Ok, Err, ◌∙◌, append_assoc}
use Rattle.std.proofs.lemmas.List.{append-nil}
use Rattle.std.specs.Prelude.{Result, OnOk, if◌then◌else◌}
use Rattle.std.specs.Result.{is_ok}
use Rattle.std.specs.Int.{w32, w64, to_be_bytes}
use Rattle.store_layout.specs.Group.{with_header}
use Rattle.gate_journal.proofs.encoding.put_header.Goals as goal

on_ok : {T E : Type 0} → (r : Result T E) (new one other wanted : List ℕ) → new ≡ (if is_ok r then one else other) → one ≡ wanted → OnOk r (new ≡ wanted)
on_ok (Ok x) new one other wanted is so = is ∙ so
on_ok (Err e) new one other wanted is so = tt

header_put : (old one two a b : List ℕ) (count size place : ℕ) → a ≡ to_be_bytes w32 size → b ≡ to_be_bytes w64 place → one ≡ old ++ (1 ∷ count ∷ 0 ∷ 0 ∷ [])
    → two ≡ one ++ a → two ++ b ≡ old ++ with_header 1 count size place []
header_put old one two a b count size place four eight first second = rw (second, first, four, eight) (simp (append_assoc, append-nil))

pub returns : goal.returns
returns c =
    on_ok c.extend_from_slice-3.result c.extend_from_slice-3.new.self.items _ _ _ c.extend_from_slice-3.ensures.items
    (header_put c.args.out.now.items c.extend_from_slice.new.self.items c.extend_from_slice-2.new.self.items c.to_be_bytes.result c.to_be_bytes-2.result
    c.args.count c.args.size c.args.place c.to_be_bytes.ensures c.to_be_bytes-2.ensures
    c.in_ok-extend_from_slice.ensures.items c.in_ok-extend_from_slice-2.ensures.items)
