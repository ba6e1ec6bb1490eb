-- The bytes of an inbox: for `make_room` and `read_from`.
use Rattle.std.proofs.Common.{◌≡◌, ℕ, ◌+◌, ◌-◌, ◌≤◌, List, ◌++◌, length, take, drop, slice_range, sym, ap, ◌∙◌, arith, take-add}
use Rattle.std.proofs.lemmas.List.{length-drop, length-take-le, take_all, take_at, take-append-le, drop-take}
use Rattle.std.specs.List.{copy_within}
use Rattle.session_core.specs.declared.source.TheConstants.{MOST_PIECE}
use Rattle.session_core.specs.Source.{TakesIn}

-- zeros after the bytes change none of them
pub same_front : (old grown zeros : List ℕ) (n end : ℕ) → end ≤ length old → length old ≤ n → grown ≡ take n old ++ zeros → take end grown ≡ take end old
same_front old grown zeros n end within all is = ap (take end) is ∙ ap (λ (xs : List ℕ). take end (xs ++ zeros)) (take_all n old all) ∙ take-append-le end old zeros within

-- what is moved to the front is what was between the two places
pub moved : (old grown new : List ℕ) (used end : ℕ) → used ≤ end → end ≤ length grown → take end grown ≡ take end old → new ≡ copy_within grown used end 0
    → take (end - used) new ≡ drop used (take end old)
moved old grown new used end order within same is =
    let size : length (take (end - used) (drop used grown)) ≡ end - used = length-take-le (end - used) (drop used grown) (omega (arith, within, length-drop used grown)) in
    let all : used + (end - used) ≡ end = omega (arith, order) in
    ap (take (end - used)) is
    ∙ take_at (take (end - used) (drop used grown)) (drop (0 + (end - used)) grown) (end - used) size
    ∙ sym (drop-take used (end - used) grown)
    ∙ ap (λ (n : ℕ). drop used (take n grown)) all
    ∙ ap (drop used) same

-- what was read comes after the bytes before it
pub taken_in : {R : Type 0} (gives : R → List ℕ → R → Type 0) (r t : R) (inbox bytes : List ℕ) (at n : ℕ) → take at bytes ≡ inbox → at + n ≤ length bytes → n ≤ MOST_PIECE
    → gives r (slice_range bytes at (at + n)) t → TakesIn gives r inbox n t (take (at + n) bytes)
taken_in gives r t inbox bytes at n front within few gave =
    let size : at + n - at ≡ n = omega arith in
    record {
      piece = slice_range bytes at (at + n);
      gave = gave;
      joined = take-add at n bytes ∙ ap (λ (t : List ℕ). t ++ take n (drop at bytes)) front ∙ ap (λ (k : ℕ). inbox ++ take k (drop at bytes)) (sym size);
      len_is = length-take-le (at + n - at) (drop at bytes) (omega (arith, within, length-drop at bytes)) ∙ size;
      short = few;
    }
