-- The numbers of the commands that wait, once one more waits.
use Rattle.std.proofs.Common.{◌≡◌, ℕ, zero, suc, ◌+◌, ◌-◌, List, [], ◌∷◌, ◌++◌, length, map, ap, ◌∙◌, arith, length-append}
use Rattle.std.proofs.lemmas.List.{map-append}
use Rattle.command_queue.specs.Numbering.{last_numbers}

-- the last ones before a number, and that number, are the last ones before the next
numbers_with : (next count : ℕ) → last_numbers next count ++ next ∷ [] ≡ last_numbers (next + 1) (suc count)
numbers_with next zero = let e : next ≡ (next + 1) - 1 = omega arith in ap (λ n. n ∷ []) e
numbers_with next (suc count) =
    let e : next - suc count ≡ (next + 1) - suc (suc count) = omega arith in
    let rest = numbers_with next count in
    cc (e, rest)

-- one more waits, with the next number
pub waits : {A : Type 0} (number : A → ℕ) (waiting : List A) (last : A) (next : ℕ) → map number waiting ≡ last_numbers next (length waiting) → number last ≡ next
    → map number (waiting ++ last ∷ []) ≡ last_numbers (next + 1) (length (waiting ++ last ∷ []))
waits number waiting last next are is =
    let more : suc (length waiting) ≡ length (waiting ++ last ∷ []) = omega (arith, length-append waiting (last ∷ [])) in
    map-append number waiting (last ∷ []) ∙ ap (λ n. map number waiting ++ n ∷ []) is ∙ ap (λ xs. xs ++ next ∷ []) are
    ∙ numbers_with next (length waiting) ∙ ap (last_numbers (next + 1)) more
