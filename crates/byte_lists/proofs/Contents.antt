-- A content of which a part is overwritten. For this crate and the crates above it.
use Rattle.std.proofs.Common.{◌≡◌, inl, inr, ℕ, ◌+◌, ◌-◌, ◌<◌, ◌≤◌, List, length, get_or, drop, sym, ◌∙◌, ap, arith, rules, length-append, length-take, length-drop, get_or-take, get_or-drop}
use Rattle.std.proofs.lemmas.List.{places, same_lists, get_or_past, get_or_default, take_all}
use Rattle.std.proofs.lemmas.Bool.{cases_lt}
use Rattle.byte_lists.specs.Content.{part, overwrite, AreBytes, AreOverwritten}

pub length-overwrite : (at : ℕ) (bytes content : List ℕ) → at + length bytes ≤ length content → length (overwrite at bytes content) ≡ length content
length-overwrite at bytes content inside = simp (length-append, length-take, length-drop) (omega arith)

-- before the range the content is unchanged
pub overwrite_before : (at : ℕ) (bytes content : List ℕ) (i : ℕ) → at ≤ length content → i < at → get_or (overwrite at bytes content) i 0 ≡ get_or content i 0
overwrite_before at bytes content i inside before = search (rules, places)

-- in the range the content is what was written
pub overwrite_within : (at : ℕ) (bytes content : List ℕ) (i : ℕ) → at ≤ length content → at ≤ i → i < at + length bytes → get_or (overwrite at bytes content) i 0 ≡ get_or bytes (i - at) 0
overwrite_within at bytes content i inside from to = search (rules, places)

-- after the range the content is unchanged
pub overwrite_behind : (at : ℕ) (bytes content : List ℕ) (i : ℕ) → at + length bytes ≤ length content → at + length bytes ≤ i → get_or (overwrite at bytes content) i 0 ≡ get_or content i 0
overwrite_behind at bytes content i inside behind = search (rules, places)

pub length-part : (at n : ℕ) (content : List ℕ) → at + n ≤ length content → length (part at n content) ≡ n
length-part at n content inside = simp (length-take, length-drop) (omega arith)

pub get_or-part : (at n : ℕ) (content : List ℕ) (i : ℕ) → i < n → get_or (part at n content) i 0 ≡ get_or content (at + i) 0
get_or-part at n content i below = rw (get_or-take, get_or-drop)

-- two contents that agree in a range have the same part there
pub same_part : (at n : ℕ) (xs ys : List ℕ) → length xs ≡ length ys → ((i : ℕ) → at ≤ i → i < at + n → get_or xs i 0 ≡ get_or ys i 0) → part at n xs ≡ part at n ys
same_part at n xs ys same agree =
    same_lists (part at n xs) (part at n ys) long
    (λ k d below. get_or_default (part at n xs) k d 0 below ∙ entry k (omega (arith, short k below)) ∙ sym (get_or_default (part at n ys) k d 0 (omega (arith, long))))
  where
    long : length (part at n xs) ≡ length (part at n ys)
    long = simp (length-take, length-drop) (omega arith)

    short : (k : ℕ) → k < length (part at n xs) → k < n
    short k below = omega (arith, length-take n (drop at xs))

    entry : (k : ℕ) → k < n → get_or (part at n xs) k 0 ≡ get_or (part at n ys) k 0
    entry k below = get_or-part at n xs k below ∙ agree (at + k) (omega arith) (omega arith) ∙ sym (get_or-part at n ys k below)

-- two contents that agree everywhere are the same
pub same_content : (xs ys : List ℕ) → length xs ≡ length ys → ((i : ℕ) → i < length xs → get_or xs i 0 ≡ get_or ys i 0) → xs ≡ ys
same_content xs ys same agree =
    same_lists xs ys same (λ k d below. get_or_default xs k d 0 below ∙ agree k below ∙ sym (get_or_default ys k d 0 (omega arith)))

-- a part before what is overwritten is unchanged
pub part_below : (at : ℕ) (bytes content : List ℕ) (from n : ℕ) → at + length bytes ≤ length content → from + n ≤ at → part from n (overwrite at bytes content) ≡ part from n content
part_below at bytes content from n inside below =
    same_part from n (overwrite at bytes content) content (length-overwrite at bytes content inside)
    (λ i low high. overwrite_before at bytes content i (omega arith) (omega arith))

-- a part after what is overwritten is unchanged
pub part_above : (at : ℕ) (bytes content : List ℕ) (from n : ℕ) → at + length bytes ≤ length content → at + length bytes ≤ from → part from n (overwrite at bytes content) ≡ part from n content
part_above at bytes content from n inside above =
    same_part from n (overwrite at bytes content) content (length-overwrite at bytes content inside)
    (λ i low high. overwrite_behind at bytes content i inside (omega arith))

-- a part within what is overwritten is a part of what was written
pub part_within : (at : ℕ) (bytes content : List ℕ) (from n : ℕ) → at + length bytes ≤ length content → at ≤ from → from + n ≤ at + length bytes → part from n (overwrite at bytes content) ≡ part (from - at) n bytes
part_within at bytes content from n inside low high =
    let whole = overwrite at bytes content in
    let long : length whole ≡ length content = length-overwrite at bytes content inside in
    let one : length (part from n whole) ≡ n = length-part from n whole (omega arith) in
    let two : length (part (from - at) n bytes) ≡ n = length-part (from - at) n bytes (omega arith) in
    same_content (part from n whole) (part (from - at) n bytes) (one ∙ sym two) (λ k below. entry k (omega arith))
  where
    entry : (k : ℕ) → k < n → get_or (part from n (overwrite at bytes content)) k 0 ≡ get_or (part (from - at) n bytes) k 0
    entry k below =
        let index : from + k - at ≡ from - at + k = omega arith in
        get_or-part from n (overwrite at bytes content) k below
        ∙ overwrite_within at bytes content (from + k) (omega arith) (omega arith) (omega arith)
        ∙ ap (λ (j : ℕ). get_or bytes j 0) index
        ∙ sym (get_or-part (from - at) n bytes k below)

-- the part at the range is the whole of what was written
pub part_new : (at : ℕ) (bytes content : List ℕ) → at + length bytes ≤ length content → part at (length bytes) (overwrite at bytes content) ≡ bytes
part_new at bytes content inside =
    let zero_on : at - at ≡ 0 = omega arith in
    part_within at bytes content at (length bytes) inside (omega arith) (omega arith)
    ∙ ap (λ (k : ℕ). part k (length bytes) bytes) zero_on
    ∙ take_all (length bytes) bytes (omega arith)

-- to write again what is there changes nothing
pub overwrite_same : (at n : ℕ) (content : List ℕ) → at + n ≤ length content → overwrite at (part at n content) content ≡ content
overwrite_same at n content inside =
    let bytes = part at n content in
    let long : length bytes ≡ n = length-part at n content inside in
    same_content (overwrite at bytes content) content (length-overwrite at bytes content (omega arith)) (λ i below. entry i)
  where
    long : length (part at n content) ≡ n
    long = length-part at n content inside

    entry : (i : ℕ) → get_or (overwrite at (part at n content) content) i 0 ≡ get_or content i 0
    entry i = elim (cases_lt i at) [
      | inl before ↦ overwrite_before at (part at n content) content i (omega arith) before
      | inr from ↦ elim (cases_lt i (at + n)) [
        | inr behind ↦ overwrite_behind at (part at n content) content i (omega (arith, long)) (omega (arith, long))
        | inl to ↦
            let index : at + (i - at) ≡ i = omega arith in
            overwrite_within at (part at n content) content i (omega arith) from (omega (arith, long))
            ∙ get_or-part at n content (i - at) (omega arith) ∙ ap (λ (j : ℕ). get_or content j 0) index
      ]
    ]

-- of two writes to one range only the last has an effect
pub overwrite_twice : (at : ℕ) (bytes last content : List ℕ) → at + length bytes ≤ length content → length last ≡ length bytes → overwrite at last (overwrite at bytes content) ≡ overwrite at last content
overwrite_twice at bytes last content inside same =
    same_content (overwrite at last once) (overwrite at last content)
    (length-overwrite at last once (omega (arith, long)) ∙ long ∙ sym (length-overwrite at last content (omega arith))) (λ i below. entry i)
  where
    once : List ℕ
    once = overwrite at bytes content

    long : length once ≡ length content
    long = length-overwrite at bytes content inside

    entry : (i : ℕ) → get_or (overwrite at last once) i 0 ≡ get_or (overwrite at last content) i 0
    entry i = elim (cases_lt i at) [
      | inl before ↦
          overwrite_before at last once i (omega (arith, long)) before ∙ overwrite_before at bytes content i (omega arith) before
          ∙ sym (overwrite_before at last content i (omega arith) before)
      | inr from ↦ elim (cases_lt i (at + length last)) [
        | inl to ↦ overwrite_within at last once i (omega (arith, long)) from to ∙ sym (overwrite_within at last content i (omega arith) from to)
        | inr behind ↦
            overwrite_behind at last once i (omega (arith, long)) behind ∙ overwrite_behind at bytes content i inside (omega arith)
            ∙ sym (overwrite_behind at last content i (omega arith) behind)
      ]
    ]

-- bytes that are written over bytes give bytes
pub bytes_overwrite : (at : ℕ) (bytes content : List ℕ) → at + length bytes ≤ length content → AreBytes bytes → AreBytes content → AreBytes (overwrite at bytes content)
bytes_overwrite at bytes content inside new old i = elim (cases_lt i at) [
  | inl before ↦ omega (arith, overwrite_before at bytes content i (omega arith) before, old i)
  | inr from ↦ elim (cases_lt i (at + length bytes)) [
    | inr behind ↦ omega (arith, overwrite_behind at bytes content i inside behind, old i)
    | inl to ↦ omega (arith, overwrite_within at bytes content i (omega arith) from to, new (i - at))
  ]
]

pub bytes-part : (at n : ℕ) (content : List ℕ) → AreBytes content → AreBytes (part at n content)
bytes-part at n content bytes i = elim (cases_lt i n) [
  | inr past ↦
      let short : length (part at n content) ≤ i = omega (arith, length-take n (drop at content)) in
      let none : get_or (part at n content) i 0 ≡ 0 = get_or_past (part at n content) i 0 short in
      omega arith
  | inl below ↦ omega (arith, get_or-part at n content i below, bytes (at + i))
]

-- all of these facts in one record
pub overwritten : (at : ℕ) (bytes content : List ℕ) → at + length bytes ≤ length content → AreOverwritten at bytes content
overwritten at bytes content inside = record {
  size = length-overwrite at bytes content inside;
  before = λ from n below. part_below at bytes content from n inside below;
  within = λ from n low high. part_within at bytes content from n inside low high;
  behind = λ from n above. part_above at bytes content from n inside above;
  twice = λ last same. overwrite_twice at bytes last content inside same;
  are_bytes = bytes_overwrite at bytes content inside;
}
