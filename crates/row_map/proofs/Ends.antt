-- The last entry of a segment, and the last row: for `isd_as_at` and `is_above_last`.
use Rattle.std.proofs.Common.{◌≡◌, ◌-◌, List, [], ◌∷◌, length, map, Option, Some, None, refl, sym, ap, ◌∙◌, arith}
use Rattle.std.specs.List.{slice_get}
use Rattle.std.specs.Option.{option_map, option_or}
use Rattle.std.proofs.lemmas.Option.{slice_get-get_or}
use Rattle.seg_core.specs.Message.{last_of}

-- the last element of a list is the element before its end
last_get : {X : Type 0} (x : X) (xs : List X) → last_of (x ∷ xs) ≡ slice_get (x ∷ xs) (length xs)
last_get x [] = refl
last_get x (y ∷ xs) = ap (λ o. option_or o (Some x)) (last_get y xs) ∙ some_stays x y xs
  where
    some_stays : {X : Type 0} (x y : X) (xs : List X) → option_or (slice_get (y ∷ xs) (length xs)) (Some x) ≡ slice_get (y ∷ xs) (length xs)
    some_stays x y xs =
        let there = slice_get-get_or (y ∷ xs) (length xs) y (omega arith) in
        ap (λ o. option_or o (Some x)) there ∙ sym there

or_map : {X Y : Type 0} (view : X → Y) (o : Option X) (x : X) → option_or (option_map view o) (Some (view x)) ≡ option_map view (option_or o (Some x))
or_map view None x = refl
or_map view (Some y) x = refl

last_of-map : {X Y : Type 0} (view : X → Y) (x : X) (xs : List X) → last_of (map view (x ∷ xs)) ≡ option_map view (last_of (x ∷ xs))
last_of-map view x [] = refl
last_of-map view x (y ∷ xs) = ap (λ o. option_or o (Some (view x))) (last_of-map view y xs) ∙ or_map view (last_of (y ∷ xs)) x

-- the last element of a list of views is the view of the last element
pub last_seen : {X Y : Type 0} (view : X → Y) (xs : List X) → option_map view (slice_get xs (length xs - 1)) ≡ last_of (map view xs)
last_seen view [] = refl
last_seen view (x ∷ xs) = ap (λ n. option_map view (slice_get (x ∷ xs) n)) (omega arith) ∙ sym (last_of-map view x xs ∙ ap (option_map view) (last_get x xs))
