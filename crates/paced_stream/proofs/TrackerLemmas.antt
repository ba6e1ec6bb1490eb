-- Bytes of a stream of frames, one after the other: for `Tracker::pass`.
use Rattle.std.proofs.Common.{rules, ◌≡◌, ℕ, ◌+◌, ◌<◌, ◌≤◌, List, [], ◌∷◌, ◌++◌, length, take, refl, ap, ◌∙◌, arith}
use Rattle.paced_stream.specs.Tracking.{Spot, settled, after_byte, after_bytes, IsSpot}

pub after_append : (spot : Spot) (first more : List ℕ) → after_bytes spot (first ++ more) ≡ after_bytes (after_bytes spot first) more
after_append spot [] more = refl
after_append spot (byte ∷ first) more = after_append (after_byte spot byte) first more

abbrev one_more : Spot → Spot
one_more spot = record { gone = spot.gone + 1; counted = spot.counted }

step : (spot : Spot) (byte : ℕ) → 4 ≤ spot.gone → spot.gone + 1 < 4 + spot.counted → after_byte spot byte ≡ one_more spot
step spot byte past within = search (rules, past, within)

-- bytes that a length counts, up to the last one
pub after_counted : (spot : Spot) (bytes : List ℕ) → 4 ≤ spot.gone → IsSpot spot → spot.gone + length bytes ≤ 4 + spot.counted → after_bytes spot bytes ≡ settled (spot.gone + length bytes) spot.counted
after_counted spot [] past at within = search (rules, past, at, within)
after_counted spot (byte ∷ []) past at within = search (rules, past, at, within)
after_counted spot (byte ∷ next ∷ more) past at within =
    ap (λ (s : Spot). after_bytes s (next ∷ more)) (step spot byte past (omega (arith, within)))
    ∙ after_counted (one_more spot) (next ∷ more) (omega (arith, past)) (omega (arith, within)) (omega (arith, within))
    ∙ ap (λ (n : ℕ). settled n spot.counted) (omega arith)

pub taken_counted : (spot : Spot) (bytes : List ℕ) (count : ℕ) → 4 ≤ spot.gone → IsSpot spot → count ≤ length bytes → spot.gone + count ≤ 4 + spot.counted
    → after_bytes spot (take count bytes) ≡ settled (spot.gone + count) spot.counted
taken_counted spot bytes count past at inside within =
    after_counted spot (take count bytes) past at (omega (arith, within, size)) ∙ ap (λ (n : ℕ). settled (spot.gone + n) spot.counted) size
  where
    size : length (take count bytes) ≡ count
    size = search (rules, inside)
