-- A whole frame in a stream: for the law `whole_frame`.
use Rattle.std.proofs.Common.{rules, ◌≡◌, ℕ, ◌+◌, ◌*◌, ◌/◌, ◌%◌, ◌^◌, ◌<◌, List, [], ◌∷◌, ◌++◌, length, refl, ap, ◌∙◌, arith}
use Rattle.std.specs.Int.{w32, to_be_bytes}
use Rattle.paced_stream.specs.Tracking.{Spot, between, settled, after_byte, after_bytes}
use Rattle.paced_stream.proofs.TrackerLemmas.{after_append, after_counted}

abbrev spot : ℕ → ℕ → Spot
spot gone counted = record { gone = gone; counted = counted }

-- a byte of a number, as it is encoded
abbrev byte_of : ℕ → ℕ → ℕ
byte_of unit n = n / unit % 256

abbrev shifted : ℕ → ℕ → ℕ
shifted counted byte = (counted * 256 + byte) % 2 ^ 32

-- one of the first three bytes of a length
length_byte : (gone counted byte : ℕ) → gone < 3 → after_byte (spot gone counted) byte ≡ spot (gone + 1) (shifted counted byte)
length_byte gone counted byte early = search (rules, early)

last_byte : (counted byte : ℕ) → after_byte (spot 3 counted) byte ≡ settled 4 (shifted counted byte)
last_byte counted byte = refl

four_bytes : (a b c d : ℕ) → after_bytes between (a ∷ b ∷ c ∷ d ∷ []) ≡ settled 4 (shifted (shifted (shifted (shifted 0 a) b) c) d)
four_bytes a b c d =
    ap (λ (s : Spot). after_bytes s (b ∷ c ∷ d ∷ [])) (length_byte 0 0 a (omega arith))
    ∙ ap (λ (s : Spot). after_bytes s (c ∷ d ∷ [])) (length_byte 1 (shifted 0 a) b (omega arith))
    ∙ ap (λ (s : Spot). after_bytes s (d ∷ [])) (length_byte 2 (shifted (shifted 0 a) b) c (omega arith))
    ∙ last_byte (shifted (shifted (shifted 0 a) b) c) d

-- the number of four bytes of a number
bytes_again : (n : ℕ) → n < 2 ^ 32 → shifted (shifted (shifted (shifted 0 (byte_of 16777216 n)) (byte_of 65536 n)) (byte_of 256 n)) (n % 256) ≡ n
bytes_again n small = omega (arith, small)

-- the length of a frame
after_length : (n : ℕ) → n < 2 ^ 32 → after_bytes between (to_be_bytes w32 n) ≡ settled 4 n
after_length n small = four_bytes (byte_of 16777216 n) (byte_of 65536 n) (byte_of 256 n) (n % 256) ∙ ap (λ (k : ℕ). settled 4 k) (bytes_again n small)

-- what a length counts
within_frame : (n : ℕ) → 0 < n → settled 4 n ≡ spot 4 n
within_frame n some = search (rules, some)

past_frame : (gone counted : ℕ) → gone ≡ 4 + counted → settled gone counted ≡ between
past_frame gone counted past = search (rules, past)

after_content : (content : List ℕ) → after_bytes (settled 4 (length content)) content ≡ between
after_content [] = refl
after_content (byte ∷ more) =
    ap (λ (s : Spot). after_bytes s (byte ∷ more)) (within_frame (length (byte ∷ more)) (omega arith))
    ∙ after_counted (spot 4 (length (byte ∷ more))) (byte ∷ more) (omega arith) (omega arith) (omega arith)
    ∙ past_frame (4 + length (byte ∷ more)) (length (byte ∷ more)) refl

pub whole_frame : (content : List ℕ) → length content < 2 ^ 32 → after_bytes between (to_be_bytes w32 (length content) ++ content) ≡ between
whole_frame content small =
    after_append between (to_be_bytes w32 (length content)) content
    ∙ ap (λ (s : Spot). after_bytes s content) (after_length (length content) small)
    ∙ after_content content
