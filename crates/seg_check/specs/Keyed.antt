-- The signatures of the test profile: a digest over a key and all that the signature covers.
use Rattle.std.specs.Prelude.{ℕ, List, ◌∷◌, ◌++◌, length}
use Rattle.std.specs.List.{flat_map}
use Rattle.std.specs.Int.{w64, to_be_bytes}
use Rattle.std.specs.Str.{bytes_eq}
use Rattle.sha2.specs.Sha256.{sha256}
use Rattle.seg_check.specs.Signatures.{Verdicts}

-- A piece after its length, which has 8 bytes, big-endian.
abbrev pub piece_encoding : List ℕ → List ℕ
piece_encoding piece = to_be_bytes w64 (length piece) ++ piece

-- The digest of the key, the signed bytes and the associated pieces, each after its length.
unfoldable pub keyed_signature : List ℕ → List ℕ → List (List ℕ) → List ℕ
keyed_signature key signed associated = sha256 (flat_map piece_encoding (key ∷ signed ∷ associated))

-- By this key exactly one signature is good, for any ISD-AS.
abbrev pub keyed_verdicts : List ℕ → Verdicts
keyed_verdicts key ia signed signature associated = bytes_eq signature (keyed_signature key signed associated)
