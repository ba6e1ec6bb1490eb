-- What the signatures of a segment's entries cover, and which of them are good.
use Rattle.std.specs.Prelude.{◌≡◌, ℕ, List, [], ◌∷◌, ◌++◌, Bool, IsTrue, map}
use Rattle.std.specs.List.{flat_map}
use Rattle.std.specs.Borrow.{Bor}
use Rattle.seg_core.specs.SegmentView.{EntryView}

-- A verifier's answers: whether a signature is good, by the ISD-AS, the signed bytes, the signature
-- and the associated pieces.
abbrev pub Verdicts : Type 0
Verdicts = ℕ → List ℕ → List ℕ → List (List ℕ) → Bool

-- A list of references as the pieces that they refer to.
abbrev pub referred_pieces : List (Bor (List ℕ)) → List (List ℕ)
referred_pieces pieces = map (λ piece. piece.now) pieces

-- What the signature of an entry covers beside its own bytes: the segment's information, then the
-- signed bytes and the signature of each earlier entry.
abbrev pub associated_pieces : List ℕ → List EntryView → List (List ℕ)
associated_pieces info earlier = info ∷ flat_map (λ e. e.signed ∷ e.signature ∷ []) earlier

-- The signature of an entry is good, given the entries before it.
abbrev pub is_verified : Verdicts → List ℕ → List EntryView → EntryView → Bool
is_verified verifies info earlier e = verifies e.ia e.signed e.signature (associated_pieces info earlier)

-- The signature of each entry is good, given the entries before it.
abbrev pub AllVerified : Verdicts → List ℕ → List EntryView → Type 0
AllVerified verifies info entries =
    (earlier later : List EntryView) (e : EntryView) → entries ≡ earlier ++ e ∷ later → IsTrue (is_verified verifies info earlier e)
