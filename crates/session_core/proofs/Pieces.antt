-- Pieces that are read one after the other: for `read_pieces`.
use Rattle.std.proofs.Common.{◌≡◌, ℕ, ◌+◌, ◌<◌, ◌≤◌, List, [], ◌∷◌, ◌++◌, length, Err, refl, sym, ap, subst, ◌∙◌, arith, Vec, Ok}
use Rattle.std.proofs.lemmas.List.{append-nil, length-append}
use Rattle.std.proofs.lemmas.List.Folds.{concat-append}
use Rattle.std.proofs.lemmas.Fn.{FoldsTo-push}
use Rattle.std.specs.List.{AllByRecursion, FoldsTo, concat}
use Rattle.session_core.specs.declared.error.FrameError.{FrameError}
use Rattle.session_core.specs.declared.error.FrameError.TheVariants as error
use Rattle.session_core.specs.declared.source.TheConstants.{MOST_PIECE}
use Rattle.session_core.specs.Source.{AreReads, IsAllRead}
use Rattle.session_core.proofs.SessionLemmas.{pieces-append}

-- At most this number of reads were made, and these are the bytes of their pieces.
pub record AreRead {R : Type 0} (gives : R → List ℕ → R → Type 0) (source source_left : R) (bytes : List ℕ) (turn : ℕ) : Type 0 where
  pub pieces : List (List ℕ)
  pub made : FoldsTo gives source pieces source_left
  pub turns_are : length pieces ≡ turn
  pub short : AllByRecursion (λ piece. length piece ≤ MOST_PIECE) pieces
  pub joined : bytes ≡ concat pieces

module _ {R : Type 0} (gives : R → List ℕ → R → Type 0) where
  pub read_none : (r : R) (bytes : List ℕ) → bytes ≡ [] → AreRead gives r r bytes 0
  read_none r bytes none = record { pieces = []; made = refl; turns_are = refl; short = tt; joined = none }

  pub nothing_read : {A : Type 0} (turns : ℕ) (r : R) (i : Type 0) (e : FrameError) → e ≡ error.NoMemory → IsAllRead {A = A} gives turns r r i (Err e)
  nothing_read {A} turns r i e is = subst (λ (x : FrameError). IsAllRead {A = A} gives turns r r i (Err x)) (sym is)
      (record { pieces = []; read = record { made = refl; few = omega arith; short = tt }; ended = tt })

  module _ (r s : R) (bytes : List ℕ) (turn : ℕ) (h : AreRead gives r s bytes turn) where
    all_reads : (turns : ℕ) (t : R) (piece : List ℕ) → turn < turns → gives s piece t → length piece ≤ MOST_PIECE → AreReads gives turns r (h.pieces ++ piece ∷ []) t
    all_reads turns t piece lt one short = record {
      made = FoldsTo-push gives r h.pieces s piece t h.made one;
      few = omega (arith, h.turns_are, length-append h.pieces (piece ∷ []));
      short = pieces-append h.pieces (piece ∷ []) h.short (short, tt);
    }

    all_bytes : (piece : List ℕ) → bytes ++ piece ≡ concat (h.pieces ++ piece ∷ [])
    all_bytes piece = ap (λ (b : List ℕ). b ++ piece) h.joined ∙ ap (λ (b : List ℕ). concat h.pieces ++ b) (sym (append-nil piece)) ∙ sym (concat-append h.pieces (piece ∷ []))

    pub read_more : (t : R) (piece grown : List ℕ) (k : ℕ) → gives s piece t → length piece ≤ MOST_PIECE → grown ≡ bytes ++ piece → k ≡ turn + 1 → AreRead gives r t grown k
    read_more t piece grown k one short is next = record {
      pieces = h.pieces ++ piece ∷ [];
      made = FoldsTo-push gives r h.pieces s piece t h.made one;
      turns_are = length-append h.pieces (piece ∷ []) ∙ omega (arith, h.turns_are, next);
      short = pieces-append h.pieces (piece ∷ []) h.short (short, tt);
      joined = is ∙ all_bytes piece;
    }

    -- the source is at its end
    pub read_whole : {A : Type 0} (turns : ℕ) (t : R) (i : Type 0) (v : Vec ℕ A) → turn < turns → gives s [] t → i → v.items ≡ bytes → IsAllRead {A = A} gives turns r t i (Ok v)
    read_whole turns t i v lt one end is = record {
      pieces = h.pieces ++ [] ∷ [];
      read = all_reads turns t [] lt one (omega arith);
      ended = (end, is ∙ sym (append-nil bytes) ∙ all_bytes []);
    }

    -- a read that failed
    pub read_fails : {A : Type 0} (turns : ℕ) (t : R) (i : Type 0) (e : FrameError) → turn < turns → gives s [] t → e ≡ error.Read → IsAllRead {A = A} gives turns r t i (Err e)
    read_fails {A} turns t i e lt one is = subst (λ (x : FrameError). IsAllRead {A = A} gives turns r t i (Err x)) (sym is)
        (record { pieces = h.pieces ++ [] ∷ []; read = all_reads turns t [] lt one (omega arith); ended = tt })

    -- no memory for a piece
    pub read_without_room : {A : Type 0} (turns : ℕ) (t : R) (i : Type 0) (piece : List ℕ) → turn < turns → gives s piece t → length piece ≤ MOST_PIECE → IsAllRead {A = A} gives turns r t i (Err error.NoMemory)
    read_without_room turns t i piece lt one short = record { pieces = h.pieces ++ piece ∷ []; read = all_reads turns t piece lt one short; ended = tt }

    -- the allowed number of reads was made
    pub read_turns : {A : Type 0} (turns : ℕ) (i : Type 0) → turn ≡ turns → IsAllRead {A = A} gives turns r s i (Err error.Turns)
    read_turns turns i all = record { pieces = h.pieces; read = record { made = h.made; few = omega (arith, h.turns_are, all); short = h.short }; ended = h.turns_are ∙ all }
