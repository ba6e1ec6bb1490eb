-- What was handed in of one part of the input after the other: for `next_reply`, `hand_in_after`,
-- `answer_all`, `serve_session` and `serve`.
use Rattle.std.proofs.Common.{◌≡◌, inr, ℕ, ◌+◌, ◌<◌, ◌≤◌, List, [], ◌∷◌, ◌++◌, length, drop, refl, sym, ap, subst, ◌∙◌, arith}
use Rattle.std.proofs.lemmas.List.{append-nil, drop-drop, length-append}
use Rattle.std.proofs.lemmas.List.Folds.{concat-append}
use Rattle.std.proofs.lemmas.Fn.{FoldsTo-push}
use Rattle.std.specs.List.{concat}
use Rattle.session_core.specs.declared.error.FrameError.{FrameError}
use Rattle.session_core.specs.declared.error.FrameError.TheVariants as error
use Rattle.session_core.specs.declared.message_kinds.Kinds.{Kinds}
use Rattle.session_core.specs.declared.source.TheConstants.{MOST_PIECE}
use Rattle.session_core.specs.Frames.{MessageView}
use Rattle.session_core.specs.Front.{BeginsWithFrame}
use Rattle.session_core.specs.HandedIn.{HandsInAtMostFor, HandsInFirst, HandsInFrontOf, HandsInFromSource}
use Rattle.session_core.specs.Source.{AreReads, TakesIn, FailsToTakeIn}
use Rattle.session_core.proofs.Exchanges.{folds-append}
use Rattle.session_core.proofs.SessionLemmas.{pieces-append}
use Rattle.session_core.proofs.Streams.{AreWholeFrames-none, AreWholeFrames-append, AreWholeFrames-one, AreWholeFrames-more}

-- At most this number of reads were made, and messages were taken of their pieces up to the rest.
pub record HandsInSoFar {X R : Type 0} (kinds : Kinds) (hands_in : X → MessageView → X → Type 0) (gives : R → List ℕ → R → Type 0) (source source_left : R) (rest : List ℕ) (turn : ℕ) (old new : X) : Type 0 where
  pub pieces : List (List ℕ)
  pub read : AreReads gives turn source pieces source_left
  pub front : HandsInFrontOf kinds hands_in (concat pieces) rest old new

module _ {kinds : Kinds} {X : Type 0} (hands_in : X → MessageView → X → Type 0) where
  -- ---- fronts of bytes

  -- nothing was taken
  pub hands_none : (bytes : List ℕ) (x : X) → HandsInFrontOf kinds hands_in bytes bytes x x
  hands_none bytes x = record { messages = []; framed = AreWholeFrames-none bytes; each = refl }

  -- nothing was taken, and nothing changed
  pub hands_nothing : (bytes rest : List ℕ) (x y : X) → rest ≡ bytes → y ≡ x → HandsInFrontOf kinds hands_in bytes rest x y
  hands_nothing bytes rest x y left same =
      subst (λ (bs : List ℕ). HandsInFrontOf kinds hands_in bytes bs x y) (sym left) (subst (HandsInFrontOf kinds hands_in bytes bytes x) (sym same) (hands_none bytes x))

  -- one message
  pub hands_one : (bytes : List ℕ) (message : MessageView) (len : ℕ) (x y : X) → BeginsWithFrame kinds bytes message len → HandsInAtMostFor hands_in x message y
      → HandsInFrontOf kinds hands_in bytes (drop len bytes) x y
  hands_one bytes message len x y framed one = record {
    messages = message ∷ [];
    framed = AreWholeFrames-one bytes message len framed;
    each = (y, one, refl);
  }

  -- one command that was handed in
  pub hands_first : (bytes : List ℕ) (len : ℕ) (x y : X) → HandsInFirst kinds hands_in bytes len x y → HandsInFrontOf kinds hands_in bytes (drop len bytes) x y
  hands_first bytes len x y first = hands_one bytes first.message len x y first.framed (inr first.one)

  -- messages, and then messages of the bytes after them
  pub hands_then : (bytes mid rest : List ℕ) (x y z : X) → HandsInFrontOf kinds hands_in bytes mid x y → HandsInFrontOf kinds hands_in mid rest y z → HandsInFrontOf kinds hands_in bytes rest x z
  hands_then bytes mid rest x y z p q = record {
    messages = p.messages ++ q.messages;
    framed = AreWholeFrames-append p.messages q.messages bytes mid rest p.framed q.framed;
    each = folds-append (HandsInAtMostFor hands_in) x y z p.messages q.messages p.each q.each;
  }

  -- commands at the front of what comes after some bytes, and then one more
  pub hands_next : (bytes new : List ℕ) (len at k : ℕ) (x y z : X) → new ≡ bytes → HandsInFrontOf kinds hands_in (drop len bytes) (drop at bytes) x y
      → HandsInFirst kinds hands_in (drop at new) k y z → HandsInFrontOf kinds hands_in (drop len new) (drop (at + k) new) x z
  hands_next bytes new len at k x y z same before first =
      let front = subst (λ (bs : List ℕ). HandsInFrontOf kinds hands_in (drop len bs) (drop at bs) x y) (sym same) before in
      subst (λ (rest : List ℕ). HandsInFrontOf kinds hands_in (drop len new) rest x z) (drop-drop k at new)
      (hands_then (drop len new) (drop at new) (drop k (drop at new)) x y z front (hands_first (drop at new) k y z first))

  -- the same, where it is known how many bytes were taken
  pub hands_until : (bytes : List ℕ) (len at n : ℕ) (x y z : X) → at ≡ len + n → z ≡ y → HandsInFrontOf kinds hands_in (drop len bytes) (drop at bytes) x y
      → HandsInFrontOf kinds hands_in (drop len bytes) (drop n (drop len bytes)) x z
  hands_until bytes len at n x y z is same h =
      subst (HandsInFrontOf kinds hands_in (drop len bytes) (drop n (drop len bytes)) x) (sym same)
      (subst (λ (rest : List ℕ). HandsInFrontOf kinds hands_in (drop len bytes) rest x y) (ap (λ (k : ℕ). drop k bytes) is ∙ sym (drop-drop n len bytes)) h)

  -- a message that was answered where no command was ahead
  pub hands_answered : (inbox left : List ℕ) (message : MessageView) (len n m : ℕ) (x y : X) → n ≡ 0 → m ≡ 0 → BeginsWithFrame kinds inbox message len → left ≡ drop len inbox
      → HandsInAtMostFor hands_in x message y → HandsInFrontOf kinds hands_in (drop n inbox) (drop m left) x y
  hands_answered inbox left message len n m x y none after framed is one =
      rw (none, after, is) (hands_one inbox message len x y framed one)

  -- commands that were handed in where none was ahead, of which the first was settled
  pub hands_ahead : (inbox kept left : List ℕ) (message : MessageView) (len k n m : ℕ) (x y z w : X) → n ≡ 0 → BeginsWithFrame kinds inbox message len → hands_in x message y → kept ≡ inbox
      → HandsInFrontOf kinds hands_in (drop len kept) (drop m (drop len kept)) y z → left ≡ drop k kept → k ≡ len → w ≡ z → HandsInFrontOf kinds hands_in (drop n inbox) (drop m left) x w
  hands_ahead inbox kept left message len k n m x y z w none framed one same others is first settled =
      let before = hands_one inbox message len x y framed (inr one) in
      let after = subst (λ (bs : List ℕ). HandsInFrontOf kinds hands_in (drop len bs) (drop m (drop len bs)) y z) same others in
      rw (none, settled, is, first, same) (hands_then inbox (drop len inbox) (drop m (drop len inbox)) x y z before after)

  -- the same with more bytes after them
  hands_before : (bytes rest more : List ℕ) (x y : X) → HandsInFrontOf kinds hands_in bytes rest x y → HandsInFrontOf kinds hands_in (bytes ++ more) (rest ++ more) x y
  hands_before bytes rest more x y p = record {
    messages = p.messages;
    framed = AreWholeFrames-more p.messages bytes rest more p.framed;
    each = p.each;
  }

  -- ---- pieces of a source

  module _ {R : Type 0} (gives : R → List ℕ → R → Type 0) where
    -- nothing was read
    pub hands_in_none : (r : R) (inbox : List ℕ) (x : X) → inbox ≡ [] → HandsInSoFar kinds hands_in gives r r inbox 0 x x
    hands_in_none r inbox x none = record {
      pieces = [];
      read = record { made = refl; few = omega arith; short = tt };
      front = subst (λ (bytes : List ℕ). HandsInFrontOf kinds hands_in [] bytes x x) (sym none) (hands_none [] x);
    }

    module _ (r s : R) (inbox : List ℕ) (turn : ℕ) (x y : X) (h : HandsInSoFar kinds hands_in gives r s inbox turn x y) where
      -- no further read was made
      pub hands_in_all : (turns : ℕ) → turn ≤ turns → HandsInFromSource kinds hands_in gives turns r s x y
      hands_in_all turns le = record {
        pieces = h.pieces;
        read = record { made = h.read.made; few = omega (arith, le, h.read.few); short = h.read.short };
        rest = inbox;
        front = h.front;
      }

      -- one more read
      read_more : (t : R) (piece : List ℕ) → gives s piece t → length piece ≤ MOST_PIECE → AreReads gives (turn + 1) r (h.pieces ++ piece ∷ []) t
      read_more t piece one short = record {
        made = FoldsTo-push gives r h.pieces s piece t h.read.made one;
        few = omega (arith, h.read.few, length-append h.pieces (piece ∷ []));
        short = pieces-append h.pieces (piece ∷ []) h.read.short (short, tt);
      }

      -- one more piece, of which nothing was taken yet
      front_more : (piece : List ℕ) → HandsInFrontOf kinds hands_in (concat (h.pieces ++ piece ∷ [])) (inbox ++ piece) x y
      front_more piece =
          let joined : concat (h.pieces ++ piece ∷ []) ≡ concat h.pieces ++ piece = concat-append h.pieces (piece ∷ []) ∙ ap (λ (t : List ℕ). concat h.pieces ++ t) (append-nil piece) in
          subst (λ (bytes : List ℕ). HandsInFrontOf kinds hands_in bytes (inbox ++ piece) x y) (sym joined) (hands_before (concat h.pieces) inbox piece x y h.front)

      -- one more piece, and messages of it
      pub hands_in_more : (len : ℕ) (t : R) (mid left : List ℕ) (k : ℕ) (z : X) → TakesIn gives s inbox len t mid → k ≡ turn + 1 → HandsInFrontOf kinds hands_in mid left y z
          → HandsInSoFar kinds hands_in gives r t left k x z
      hands_in_more len t mid left k z took next taken =
          let short : length took.piece ≤ MOST_PIECE = omega (arith, took.len_is, took.short) in
          subst (λ (turns : ℕ). HandsInSoFar kinds hands_in gives r t left turns x z) (sym next) (record {
            pieces = h.pieces ++ took.piece ∷ [];
            read = read_more t took.piece took.gave short;
            front = hands_then (concat (h.pieces ++ took.piece ∷ [])) (inbox ++ took.piece) left x y z (front_more took.piece)
                (subst (λ (bytes : List ℕ). HandsInFrontOf kinds hands_in bytes left y z) took.joined taken);
          })

      -- a read that failed
      pub hands_in_failed : (turns : ℕ) (t : R) (e : FrameError) → turn < turns → FailsToTakeIn gives s e t → HandsInFromSource kinds hands_in gives turns r t x y
      hands_in_failed turns t error.NoMemory lt same = subst (λ (u : R). HandsInFromSource kinds hands_in gives turns r u x y) (sym same) (hands_in_all turns (omega (arith, lt)))
      hands_in_failed turns t error.Read lt one = record {
        pieces = h.pieces ++ [] ∷ [];
        read = record { made = (read_more t [] one (omega arith)).made; few = omega (arith, lt, (read_more t [] one (omega arith)).few); short = (read_more t [] one (omega arith)).short };
        rest = inbox ++ [];
        front = front_more [];
      }
      hands_in_failed turns t error.Length lt f = absurd f
      hands_in_failed turns t error.Kind lt f = absurd f
      hands_in_failed turns t error.Write lt f = absurd f
      hands_in_failed turns t error.Turns lt f = absurd f

  -- no memory before the first read
  pub hands_in_at_once : {R : Type 0} (gives : R → List ℕ → R → Type 0) (turns : ℕ) (r : R) (x : X) → HandsInFromSource kinds hands_in gives turns r r x x
  hands_in_at_once gives turns r x = hands_in_all gives r r [] 0 x x (hands_in_none gives r [] x refl) turns (omega arith)
