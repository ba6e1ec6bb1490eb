-- The pieces that were answered one after the other are a session: for `answer_and_flush` and
-- `serve_session`.
use Rattle.std.proofs.Common.{◌≡◌, ℕ, ◌+◌, ◌<◌, ◌≤◌, List, [], ◌∷◌, ◌++◌, length, Option, Result, Ok, Err, IfOk, IfErr, refl, sym, ap, subst, ◌∙◌, arith, append_assoc}
use Rattle.std.proofs.lemmas.List.{append-nil, length-append, nil_from_length}
use Rattle.std.proofs.lemmas.List.Folds.{concat-append}
use Rattle.std.proofs.lemmas.Fn.{FoldsTo-push}
use Rattle.std.specs.List.{AllByRecursion, FoldsTo, concat}
use Rattle.std.specs.Io.KnownBytes.{Appends, Keeps}
use Rattle.std.proofs.KnownBytes.{Appends-trans, Appends-kept}
use Rattle.session_core.specs.declared.error.FrameError.{FrameError}
use Rattle.session_core.specs.declared.error.FrameError.TheVariants as error
use Rattle.session_core.specs.declared.message_kinds.Kinds.{Kinds}
use Rattle.session_core.specs.declared.source.TheConstants.{MOST_PIECE}
use Rattle.session_core.specs.Frames.{MessageView, IsPartial, AreWholeFrames}
use Rattle.session_core.specs.Reply.{ReplyView, HasReplySize}
use Rattle.session_core.specs.Service.{Exchange, messages_of, replies_of, all_told, reply_frames, AreAnswered}
use Rattle.session_core.specs.declared.reply.Form.{Form}
use Rattle.session_core.specs.declared.reply.Form.TheVariants.{Frames}
use Rattle.session_core.specs.Source.{AreReads, TakesIn, FailsToTakeIn}
use Rattle.session_core.specs.Session.{WritesReplies, LeavesAhead, TellsFrontOfLast, IsPrompt, EndsFor, IsServed, IsSentFor}
use Rattle.session_core.specs.Answered.{AreFrontsAnswered}
use Rattle.session_core.proofs.AheadLemmas.{none_ahead, all_ahead}
use Rattle.session_core.proofs.AtOnce.{nothing_is_partial}
use Rattle.session_core.proofs.Streams.{AreWholeFrames-append, AreWholeFrames-more}
use Rattle.session_core.proofs.Exchanges.{HasAnswered, answered_none, sized-append, folds-append, messages-append, replies-append, told-append}

-- ---- one piece

-- all replies were written
all_of : (form : Form) (written : List ℕ) (es : List Exchange) → written ≡ all_told form es → TellsFrontOfLast form written es
all_of form written es told = record {
  before = es;
  last = [];
  parts = sym (append-nil es);
  one = omega arith;
  front = [];
  begins = ([], refl);
  written_is = told ∙ sym (append-nil (all_told form es));
}

-- for any result, all replies but the last one were written, and a front of the last one
front_of : (form : Form) (r : Result ℕ FrameError) (written : List ℕ) (es : List Exchange) → WritesReplies form r written es → TellsFrontOfLast form written es
front_of form (Ok n) written es told = all_of form written es told
front_of form (Err error.Length) written es told = all_of form written es told
front_of form (Err error.Kind) written es told = all_of form written es told
front_of form (Err error.Read) written es told = all_of form written es told
front_of form (Err error.Turns) written es told = all_of form written es told
front_of form (Err error.Write) written es told = told
front_of form (Err error.NoMemory) written es told = record {
  before = told.before;
  last = told.last;
  parts = told.parts;
  one = told.one;
  front = [];
  begins = (all_told form told.last, refl);
  written_is = told.written_is ∙ sym (append-nil (all_told form told.before));
}

module _ {kinds : Kinds} {S : Type 0} (form : Form) (answers : S → MessageView → ReplyView → S → Type 0) where
  -- a flush after the piece that failed
  pub not_flushed : (a b : S) (bytes left : List ℕ) (o p q : Option (List ℕ)) (n : ℕ) (r : Result ℕ FrameError) → AreFrontsAnswered kinds form answers a bytes b left o p n r → Keeps p q
      → AreFrontsAnswered kinds form answers a bytes b left o q n (Err error.Write)
  not_flushed a b bytes left o p q n r x k = record {
    exchanges = x.exchanges;
    rest = x.rest;
    handed = x.handed;
    ahead = all_ahead r x.handed x.rest x.ahead;
    written = x.written;
    framed = x.framed;
    answered = x.answered;
    sized = x.sized;
    appended = Appends-kept o p q x.written x.appended k;
    told = front_of form r x.written x.exchanges x.told;
    stops = tt;
  }

-- nothing is held back
pub sent_for : (P : Type 0) (result : Result ℕ FrameError) → P → IsSentFor P result
sent_for P (Ok count) p = p
sent_for P (Err error.NoMemory) p = p
sent_for P (Err error.Length) p = p
sent_for P (Err error.Kind) p = p
sent_for P (Err error.Read) p = p
sent_for P (Err error.Write) p = tt
sent_for P (Err error.Turns) p = p

-- ---- all pieces

pub pieces-append : (ps qs : List (List ℕ)) → AllByRecursion (λ piece. length piece ≤ MOST_PIECE) ps → AllByRecursion (λ piece. length piece ≤ MOST_PIECE) qs → AllByRecursion (λ piece. length piece ≤ MOST_PIECE) (ps ++ qs)
pieces-append [] qs a b = b
pieces-append (p ∷ ps) qs a b = (a.0, pieces-append ps qs a.1 b)

-- At most this number of reads were made, all whole frames of their pieces were answered, and all
-- replies were written.
pub record SoFar {S R : Type 0} (kinds : Kinds) (answers : S → MessageView → ReplyView → S → Type 0) (gives : R → List ℕ → R → Type 0) (service service_left : S) (source source_left : R) (inbox : List ℕ)
    (output output_left : Option (List ℕ)) (count turn : ℕ) : Type 0 where
  pub pieces : List (List ℕ)
  pub made : FoldsTo gives source pieces source_left
  pub turns_are : length pieces ≡ turn
  pub short : AllByRecursion (λ piece. length piece ≤ MOST_PIECE) pieces
  pub done : HasAnswered kinds Frames answers service (concat pieces) service_left inbox output output_left 0 count
  pub partial : IsPartial kinds inbox

module _ {kinds : Kinds} {S R : Type 0} (answers : S → MessageView → ReplyView → S → Type 0) (gives : R → List ℕ → R → Type 0) where
  pub so_far_none : (s : S) (r : R) (inbox : List ℕ) (o : Option (List ℕ)) → inbox ≡ [] → SoFar kinds answers gives s s r r inbox o o 0 0
  so_far_none s r inbox o none = subst (λ (bytes : List ℕ). SoFar kinds answers gives s s r r bytes o o 0 0) (sym none) (record {
    pieces = [];
    made = refl;
    turns_are = refl;
    short = tt;
    done = answered_none Frames answers s [] o 0 (omega arith);
    partial = nothing_is_partial;
  })

  module _ (a b : S) (r s : R) (inbox : List ℕ) (o p : Option (List ℕ)) (count turn : ℕ) (h : SoFar kinds answers gives a b r s inbox o p count turn) where
    -- the replies that were written before the last piece
    prompt_of : (last : List (List ℕ)) (others : List Exchange) (more : List ℕ) → length last ≤ 1 → IsPrompt kinds (h.pieces ++ last) (h.done.exchanges ++ others) (reply_frames h.done.exchanges ++ more)
    prompt_of last others more one = record {
      earlier = h.pieces;
      last = last;
      pieces_are = refl;
      one = one;
      told = h.done.exchanges;
      others = others;
      exchanges_are = refl;
      rest = inbox;
      framed = record { rest = inbox; whole = h.done.framed; ends = (refl, h.partial) };
      kept = (more, refl);
    }

    -- one more read, which gave this piece
    read_more : (turns : ℕ) (t : R) (piece : List ℕ) → turn < turns → gives s piece t → length piece ≤ MOST_PIECE → AreReads gives turns r (h.pieces ++ piece ∷ []) t
    read_more turns t piece lt one short = record {
      made = FoldsTo-push gives r h.pieces s piece t h.made one;
      few = omega (arith, h.turns_are, length-append h.pieces (piece ∷ []));
      short = pieces-append h.pieces (piece ∷ []) h.short (short, tt);
    }

    all_joined : (piece : List ℕ) → concat (h.pieces ++ piece ∷ []) ≡ concat h.pieces ++ piece
    all_joined piece = concat-append h.pieces (piece ∷ []) ∙ ap (λ (t : List ℕ). concat h.pieces ++ t) (append-nil piece)

    -- the last read gave no piece, or no read was made
    module _ (turns : ℕ) (t : R) (i : Type 0) (last : List (List ℕ)) (nothing : concat (h.pieces ++ last) ≡ concat h.pieces) (one : length last ≤ 1) (read : AreReads gives turns r (h.pieces ++ last) t) where
      same_exchanges : h.done.exchanges ++ [] ≡ h.done.exchanges
      same_exchanges = append-nil h.done.exchanges

      same_frames : reply_frames h.done.exchanges ++ [] ≡ reply_frames h.done.exchanges
      same_frames = append-nil (reply_frames h.done.exchanges)

      closed_prompt : IsPrompt kinds (h.pieces ++ last) h.done.exchanges (reply_frames h.done.exchanges)
      closed_prompt = subst (λ (es : List Exchange). IsPrompt kinds (h.pieces ++ last) es (reply_frames h.done.exchanges)) same_exchanges
          (subst (IsPrompt kinds (h.pieces ++ last) (h.done.exchanges ++ [])) same_frames (prompt_of last [] [] one))

      closed_framed : AreWholeFrames kinds (concat (h.pieces ++ last)) (messages_of h.done.exchanges) inbox
      closed_framed = subst (λ (bytes : List ℕ). AreWholeFrames kinds bytes (messages_of h.done.exchanges) inbox) (sym nothing) h.done.framed

      ends_here : (result : Result ℕ FrameError) → WritesReplies Frames result (reply_frames h.done.exchanges) h.done.exchanges → LeavesAhead kinds result [] inbox → EndsFor kinds i turns (h.pieces ++ last) h.done.exchanges inbox result
          → IsServed kinds answers gives turns a b r t i o p result
      ends_here result told none ended = record {
        pieces = h.pieces ++ last;
        exchanges = h.done.exchanges;
        rest = inbox;
        handed = [];
        ahead = none;
        written = reply_frames h.done.exchanges;
        read = read;
        framed = closed_framed;
        answered = h.done.answered;
        sized = h.done.sized;
        appended = h.done.appended;
        told = told;
        prompt = closed_prompt;
        ended = ended;
      }

      ends_well : i → inbox ≡ [] → IsServed kinds answers gives turns a b r t i o p (Ok count)
      ends_well end none = ends_here (Ok count) refl refl (record { at_end = end; whole = none; counted = omega (arith, h.done.counted) })

      ends_at_read : IsServed kinds answers gives turns a b r t i o p (Err error.Read)
      ends_at_read = ends_here (Err error.Read) refl refl h.partial

      ends_in_time : length (h.pieces ++ last) ≡ turns → IsServed kinds answers gives turns a b r t i o p (Err error.Turns)
      ends_in_time all = ends_here (Err error.Turns) refl refl (h.partial, all)

    nothing_more : concat (h.pieces ++ [] ∷ []) ≡ concat h.pieces
    nothing_more = all_joined [] ∙ append-nil (concat h.pieces)

    -- a read that failed
    fails_to_read : (turns : ℕ) (t : R) (i : Type 0) (e : FrameError) → turn < turns → gives s [] t → e ≡ error.Read → IsServed kinds answers gives turns a b r t i o p (Err e)
    fails_to_read turns t i e lt one is = subst (λ (x : FrameError). IsServed kinds answers gives turns a b r t i o p (Err x)) (sym is)
        (ends_at_read turns t i ([] ∷ []) nothing_more (omega arith) (read_more turns t [] lt one (omega arith)))

    -- the end of the input
    ends_at_end : (turns : ℕ) (t : R) (i : Type 0) (result : Result ℕ FrameError) → turn < turns → gives s [] t → i
        → IfOk result (λ n. n ≡ count) → IfOk result (λ _. inbox ≡ []) → IfErr result (λ e. e ≡ error.Read) → IsServed kinds answers gives turns a b r t i o p result
    ends_at_end turns t i (Ok n) lt one end same none err = subst (λ (k : ℕ). IsServed kinds answers gives turns a b r t i o p (Ok k)) (sym same)
        (ends_well turns t i ([] ∷ []) nothing_more (omega arith) (read_more turns t [] lt one (omega arith)) end none)
    ends_at_end turns t i (Err e) lt one end same none err = fails_to_read turns t i e lt one err

    -- no further read was made
    no_read : (turns : ℕ) → turn ≤ turns → AreReads gives turns r (h.pieces ++ []) s
    no_read turns le =
        let same : h.pieces ++ [] ≡ h.pieces = append-nil h.pieces in
        record { made = subst (λ (ps : List (List ℕ)). FoldsTo gives r ps s) (sym same) h.made; few = omega (arith, le, h.turns_are, ap length same); short = pieces-append h.pieces [] h.short tt }

    -- the allowed number of reads was made
    pub ends_at_turns : (i : Type 0) → IsServed kinds answers gives turn a b r s i o p (Err error.Turns)
    ends_at_turns i =
        let same : h.pieces ++ [] ≡ h.pieces = append-nil h.pieces in
        ends_in_time turn s i [] (ap concat same) (omega arith) (no_read turn (omega arith)) (ap length same ∙ h.turns_are)

    -- no memory for a read
    ends_without_room : (turns : ℕ) (i : Type 0) → turn ≤ turns → IsServed kinds answers gives turns a b r s i o p (Err error.NoMemory)
    ends_without_room turns i le =
        ends_here turns s i [] (ap concat (append-nil h.pieces)) (omega arith) (no_read turns le) (Err error.NoMemory)
        (record { before = h.done.exchanges; last = []; parts = sym (append-nil h.done.exchanges); one = omega arith; written_is = refl }) (none_ahead inbox) tt

    -- nothing was read
    pub fails_to_take_in : (turns : ℕ) (t : R) (i : Type 0) (e : FrameError) → turn < turns → FailsToTakeIn gives s e t → IsServed kinds answers gives turns a b r t i o p (Err e)
    fails_to_take_in turns t i error.NoMemory lt same = subst (λ (u : R). IsServed kinds answers gives turns a b r u i o p (Err error.NoMemory)) (sym same) (ends_without_room turns i (omega (arith, lt)))
    fails_to_take_in turns t i error.Read lt one = fails_to_read turns t i error.Read lt one refl
    fails_to_take_in turns t i error.Length lt f = absurd f
    fails_to_take_in turns t i error.Kind lt f = absurd f
    fails_to_take_in turns t i error.Write lt f = absurd f
    fails_to_take_in turns t i error.Turns lt f = absurd f

    -- a read that gave no byte
    pub ends_after_read : (turns : ℕ) (t : R) (i : Type 0) (len : ℕ) (left : List ℕ) (result : Result ℕ FrameError) → turn < turns → TakesIn gives s inbox len t left → len ≡ 0 → i
        → IfOk result (λ n. n ≡ count) → IfOk result (λ _. left ≡ []) → IfErr result (λ e. e ≡ error.Read) → IsServed kinds answers gives turns a b r t i o p result
    ends_after_read turns t i len left result lt x zero end same none err =
        let nothing : x.piece ≡ [] = nil_from_length x.piece (x.len_is ∙ zero) in
        let one : gives s [] t = subst (λ (piece : List ℕ). gives s piece t) nothing x.gave in
        let is : left ≡ inbox = x.joined ∙ ap (λ (piece : List ℕ). inbox ++ piece) nothing ∙ append-nil inbox in
        ends_at_end turns t i result lt one end same (subst (λ (bytes : List ℕ). IfOk result (λ _. bytes ≡ [])) is none) err

    -- ---- one more piece

    module _ (c : S) (t : R) (piece left : List ℕ) (q : Option (List ℕ)) (result : Result ℕ FrameError) (x : AreFrontsAnswered kinds Frames answers b (inbox ++ piece) c left p q count result) where
      both_framed : AreWholeFrames kinds (concat (h.pieces ++ piece ∷ [])) (messages_of (h.done.exchanges ++ x.exchanges)) x.rest
      both_framed = subst (λ (bytes : List ℕ). AreWholeFrames kinds bytes (messages_of (h.done.exchanges ++ x.exchanges)) x.rest) (sym (all_joined piece))
          (subst (λ (ms : List MessageView). AreWholeFrames kinds (concat h.pieces ++ piece) ms x.rest) (sym (messages-append h.done.exchanges x.exchanges))
          (AreWholeFrames-append (messages_of h.done.exchanges) (messages_of x.exchanges) (concat h.pieces ++ piece) (inbox ++ piece) x.rest
          (AreWholeFrames-more (messages_of h.done.exchanges) (concat h.pieces) inbox piece h.done.framed) x.framed))

      both_answered : AreAnswered answers a (h.done.exchanges ++ x.exchanges) c
      both_answered = folds-append (λ (u : S) (e : Exchange) (v : S). answers u e.message e.reply v) a b c h.done.exchanges x.exchanges h.done.answered x.answered

      both_sized : AllByRecursion HasReplySize (replies_of (h.done.exchanges ++ x.exchanges))
      both_sized = subst (AllByRecursion HasReplySize) (sym (replies-append h.done.exchanges x.exchanges)) (sized-append (replies_of h.done.exchanges) (replies_of x.exchanges) h.done.sized x.sized)

      both_frames : reply_frames (h.done.exchanges ++ x.exchanges) ≡ reply_frames h.done.exchanges ++ reply_frames x.exchanges
      both_frames = told-append Frames h.done.exchanges x.exchanges

    so_far_more : (c : S) (t : R) (piece left : List ℕ) (q : Option (List ℕ)) (sum k : ℕ) → gives s piece t → length piece ≤ MOST_PIECE → k ≡ turn + 1
        → AreFrontsAnswered kinds Frames answers b (inbox ++ piece) c left p q count (Ok sum) → SoFar kinds answers gives a c r t left o q sum k
    so_far_more c t piece left q sum k one short next x = record {
      pieces = h.pieces ++ piece ∷ [];
      made = FoldsTo-push gives r h.pieces s piece t h.made one;
      turns_are = length-append h.pieces (piece ∷ []) ∙ omega (arith, h.turns_are, next);
      short = pieces-append h.pieces (piece ∷ []) h.short (short, tt);
      done = record {
        exchanges = h.done.exchanges ++ x.exchanges;
        framed = subst (AreWholeFrames kinds (concat (h.pieces ++ piece ∷ [])) (messages_of (h.done.exchanges ++ x.exchanges))) (sym x.stops.left_is) (both_framed c t piece left q (Ok sum) x);
        answered = both_answered c t piece left q (Ok sum) x;
        sized = both_sized c t piece left q (Ok sum) x;
        appended = subst (Appends o q) (ap (λ (w : List ℕ). reply_frames h.done.exchanges ++ w) x.told ∙ sym (both_frames c t piece left q (Ok sum) x))
            (Appends-trans o p q (reply_frames h.done.exchanges) x.written h.done.appended x.appended);
        counted = omega (arith, h.done.counted, x.stops.counted, length-append h.done.exchanges x.exchanges);
      };
      partial = subst (IsPartial kinds) (sym x.stops.left_is) x.stops.partial;
    }

    -- what was written for two lists of exchanges is what was written for the last ones after all
    -- of the first
    both_told : (result : Result ℕ FrameError) (written : List ℕ) (es fs : List Exchange) → WritesReplies Frames result written fs → WritesReplies Frames result (reply_frames es ++ written) (es ++ fs)
    both_told (Ok n) written es fs told = ap (λ (w : List ℕ). reply_frames es ++ w) told ∙ sym (told-append Frames es fs)
    both_told (Err error.Length) written es fs told = ap (λ (w : List ℕ). reply_frames es ++ w) told ∙ sym (told-append Frames es fs)
    both_told (Err error.Kind) written es fs told = ap (λ (w : List ℕ). reply_frames es ++ w) told ∙ sym (told-append Frames es fs)
    both_told (Err error.Read) written es fs told = ap (λ (w : List ℕ). reply_frames es ++ w) told ∙ sym (told-append Frames es fs)
    both_told (Err error.Turns) written es fs told = ap (λ (w : List ℕ). reply_frames es ++ w) told ∙ sym (told-append Frames es fs)
    both_told (Err error.Write) written es fs told = record {
      before = es ++ told.before;
      last = told.last;
      parts = ap (λ (gs : List Exchange). es ++ gs) told.parts ∙ sym (append_assoc es told.before told.last);
      one = told.one;
      front = told.front;
      begins = told.begins;
      written_is =
          ap (λ (w : List ℕ). reply_frames es ++ w) told.written_is
          ∙ sym (append_assoc (reply_frames es) (reply_frames told.before) told.front)
          ∙ ap (λ (w : List ℕ). w ++ told.front) (sym (told-append Frames es told.before));
    }
    both_told (Err error.NoMemory) written es fs told = record {
      before = es ++ told.before;
      last = told.last;
      parts = ap (λ (gs : List Exchange). es ++ gs) told.parts ∙ sym (append_assoc es told.before told.last);
      one = told.one;
      written_is = ap (λ (w : List ℕ). reply_frames es ++ w) told.written_is ∙ sym (told-append Frames es told.before);
    }

    -- the session ends within a piece, for this reason
    ends_within : (turns : ℕ) (c : S) (t : R) (i : Type 0) (piece left : List ℕ) (q : Option (List ℕ)) (result : Result ℕ FrameError) → turn < turns → gives s piece t → length piece ≤ MOST_PIECE
        → (x : AreFrontsAnswered kinds Frames answers b (inbox ++ piece) c left p q count result)
        → EndsFor kinds i turns (h.pieces ++ piece ∷ []) (h.done.exchanges ++ x.exchanges) x.rest result → IsServed kinds answers gives turns a c r t i o q result
    ends_within turns c t i piece left q result lt one short x ended = record {
      pieces = h.pieces ++ piece ∷ [];
      exchanges = h.done.exchanges ++ x.exchanges;
      rest = x.rest;
      handed = x.handed;
      ahead = x.ahead;
      written = reply_frames h.done.exchanges ++ x.written;
      read = read_more turns t piece lt one short;
      framed = both_framed c t piece left q result x;
      answered = both_answered c t piece left q result x;
      sized = both_sized c t piece left q result x;
      appended = Appends-trans o p q (reply_frames h.done.exchanges) x.written h.done.appended x.appended;
      told = both_told result x.written h.done.exchanges x.exchanges x.told;
      prompt = prompt_of (piece ∷ []) x.exchanges x.written (omega arith);
      ended = ended;
    }

    ends_at_piece : (turns : ℕ) (c : S) (t : R) (i : Type 0) (piece left : List ℕ) (q : Option (List ℕ)) (e : FrameError) → turn < turns → gives s piece t → length piece ≤ MOST_PIECE
        → AreFrontsAnswered kinds Frames answers b (inbox ++ piece) c left p q count (Err e) → IsServed kinds answers gives turns a c r t i o q (Err e)
    ends_at_piece turns c t i piece left q error.Length lt one short x = ends_within turns c t i piece left q (Err error.Length) lt one short x x.stops
    ends_at_piece turns c t i piece left q error.Kind lt one short x = ends_within turns c t i piece left q (Err error.Kind) lt one short x x.stops
    ends_at_piece turns c t i piece left q error.NoMemory lt one short x = ends_within turns c t i piece left q (Err error.NoMemory) lt one short x tt
    ends_at_piece turns c t i piece left q error.Write lt one short x = ends_within turns c t i piece left q (Err error.Write) lt one short x tt
    ends_at_piece turns c t i piece left q error.Read lt one short x = absurd x.stops
    ends_at_piece turns c t i piece left q error.Turns lt one short x = absurd x.stops

    -- ---- one more read

    module _ (len : ℕ) (t : R) (mid : List ℕ) (x : TakesIn gives s inbox len t mid) where
      piece_is_short : length x.piece ≤ MOST_PIECE
      piece_is_short = omega (arith, x.len_is, x.short)

      pub ends_at_read_piece : (turns : ℕ) (c : S) (i : Type 0) (left : List ℕ) (q : Option (List ℕ)) (e : FrameError) → turn < turns
          → AreFrontsAnswered kinds Frames answers b mid c left p q count (Err e) → IsServed kinds answers gives turns a c r t i o q (Err e)
      ends_at_read_piece turns c i left q e lt fronts =
          ends_at_piece turns c t i x.piece left q e lt x.gave piece_is_short (subst (λ (bytes : List ℕ). AreFrontsAnswered kinds Frames answers b bytes c left p q count (Err e)) x.joined fronts)

      pub so_far_read : (c : S) (left : List ℕ) (q : Option (List ℕ)) (sum k : ℕ) → k ≡ turn + 1
          → AreFrontsAnswered kinds Frames answers b mid c left p q count (Ok sum) → SoFar kinds answers gives a c r t left o q sum k
      so_far_read c left q sum k next fronts =
          so_far_more c t x.piece left q sum k x.gave piece_is_short next (subst (λ (bytes : List ℕ). AreFrontsAnswered kinds Frames answers b bytes c left p q count (Ok sum)) x.joined fronts)
