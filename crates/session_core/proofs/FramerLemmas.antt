-- A stream that comes in pieces: one more frame of a piece, and one more piece of a stream. For
-- `Framer` and the laws.
use Rattle.std.proofs.Common.{◌≡◌, ℕ, ◌+◌, ◌≤◌, List, [], ◌∷◌, ◌++◌, length, drop, Option, Some, None, Vec, refl, sym, ap, subst, ◌∙◌, arith, append_assoc}
use Rattle.std.proofs.lemmas.List.{append-nil, length-drop, drop-drop, map-append}
use Rattle.session_core.specs.declared.error.FrameError.{FrameError}
use Rattle.session_core.specs.declared.error.FrameError.TheVariants as error
use Rattle.session_core.specs.declared.message.Message.{Message}
use Rattle.session_core.specs.declared.message_kinds.Kinds.{Kinds}
use Rattle.session_core.specs.Frames.{MessageView, Ending, Rest, FramesEndAs, AreWholeFrames, AreFrames}
use Rattle.session_core.specs.Front.{BeginsWithFrame}
use Rattle.session_core.specs.Framer.{message_view, message_views, ending_error, IsFaulty, Continues, IsFaultOf, ending_of}
use Rattle.session_core.proofs.Streams.{AreWholeFrames-none, AreWholeFrames-append, AreWholeFrames-more, AreWholeFrames-next, BeginsWithFrame-within}
use Rattle.session_core.proofs.Faults.{AreFrames-bad_length, AreFrames-bad_kind}

ends_as : (kinds : Kinds) (bytes : List ℕ) (fault : Option FrameError) → IsFaultOf kinds bytes fault → FramesEndAs kinds bytes (ending_of bytes fault)
ends_as kinds bytes None h = (refl, h)
ends_as kinds bytes (Some error.Length) h = h
ends_as kinds bytes (Some error.Kind) h = h
ends_as kinds bytes (Some error.NoMemory) h = absurd h
ends_as kinds bytes (Some error.Read) h = absurd h
ends_as kinds bytes (Some error.Write) h = absurd h
ends_as kinds bytes (Some error.Turns) h = absurd h

pub fault-ending : (kinds : Kinds) (bytes : List ℕ) (fault : Option FrameError) → IsFaultOf kinds bytes fault → fault ≡ ending_error (ending_of bytes fault)
fault-ending kinds bytes None h = refl
fault-ending kinds bytes (Some error.Length) h = refl
fault-ending kinds bytes (Some error.Kind) h = refl
fault-ending kinds bytes (Some error.NoMemory) h = absurd h
fault-ending kinds bytes (Some error.Read) h = absurd h
fault-ending kinds bytes (Some error.Write) h = absurd h
fault-ending kinds bytes (Some error.Turns) h = absurd h

-- an ending without a fault
pub rest_is : (kept : List ℕ) (fault : Option FrameError) (old : Ending) → ending_of kept fault ≡ old → fault ≡ None → old ≡ Rest kept
rest_is kept fault old view none = sym view ∙ ap (ending_of kept) none

pub not_faulty : (kept : List ℕ) (old : Ending) → old ≡ Rest kept → IsFaulty old → ⊥
not_faulty kept old is faulty = subst IsFaulty is faulty

module _ {kinds : Kinds} where
  -- ---- one more frame

  pub within-next : (bytes back : List ℕ) (m : MessageView) (used len : ℕ) → used ≤ length bytes → back ≡ drop used bytes → BeginsWithFrame kinds back m len → used + len ≤ length bytes
  within-next bytes back m used len within is f =
      let inside : len ≤ length (drop used bytes) = omega (arith, BeginsWithFrame-within back m len f, ap length is) in
      omega (arith, inside, length-drop used bytes)

  pub so_far-next : {A : Type 0} (old new : List (Message (Vec ℕ A))) (message : Message (Vec ℕ A)) (m : MessageView) (bytes back : List ℕ) (used len : ℕ)
      → AreWholeFrames kinds bytes (message_views old) (drop used bytes) → back ≡ drop used bytes → BeginsWithFrame kinds back m len → message_view message ≡ m → new ≡ old ++ message ∷ []
      → AreWholeFrames kinds bytes (message_views new) (drop (used + len) bytes)
  so_far-next old new message m bytes back used len so_far is f same pushed =
      let views : message_views new ≡ message_views old ++ m ∷ [] =
      ap message_views pushed ∙ map-append message_view old (message ∷ []) ∙ ap (λ (x : MessageView). message_views old ++ x ∷ []) same in
      let rest : drop len back ≡ drop (used + len) bytes = ap (drop len) is ∙ drop-drop len used bytes ∙ ap (λ n. drop n bytes) (omega arith) in
      let next : AreWholeFrames kinds bytes (message_views old ++ m ∷ []) (drop len back) =
      AreWholeFrames-next (message_views old) m bytes back len (subst (AreWholeFrames kinds bytes (message_views old)) (sym is) so_far) f in
      rw views (subst (AreWholeFrames kinds bytes (message_views old ++ m ∷ [])) rest next)

  -- ---- one more piece

  -- the frames of the bytes that were kept, followed by the piece
  continues : (kept piece rest : List ℕ) (messages : List MessageView) (fault : Option FrameError) → AreWholeFrames kinds (kept ++ piece) messages rest → IsFaultOf kinds rest fault
      → Continues kinds (Rest kept) piece messages (ending_of rest fault)
  continues kept piece rest messages fault whole h stream before framed = record {
    rest = rest;
    whole = AreWholeFrames-append before messages (stream ++ piece) (kept ++ piece) rest
        (AreWholeFrames-more before stream kept piece (subst (AreWholeFrames kinds stream before) framed.ends.0 framed.whole)) whole;
    ends = ends_as kinds rest fault h;
  }

  -- pieces after a fault
  continues-faulty : (kept piece : List ℕ) (fault : FrameError) → IsFaultOf kinds kept (Some fault) → Continues kinds (ending_of kept (Some fault)) piece [] (ending_of kept (Some fault))
  continues-faulty kept piece error.Length h stream before framed = rw (append-nil before) (AreFrames-bad_length stream piece before framed)
  continues-faulty kept piece error.Kind h stream before framed = rw (append-nil before) (AreFrames-bad_kind stream piece before framed)
  continues-faulty kept piece error.NoMemory h stream before framed = absurd h
  continues-faulty kept piece error.Read h stream before framed = absurd h
  continues-faulty kept piece error.Write h stream before framed = absurd h
  continues-faulty kept piece error.Turns h stream before framed = absurd h

  -- ---- in the terms of `feed`

  pub feeds : (kept piece both rest bytes : List ℕ) (used : ℕ) (messages : List MessageView) (fault : Option FrameError) (old : Ending) → old ≡ Rest kept → both ≡ kept ++ piece → bytes ≡ both
      → rest ≡ drop used both → AreWholeFrames kinds bytes messages (drop used bytes) → IsFaultOf kinds (drop used bytes) fault → Continues kinds old piece messages (ending_of rest fault)
  feeds kept piece both rest bytes used messages fault old is joined same left whole h =
      let bytes_is : bytes ≡ kept ++ piece = same ∙ joined in
      let rest_same : drop used bytes ≡ rest = ap (drop used) same ∙ sym left in
      let w : AreWholeFrames kinds (kept ++ piece) messages rest = subst (AreWholeFrames kinds (kept ++ piece) messages) rest_same (subst (λ (t : List ℕ). AreWholeFrames kinds t messages (drop used bytes)) bytes_is whole) in
      let k : IsFaultOf kinds rest fault = subst (λ (t : List ℕ). IsFaultOf kinds t fault) rest_same h in
      let done : Continues kinds (Rest kept) piece messages (ending_of rest fault) = continues kept piece rest messages fault w k in
      subst (λ (e : Ending). Continues kinds e piece messages (ending_of rest fault)) (sym is) done

  pub stays_faulty : (kept piece : List ℕ) (messages : List MessageView) (found : Option FrameError) (fault : FrameError) (old : Ending) → ending_of kept found ≡ old → IsFaultOf kinds kept found → found ≡ Some fault → messages ≡ []
      → Continues kinds old piece messages old × (Some fault ≡ ending_error old)
  stays_faulty kept piece messages found fault old view h is none =
      let now : ending_of kept (Some fault) ≡ old = ap (ending_of kept) (sym is) ∙ view in
      let k : IsFaultOf kinds kept (Some fault) = subst (IsFaultOf kinds kept) is h in
      let same : Continues kinds old piece [] old = subst (λ (e : Ending). Continues kinds e piece [] e) now (continues-faulty kept piece fault k) in
      (subst (λ (ms : List MessageView). Continues kinds old piece ms old) (sym none) same, fault-ending kinds kept (Some fault) k ∙ ap ending_error now)

  -- ---- pieces one after the other

  pub continues-append : (old mid new : Ending) (front back : List ℕ) (ms ns : List MessageView) → Continues kinds old front ms mid → Continues kinds mid back ns new → Continues kinds old (front ++ back) (ms ++ ns) new
  continues-append old mid new front back ms ns p q stream before framed =
      let after : AreFrames kinds ((stream ++ front) ++ back) ((before ++ ms) ++ ns) new = q (stream ++ front) (before ++ ms) (p stream before framed) in
      subst (λ (t : List ℕ). AreFrames kinds t (before ++ (ms ++ ns)) new) (append_assoc stream front back)
      (subst (λ (xs : List MessageView). AreFrames kinds ((stream ++ front) ++ back) xs new) (append_assoc before ms ns) after)

  starts : AreFrames kinds [] [] (Rest [])
  starts = record {
    rest = [];
    whole = AreWholeFrames-none [];
    ends = (refl, record { length_is_right = λ h. absurd (omega arith); kind_is_right = λ h. absurd (omega arith); incomplete = λ h. absurd (omega arith) });
  }

  pub continues-whole : (stream : List ℕ) (messages : List MessageView) (ending : Ending) → Continues kinds (Rest []) stream messages ending → AreFrames kinds stream messages ending
  continues-whole stream messages ending p = p [] [] starts
