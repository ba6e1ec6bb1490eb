-- Bytes are frames in at most one way: for the laws, and for the contracts of sessions and of
-- `Framer`.
use Rattle.std.proofs.Common.{◌≡◌, ℕ, ◌+◌, ◌⊎◌, inl, inr, List, [], ◌∷◌, ◌++◌, length, take, drop, get_or, Option, Some, None, refl, sym, ap, subst, ◌∙◌, arith, append_assoc}
use Rattle.std.proofs.lemmas.List.{length-append, take_at, drop_at}
use Rattle.std.proofs.lemmas.Nat.{from_be_bytes-to_be_bytes_4, from_be_bytes-to_be_bytes_8}
use Rattle.std.specs.List.{flat_map, AllByRecursion}
use Rattle.std.specs.Option.{IfSome}
use Rattle.session_core.specs.declared.list_request.ListRequest.{ListRequest}
use Rattle.session_core.specs.declared.message.Message.TheVariants.{Register, Lookup, Purge, Remove}
use Rattle.session_core.specs.declared.message.Message.TheVariants as message
use Rattle.session_core.specs.declared.message_kinds.Kinds.{Kinds}
use Rattle.session_core.specs.Frames.{MessageView, message_kind, message_body, id_bytes, list_body, message_frame, length_at, frame_kind_at, IsFrameLength, IsMessageKind, IsListLength, IsLengthOf, HasRightLength, FitsList, FitsFrame, Ending, Rest, BadLength, BadKind, FramesEndAs, AreFrames}
use Rattle.session_core.proofs.FrameLemmas.{list_with-body, message_with, base_kinds}

id_size : (after : Option (List ℕ)) → IfSome after (λ id. length id ≡ 32) → (length (id_bytes after) ≡ 0) ⊎ (length (id_bytes after) ≡ 32)
id_size None h = inl refl
id_size (Some id) h = inr h

list_length : (request : ListRequest) → FitsList request → IsListLength (1 + length (list_body request))
list_length request h = elim (id_size request.after h.id_fits) [ inl none ↦ inl (omega (arith, none)) | inr all ↦ inr (omega (arith, all)) ]

list_in_range : (request : ListRequest) → FitsList request → IsFrameLength (1 + length (list_body request))
list_in_range request h = elim (list_length request h) [ inl short ↦ (omega arith, omega (arith, short)) | inr long ↦ (omega arith, omega (arith, long)) ]

length-content : (m : MessageView) → length (message_kind m ∷ message_body m) ≡ 1 + length (message_body m)
length-content m = omega arith

length-frame : (m : MessageView) (rest : List ℕ) → length (message_frame m ++ rest) ≡ 5 + length (message_body m) + length rest
length-frame m rest = omega (arith, length-append (message_frame m) rest)

kind_at-frame : (m : MessageView) (rest : List ℕ) → frame_kind_at (message_frame m ++ rest) ≡ message_kind m
kind_at-frame m rest = refl

module _ (kinds : Kinds) where
  -- ---- one frame

  in_range_of : (m : MessageView) → FitsFrame kinds m → IsFrameLength (1 + length (message_body m))
  in_range_of (Register body) h = h
  in_range_of (Lookup body) h = h
  in_range_of (Purge moment) h = (omega arith, omega arith)
  in_range_of (Remove kind id) h = (omega arith, omega (arith, h.1))
  in_range_of (message.List request) h = list_in_range request h.1

  length_of_kind : (m : MessageView) → FitsFrame kinds m → IsLengthOf (message_kind m) (1 + length (message_body m))
  length_of_kind (Register body) h = (λ no. absurd (omega arith), (λ no. absurd (omega arith), λ no. absurd (omega arith)))
  length_of_kind (Lookup body) h = (λ no. absurd (omega arith), (λ no. absurd (omega arith), λ no. absurd (omega arith)))
  length_of_kind (Purge moment) h = (λ _. omega arith, (λ no. absurd (omega arith), λ no. absurd (omega arith)))
  length_of_kind (Remove kind id) h = (λ no. absurd (omega arith), (λ _. omega (arith, h.1), λ no. absurd (omega arith)))
  length_of_kind (message.List request) h = (λ no. absurd (omega arith), (λ no. absurd (omega arith), λ _. list_length request h.1))

  length_at-frame : (m : MessageView) (rest : List ℕ) → FitsFrame kinds m → length_at (message_frame m ++ rest) ≡ 1 + length (message_body m)
  length_at-frame m rest sized = from_be_bytes-to_be_bytes_4 (length (message_kind m ∷ message_body m)) (omega (arith, (in_range_of m sized).1)) ∙ length-content m

  message_with-content : (m : MessageView) → FitsFrame kinds m → message_with (message_kind m) (message_body m) ≡ m
  message_with-content (Register body) h = refl
  message_with-content (Lookup body) h = refl
  message_with-content (Purge moment) h = ap Purge (from_be_bytes-to_be_bytes_8 moment h)
  message_with-content (Remove kind id) h = refl
  message_with-content (message.List request) h = ap message.List (list_with-body request h.1)

  message_from_content : (m n : MessageView) → FitsFrame kinds m → FitsFrame kinds n → message_kind m ∷ message_body m ≡ message_kind n ∷ message_body n → m ≡ n
  message_from_content m n a b h =
      sym (message_with-content m a) ∙ ap (λ (t : List ℕ). message_with (get_or t 0 0) (drop 1 t)) h ∙ message_with-content n b

  same_front : (m n : MessageView) (r s : List ℕ) → FitsFrame kinds m → FitsFrame kinds n → message_frame m ++ r ≡ message_frame n ++ s → (m ≡ n) × (r ≡ s)
  same_front m n r s a b e =
      let lengths : 1 + length (message_body m) ≡ 1 + length (message_body n) = sym (length_at-frame m r a) ∙ ap length_at e ∙ length_at-frame n s b in
      let contents : (message_kind m ∷ message_body m) ++ r ≡ (message_kind n ∷ message_body n) ++ s = ap (λ (t : List ℕ). drop 4 t) e in
      let size = 1 + length (message_body n) in
      let one : message_kind m ∷ message_body m ≡ message_kind n ∷ message_body n =
      sym (take_at (message_kind m ∷ message_body m) r size (omega arith)) ∙ ap (take size) contents ∙ take_at (message_kind n ∷ message_body n) s size (omega arith) in
      let rest : r ≡ s =
      sym (drop_at (message_kind m ∷ message_body m) r size (omega arith)) ∙ ap (drop size) contents ∙ drop_at (message_kind n ∷ message_body n) s size (omega arith) in
      (message_from_content m n a b one, rest)

  kind_is_known : (m : MessageView) → FitsFrame kinds m → IsMessageKind kinds (message_kind m)
  kind_is_known (Register body) h = (omega arith, omega (arith, base_kinds kinds))
  kind_is_known (Lookup body) h = (omega arith, omega (arith, base_kinds kinds))
  kind_is_known (Purge moment) h = (omega arith, omega (arith, base_kinds kinds))
  kind_is_known (Remove kind id) h = (omega arith, base_kinds kinds)
  kind_is_known (message.List request) h = h.0

  length_is_right : (m : MessageView) (rest : List ℕ) → FitsFrame kinds m → HasRightLength kinds (message_frame m ++ rest)
  length_is_right m rest h = record {
    in_range = subst IsFrameLength (sym (length_at-frame m rest h)) (in_range_of m h);
    of_kind = λ _ _. subst (IsLengthOf (message_kind m)) (sym (length_at-frame m rest h)) (length_of_kind m h);
  }

  -- ---- an ending

  -- a frame is not an ending
  no_ending : (m : MessageView) (bytes rest : List ℕ) (e : Ending) → bytes ≡ message_frame m ++ rest → FitsFrame kinds m → FramesEndAs kinds bytes e → ⊥
  no_ending m bytes rest (Rest left) e sized h =
      let at : length_at bytes ≡ 1 + length (message_body m) = ap length_at e ∙ length_at-frame m rest sized in
      let size : length bytes ≡ 5 + length (message_body m) + length rest = ap length e ∙ length-frame m rest in
      let short = h.1.incomplete (omega (arith, size)) in
      omega (arith, at, size, short)
  no_ending m bytes rest BadLength e sized h = h.bad (subst (HasRightLength kinds) (sym e) (length_is_right m rest sized))
  no_ending m bytes rest BadKind e sized h = h.bad (subst (IsMessageKind kinds) (sym (ap frame_kind_at e ∙ kind_at-frame m rest)) (kind_is_known m sized))

  one_ending : (bytes : List ℕ) (e f : Ending) → FramesEndAs kinds bytes e → FramesEndAs kinds bytes f → e ≡ f
  one_ending bytes (Rest a) (Rest b) h k = ap Rest (sym h.0 ∙ k.0)
  one_ending bytes (Rest a) BadLength h k = absurd (k.bad (h.1.length_is_right k.long))
  one_ending bytes (Rest a) BadKind h k = absurd (k.bad (h.1.kind_is_right k.long))
  one_ending bytes BadLength (Rest b) h k = absurd (h.bad (k.1.length_is_right h.long))
  one_ending bytes BadLength BadLength h k = refl
  one_ending bytes BadLength BadKind h k = absurd (h.bad k.length_is_right)
  one_ending bytes BadKind (Rest b) h k = absurd (h.bad (k.1.kind_is_right h.long))
  one_ending bytes BadKind BadLength h k = absurd (k.bad h.length_is_right)
  one_ending bytes BadKind BadKind h k = refl

  -- ---- a stream

  one_stream : (ms ns : List MessageView) (r s : List ℕ) (e f : Ending) → flat_map message_frame ms ++ r ≡ flat_map message_frame ns ++ s
      → AllByRecursion (FitsFrame kinds) ms → AllByRecursion (FitsFrame kinds) ns → FramesEndAs kinds r e → FramesEndAs kinds s f → (ms ≡ ns) × (e ≡ f)
  one_stream [] [] r s e f same p q h k = (refl, one_ending s e f (subst (λ (t : List ℕ). FramesEndAs kinds t e) same h) k)
  one_stream [] (n ∷ ns) r s e f same p q h k = absurd (no_ending n r (flat_map message_frame ns ++ s) e (same ∙ append_assoc (message_frame n) (flat_map message_frame ns) s) q.0 h)
  one_stream (m ∷ ms) [] r s e f same p q h k = absurd (no_ending m s (flat_map message_frame ms ++ r) f (sym same ∙ append_assoc (message_frame m) (flat_map message_frame ms) r) p.0 k)
  one_stream (m ∷ ms) (n ∷ ns) r s e f same p q h k =
      let front = same_front m n (flat_map message_frame ms ++ r) (flat_map message_frame ns ++ s) p.0 q.0
      (sym (append_assoc (message_frame m) (flat_map message_frame ms) r) ∙ same ∙ append_assoc (message_frame n) (flat_map message_frame ns) s) in
      let more = one_stream ms ns r s e f front.1 p.1 q.1 h k in
      (ap (λ (x : MessageView). x ∷ ms) front.0 ∙ ap (λ (xs : List MessageView). n ∷ xs) more.0, more.1)

  pub one_decoding_of : (bytes : List ℕ) (ms ns : List MessageView) (e f : Ending) → AreFrames kinds bytes ms e → AreFrames kinds bytes ns f → (ms ≡ ns) × (e ≡ f)
  one_decoding_of bytes ms ns e f p q = one_stream ms ns p.rest q.rest e f (sym p.whole.joined ∙ q.whole.joined) p.whole.sized q.whole.sized p.ends q.ends
