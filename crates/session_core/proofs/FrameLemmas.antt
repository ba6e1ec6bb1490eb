-- A whole frame at the front of bytes, and the message that its encoding gives: for `next_frame`
-- and the laws.
use Rattle.std.proofs.Common.{◌≡◌, ℕ, zero, suc, ◌+◌, ◌*◌, ◌-◌, ◌<◌, ◌≤◌, ◌⊎◌, inl, inr, List, [], ◌∷◌, ◌++◌, ◌^◌, length, take, drop, get_or, slice_range, Option, Some, None, refl, sym, ap, ◌∙◌, arith, lit<, append_assoc, take-append-drop}
use Rattle.std.proofs.lemmas.List.{get_or-take, length-take-le, length-drop, drop-drop, drop_more}
use Rattle.std.proofs.lemmas.Nat.{be_bytes_4, be_bytes_8, from_be_bytes-to_be_bytes_8}
use Rattle.std.specs.Int.{w32, w64, to_be_bytes, from_be_bytes}
use Rattle.std.specs.Option.{IfSome}
use Rattle.session_core.specs.declared.list_request.ListRequest.{ListRequest}
use Rattle.session_core.specs.declared.message.Message.TheVariants.{Register, Lookup, Purge, Remove}
use Rattle.session_core.specs.declared.message.Message.TheVariants as message
use Rattle.session_core.specs.declared.message_kinds.Kinds.{Kinds}
use Rattle.session_core.specs.declared.message_kinds.Kinds.TheVariants.{Base, WithLists}
use Rattle.session_core.specs.Frames.{MessageView, message_kind, message_body, id_bytes, list_body, frame_encoding, length_at, frame_kind_at, greatest_kind, IsFrameLength, IsMessageKind, IsListLength, IsLengthOf, FitsList, FitsFrame}
use Rattle.session_core.specs.Front.{BeginsWithFrame}

abbrev pub AreBytes : List ℕ → Type 0
AreBytes bytes = (i : ℕ) → get_or bytes i 0 < 256

pub take_below : (n : ℕ) (bytes : List ℕ) → AreBytes bytes → AreBytes (take n bytes)
take_below zero bytes b i = lit< tt
take_below (suc n) [] b i = b i
take_below (suc n) (x ∷ xs) b zero = b zero
take_below (suc n) (x ∷ xs) b (suc i) = take_below n xs (λ j. b (suc j)) i

pub drop_below : (n : ℕ) (bytes : List ℕ) → AreBytes bytes → AreBytes (drop n bytes)
drop_below zero bytes b i = b i
drop_below (suc n) [] b i = b i
drop_below (suc n) (x ∷ xs) b i = drop_below n xs (λ j. b (suc j)) i

-- four bytes are the encoding of their number
pub length_encoded : (bytes : List ℕ) → AreBytes bytes → 4 ≤ length bytes → to_be_bytes w32 (length_at bytes) ≡ take 4 bytes
length_encoded bytes b long = be_bytes_4 (take 4 bytes) (length_at bytes) (length-take-le 4 bytes long) (take_below 4 bytes b) refl

-- a frame's content
pub content_at : (bytes : List ℕ) (len : ℕ) → 1 ≤ len → 4 + len ≤ length bytes → (get_or bytes 4 0 ∷ slice_range bytes 5 (4 + len)) ≡ take len (drop 4 bytes)
content_at bytes len some whole =
    let inside : 4 < length bytes = omega arith in
    let first : drop 4 bytes ≡ get_or bytes 4 0 ∷ drop 5 bytes = drop_more bytes 4 0 inside in
    let count : 4 + len - 5 ≡ len - 1 = omega arith in
    let more : len ≡ suc (len - 1) = omega arith in
    rw (first, count) (ap (λ n. take n (get_or bytes 4 0 ∷ drop 5 bytes)) (sym more))

pub length-content_at : (bytes : List ℕ) (len : ℕ) → 4 + len ≤ length bytes → length (take len (drop 4 bytes)) ≡ len
length-content_at bytes len whole = length-take-le len (drop 4 bytes) (omega (arith, length-drop 4 bytes))

pub length-body_at : (bytes : List ℕ) (len : ℕ) → 1 ≤ len → 4 + len ≤ length bytes → 1 + length (slice_range bytes 5 (4 + len)) ≡ len
length-body_at bytes len some whole =
    let size : length (get_or bytes 4 0 ∷ slice_range bytes 5 (4 + len)) ≡ len = ap length (content_at bytes len some whole) ∙ length-content_at bytes len whole in
    omega (arith, size)

pub frame_at : (bytes : List ℕ) (len : ℕ) → AreBytes bytes → len ≡ length_at bytes → 4 + len ≤ length bytes
    → bytes ≡ frame_encoding (take len (drop 4 bytes)) ++ drop (4 + len) bytes
frame_at bytes len b is whole =
    let long : 4 ≤ length bytes = omega arith in
    let content = take len (drop 4 bytes) in
    let head : to_be_bytes w32 (length content) ≡ take 4 bytes =
    ap (to_be_bytes w32) (length-content_at bytes len whole ∙ is) ∙ length_encoded bytes b long in
    let rest : content ++ drop (4 + len) bytes ≡ drop 4 bytes =
    ap (λ (t : List ℕ). content ++ t) (sym (drop-drop len 4 bytes)) ∙ take-append-drop len (drop 4 bytes) in
    sym (append_assoc (to_be_bytes w32 (length content)) content (drop (4 + len) bytes)
    ∙ ap (λ (t : List ℕ). to_be_bytes w32 (length content) ++ t) rest
    ∙ ap (λ (t : List ℕ). t ++ drop 4 bytes) head
    ∙ take-append-drop 4 bytes)

-- a message at the front
pub begins : {kinds : Kinds} (bytes : List ℕ) (len : ℕ) (m : MessageView) → AreBytes bytes → len ≡ length_at bytes → 1 ≤ len → 4 + len ≤ length bytes
    → message_kind m ≡ frame_kind_at bytes → message_body m ≡ slice_range bytes 5 (4 + len) → FitsFrame kinds m → BeginsWithFrame kinds bytes m (4 + len)
begins bytes len m b is some whole kind body fits =
    let content : (message_kind m ∷ message_body m) ≡ take len (drop 4 bytes) =
    ap (λ k. k ∷ message_body m) kind ∙ ap (λ (t : List ℕ). get_or bytes 4 0 ∷ t) body ∙ content_at bytes len some whole in
    let size : length (message_kind m ∷ message_body m) ≡ len = ap length content ∙ length-content_at bytes len whole in
    record {
      frame = frame_at bytes len b is whole ∙ ap (λ (t : List ℕ). frame_encoding t ++ drop (4 + len) bytes) (sym content);
      sized = fits;
      len_is = omega arith;
    }

-- the length as a sum of four bytes
pub length_at_is : (bytes : List ℕ) (n : ℕ) → n ≡ get_or bytes 0 0 * 16777216 + (get_or bytes 1 0 * 65536 + (get_or bytes 2 0 * 256 + (get_or bytes 3 0 * 1 + 0))) → n ≡ length_at bytes
length_at_is bytes n is =
    let a : get_or (take 4 bytes) 0 0 ≡ get_or bytes 0 0 = get_or-take 4 bytes 0 0 (lit< tt) in
    let b : get_or (take 4 bytes) 1 0 ≡ get_or bytes 1 0 = get_or-take 4 bytes 1 0 (lit< tt) in
    let c : get_or (take 4 bytes) 2 0 ≡ get_or bytes 2 0 = get_or-take 4 bytes 2 0 (lit< tt) in
    let d : get_or (take 4 bytes) 3 0 ≡ get_or bytes 3 0 = get_or-take 4 bytes 3 0 (lit< tt) in
    omega arith

-- ---- the list with a body

abbrev pub id_from : List ℕ → Option (List ℕ)
id_from [] = None
id_from (x ∷ xs) = Some (x ∷ xs)

id_from-bytes : (after : Option (List ℕ)) → IfSome after (λ id. length id ≡ 32) → id_from (id_bytes after) ≡ after
id_from-bytes None h = refl
id_from-bytes (Some []) h = absurd (omega (arith, h))
id_from-bytes (Some (x ∷ xs)) h = refl

id_bytes-from : (bytes : List ℕ) → id_bytes (id_from bytes) ≡ bytes
id_bytes-from [] = refl
id_bytes-from (x ∷ xs) = refl

id_from-fits : (bytes : List ℕ) → (length bytes ≡ 0) ⊎ (length bytes ≡ 32) → IfSome (id_from bytes) (λ id. length id ≡ 32)
id_from-fits [] h = tt
id_from-fits (x ∷ xs) (inl none) = absurd (omega (arith, none))
id_from-fits (x ∷ xs) (inr all) = all

pub after_size : (body : List ℕ) → IsListLength (1 + length body) → (length (drop 17 body) ≡ 0) ⊎ (length (drop 17 body) ≡ 32)
after_size body (inl short) = inl (omega (arith, short, length-drop 17 body))
after_size body (inr long) = inr (omega (arith, long, length-drop 17 body))

pub list_is_long : (body : List ℕ) → IsListLength (1 + length body) → 17 ≤ length body
list_is_long body (inl short) = omega (arith, short)
list_is_long body (inr long) = omega (arith, long)

-- eight bytes of a body
side_at : (body : List ℕ) (at : ℕ) → AreBytes body → at + 8 ≤ length body → to_be_bytes w64 (from_be_bytes w64 (take 8 (drop at body))) ≡ take 8 (drop at body)
side_at body at b whole =
    be_bytes_8 (take 8 (drop at body)) (from_be_bytes w64 (take 8 (drop at body))) (length-take-le 8 (drop at body) (omega (arith, length-drop at body)))
    (take_below 8 (drop at body) (drop_below at body b)) refl

abbrev pub list_with : List ℕ → ListRequest
list_with body = record {
  kind = get_or body 0 0;
  start = from_be_bytes w64 (take 8 (drop 1 body));
  end = from_be_bytes w64 (take 8 (drop 9 body));
  after = id_from (drop 17 body);
}

-- a body of one byte, two sides and the rest
body_parts : (body : List ℕ) → 17 ≤ length body → get_or body 0 0 ∷ (take 8 (drop 1 body) ++ (take 8 (drop 9 body) ++ drop 17 body)) ≡ body
body_parts body long =
    let last : take 8 (drop 9 body) ++ drop 17 body ≡ drop 9 body = ap (λ (t : List ℕ). take 8 (drop 9 body) ++ t) (sym (drop-drop 8 9 body)) ∙ take-append-drop 8 (drop 9 body) in
    let both : take 8 (drop 1 body) ++ drop 9 body ≡ drop 1 body = ap (λ (t : List ℕ). take 8 (drop 1 body) ++ t) (sym (drop-drop 8 1 body)) ∙ take-append-drop 8 (drop 1 body) in
    ap (λ (t : List ℕ). get_or body 0 0 ∷ (take 8 (drop 1 body) ++ t)) last ∙ ap (λ (t : List ℕ). get_or body 0 0 ∷ t) both ∙ sym (drop_more body 0 0 (omega (arith, long)))

pub list_body-of : (body : List ℕ) (request : ListRequest) → AreBytes body → 17 ≤ length body → request.kind ≡ get_or body 0 0 → request.start ≡ from_be_bytes w64 (take 8 (drop 1 body))
    → request.end ≡ from_be_bytes w64 (take 8 (drop 9 body)) → id_bytes request.after ≡ drop 17 body → list_body request ≡ body
list_body-of body request b long kind start end after =
    ap (λ (k : ℕ). k ∷ (to_be_bytes w64 request.start ++ (to_be_bytes w64 request.end ++ id_bytes request.after))) kind
    ∙ ap (λ (t : List ℕ). get_or body 0 0 ∷ (t ++ (to_be_bytes w64 request.end ++ id_bytes request.after))) (ap (to_be_bytes w64) start ∙ side_at body 1 b (omega (arith, long)))
    ∙ ap (λ (t : List ℕ). get_or body 0 0 ∷ (take 8 (drop 1 body) ++ (t ++ id_bytes request.after))) (ap (to_be_bytes w64) end ∙ side_at body 9 b (omega (arith, long)))
    ∙ ap (λ (t : List ℕ). get_or body 0 0 ∷ (take 8 (drop 1 body) ++ (take 8 (drop 9 body) ++ t))) after
    ∙ body_parts body long

same_list : (request : ListRequest) (start end : ℕ) (after : Option (List ℕ)) → start ≡ request.start → end ≡ request.end → after ≡ request.after
    → record { kind = request.kind; start = start; end = end; after = after } ≡ request
same_list request start end after a b c = rw (a, b, c) refl

pub list_with-body : (request : ListRequest) → FitsList request → list_with (list_body request) ≡ request
list_with-body request h =
    same_list request _ _ _ (from_be_bytes-to_be_bytes_8 request.start h.start_fits) (from_be_bytes-to_be_bytes_8 request.end h.end_fits) (id_from-bytes request.after h.id_fits)

-- ---- the message of a kind with a body

abbrev pub message_with : ℕ → List ℕ → MessageView
message_with (suc zero) body = Register body
message_with (suc (suc zero)) body = Lookup body
message_with (suc (suc (suc zero))) body = Purge (from_be_bytes w64 body)
message_with (suc (suc (suc (suc zero)))) body = Remove (get_or body 0 0) (drop 1 body)
message_with _ body = message.List (list_with body)

pub record IsMessageWith (kinds : Kinds) (kind : ℕ) (body : List ℕ) (m : MessageView) : Type 0 where
  pub kind_is : message_kind m ≡ kind
  pub body_is : message_body m ≡ body
  pub fits : FitsFrame kinds m

moment_fits : (body : List ℕ) → AreBytes body → from_be_bytes w64 body < 2 ^ 64
moment_fits body b = omega (arith, b 0, b 1, b 2, b 3, b 4, b 5, b 6, b 7)

-- kinds 1 to 4 are always there, and none is above 5
pub base_kinds : (kinds : Kinds) → 4 ≤ greatest_kind kinds
base_kinds Base = omega arith
base_kinds WithLists = omega arith

pub no_more_kinds : (kinds : Kinds) → greatest_kind kinds ≤ 5
no_more_kinds Base = omega arith
no_more_kinds WithLists = omega arith

-- each kind has a message for each body that its frames can have
pub message_with_is : {kinds : Kinds} (kind : ℕ) (body : List ℕ) → AreBytes body → IsMessageKind kinds kind → IsFrameLength (1 + length body) → IsLengthOf kind (1 + length body) → IsMessageWith kinds kind body (message_with kind body)
message_with_is zero body b known sized of_kind = absurd (omega (arith, known.0))
message_with_is (suc zero) body b known sized of_kind = record { kind_is = refl; body_is = refl; fits = sized }
message_with_is (suc (suc zero)) body b known sized of_kind = record { kind_is = refl; body_is = refl; fits = sized }
message_with_is (suc (suc (suc zero))) body b known sized of_kind =
    let nine : 1 + length body ≡ 9 = of_kind.0 refl in
    record { kind_is = refl; body_is = be_bytes_8 body (from_be_bytes w64 body) (omega arith) b refl; fits = moment_fits body b }
message_with_is (suc (suc (suc (suc zero)))) body b known sized of_kind =
    let size : 1 + length body ≡ 34 = of_kind.1.0 refl in
    record { kind_is = refl; body_is = sym (drop_more body 0 0 (omega arith)); fits = (b 0, omega (arith, length-drop 1 body)) }
message_with_is (suc (suc (suc (suc (suc zero))))) body b known sized of_kind =
    let size : IsListLength (1 + length body) = of_kind.1.1 refl in
    let long : 17 ≤ length body = list_is_long body size in
    record {
      kind_is = refl;
      body_is = list_body-of body (list_with body) b long refl refl refl (id_bytes-from (drop 17 body));
      fits = (
        known,
        record {
          kind_fits = b 0;
          start_fits = moment_fits (take 8 (drop 1 body)) (take_below 8 (drop 1 body) (drop_below 1 body b));
          end_fits = moment_fits (take 8 (drop 9 body)) (take_below 8 (drop 9 body) (drop_below 9 body b));
          id_fits = id_from-fits (drop 17 body) (after_size body size);
        },
      );
    }
message_with_is {kinds} (suc (suc (suc (suc (suc (suc k)))))) body b known sized of_kind = absurd (omega (arith, known.1, no_more_kinds kinds))
