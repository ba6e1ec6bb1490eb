-- Who reads frames from what was written to a sealed sink: for the law `each_was_spent`.
use Rattle.std.proofs.Common.{◌≡◌, ℕ, ◌^◌, ◌<◌, List, [], ◌∷◌, ◌++◌, map, length, take, drop, refl, sym, ap, ◌∙◌, arith, append_assoc}
use Rattle.std.proofs.lemmas.List.{take_at, drop_at, map-append}
use Rattle.std.proofs.lemmas.Nat.{from_be_bytes-to_be_bytes_4}
use Rattle.std.specs.List.{flat_map, AllByRecursion}
use Rattle.session_core.specs.Frames.{frame_encoding, length_at}
use Rattle.session_core.specs.Reply.{ReplyView, Registered, Found, Purged, Removed, Listed, Refused, ack_encoding, reply_content, reply_frame, told_as}
use Rattle.session_core.specs.Told.{Told, bytes_told, spent_for, spent_in, IsFrame, acknowledged_in}

length_at-encoding : (c rest : List ℕ) → length c < 2 ^ 32 → length_at (frame_encoding c ++ rest) ≡ length c
length_at-encoding c rest small = from_be_bytes-to_be_bytes_4 (length c) small

-- two frames at the front of the same bytes
same_front : (c d r s : List ℕ) → length c < 2 ^ 32 → length d < 2 ^ 32 → frame_encoding c ++ r ≡ frame_encoding d ++ s → (c ≡ d) × (r ≡ s)
same_front c d r s a b e =
    let lengths : length c ≡ length d = sym (length_at-encoding c r a) ∙ ap length_at e ∙ length_at-encoding d s b in
    let contents : c ++ r ≡ d ++ s = ap (λ (t : List ℕ). drop 4 t) e in
    let size = length d in
    (sym (take_at c r size (omega (arith, lengths))) ∙ ap (take size) contents ∙ take_at d s size (omega arith), sym (drop_at c r size (omega (arith, lengths))) ∙ ap (drop size) contents ∙ drop_at d s size (omega arith))

-- a reply's frame has the acknowledgement that was spent for it, and no other
acknowledged : (reply : ReplyView) → map ack_encoding (spent_for reply) ≡ acknowledged_in (reply_content reply)
acknowledged (Registered ack) = refl
acknowledged (Found kind segments) = refl
acknowledged (Purged ack) = refl
acknowledged (Removed ack) = refl
acknowledged (Listed more kind segments) = refl
acknowledged (Refused code) = refl

framed : (t : Told) → IsFrame t → told_as t.form t.reply ≡ frame_encoding (reply_content t.reply)
unfolding reply_frame
framed t is = ap (λ (form : _). told_as form t.reply) is.0

pub read_of_told : (told : List Told) (contents : List (List ℕ)) (rest : List ℕ) → AllByRecursion IsFrame told → AllByRecursion (λ content. length content < 2 ^ 32) contents
    → bytes_told told ≡ flat_map frame_encoding contents ++ rest → (others : List (List ℕ)) × (map ack_encoding (spent_in told) ≡ flat_map acknowledged_in contents ++ others)
read_of_told told [] rest p q e = (map ack_encoding (spent_in told), refl)
read_of_told [] (c ∷ cs) rest p q e = absurd (omega (arith, ap length e))
read_of_told (t ∷ ts) (c ∷ cs) rest p q e =
    let fits : length (reply_content t.reply) < 2 ^ 32 = omega (arith, p.0.1) in
    let read = same_front (reply_content t.reply) c (bytes_told ts) (flat_map frame_encoding cs ++ rest) fits q.0
    (ap (λ (bytes : List ℕ). bytes ++ bytes_told ts) (sym (framed t p.0)) ∙ e ∙ append_assoc (frame_encoding c) (flat_map frame_encoding cs) rest) in
    let more = read_of_told ts cs rest p.1 q.1 read.1 in (
      more.0,
      map-append ack_encoding (spent_for t.reply) (spent_in ts) ∙ ap (λ (bytes : List (List ℕ)). bytes ++ map ack_encoding (spent_in ts)) (acknowledged t.reply)
          ∙ ap (λ (content : List ℕ). acknowledged_in content ++ map ack_encoding (spent_in ts)) read.0 ∙ ap (λ (acks : List (List ℕ)). acknowledged_in c ++ acks) more.1
          ∙ sym (append_assoc (acknowledged_in c) (flat_map acknowledged_in cs) more.0),
    )
