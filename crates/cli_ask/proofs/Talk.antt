-- What has passed in several steps, and how the bytes that came make up one list.
use Rattle.std.proofs.Common.{◌≡◌, ℕ, ◌+◌, ◌≤◌, List, [], ◌++◌, length, Option, None, Some, Result, IfOk, sym, ap, ◌∙◌, subst, arith, append_assoc, append-nil, length-append, take, drop, take-append-drop}
use Rattle.std.proofs.lemmas.List.{map-append, take_at, length-take-le}
use Rattle.std.proofs.lemmas.Result.{IfOk-weaker}
use Rattle.std.specs.Int.{w32, to_be_bytes}
use borrow.Rule.Slice.PartMut.{put_mid, post_of}
use Rattle.session_core.specs.Reply.{reply_content, reply_frame}
use Rattle.session_core.specs.ReplyViews.{reply_view}
use Rattle.session_core.specs.declared.reply.Reply.{Reply}
use Rattle.session_core.specs.declared.service.Ack.{Ack}
use Rattle.cli_ask.specs.Talk.{Byte, Came, Passes, came}
use Rattle.cli_ask.specs.declared.error.AskError.{AskError}

pub Passes-nil : (a : Option (List Byte)) → Passes a a []
Passes-nil None = tt
Passes-nil (Some x) = sym (append-nil x)

pub Passes-trans : (a b c : Option (List Byte)) (bs cs : List Byte) → Passes a b bs → Passes b c cs → Passes a c (bs ++ cs)
Passes-trans None b c bs cs p q = tt
Passes-trans (Some x) None c bs cs p q = absurd p
Passes-trans (Some x) (Some y) None bs cs p q = absurd q
Passes-trans (Some x) (Some y) (Some z) bs cs p q = q ∙ ap (λ l. l ++ cs) p ∙ append_assoc x bs cs

-- bytes that came after others
pub came-more : (a b c : Option (List Byte)) (bs cs : List ℕ) → Passes a b (came bs) → Passes b c (came cs) → Passes a c (came (bs ++ cs))
came-more a b c bs cs p q = subst (Passes a c) (sym (map-append Came bs cs)) (Passes-trans a b c (came bs) (came cs) p q)

-- the bytes of a part come after those before the part
pub take-filled : (at n k : ℕ) (into part : List ℕ) → at ≤ length into → n ≤ length part → take (at + n) (put_mid at k into part) ≡ take at into ++ take n part
take-filled at n k into part below most =
    let post = post_of at k into in
    let whole : put_mid at k into part ≡ (take at into ++ take n part) ++ (drop n part ++ post) =
    ap (λ (l : List ℕ). take at into ++ (l ++ post)) (sym (take-append-drop n part))
    ∙ ap (λ (l : List ℕ). take at into ++ l) (append_assoc (take n part) (drop n part) post)
    ∙ sym (append_assoc (take at into) (take n part) (drop n part ++ post)) in
    ap (take (at + n)) whole
    ∙ take_at (take at into ++ take n part) (drop n part ++ post) (at + n) (omega (arith, length-append (take at into) (take n part), length-take-le at into below, length-take-le n part most))

-- the length and the content of a reply are its frame
pub came-reply : (a b c : Option (List Byte)) (head content : List ℕ) (n : ℕ) (result : Result (Reply Ack) AskError) → to_be_bytes w32 n ≡ head → length content ≡ n
    → Passes a b (came head) → Passes b c (came content)
    → IfOk result (λ reply. content ≡ reply_content (reply_view (λ ack. ack) reply))
    → IfOk result (λ reply. Passes a c (came (reply_frame (reply_view (λ ack. ack) reply))))
unfolding reply_frame
came-reply a b c head content n result is len p q read =
    let first : head ≡ to_be_bytes w32 (length content) = sym is ∙ ap (to_be_bytes w32) (sym len) in
    let whole = subst (λ (l : List ℕ). Passes a c (came (l ++ content))) first (came-more a b c head content p q) in
    IfOk-weaker result _ _ (λ reply e. subst (λ (l : List ℕ). Passes a c (came (to_be_bytes w32 (length l) ++ l))) e whole) read
