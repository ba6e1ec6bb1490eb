-- Messages answered one after the other: for `answer_all` and `serve`.
use Rattle.std.proofs.Common.{◌≡◌, ℕ, ◌+◌, ◌-◌, ◌^◌, ◌<◌, min, List, [], ◌∷◌, ◌++◌, length, Option, Err, refl, sym, ap, subst, ◌∙◌, arith}
use Rattle.std.proofs.lemmas.List.{append-nil, length-append, map-append}
use Rattle.std.proofs.lemmas.List.Concat.{flat_map-append}
use Rattle.std.proofs.lemmas.Fn.{FoldsTo-push}
use Rattle.std.specs.List.{AllByRecursion, FoldsTo}
use Rattle.std.specs.Io.KnownBytes.{Appends}
use Rattle.std.proofs.KnownBytes.{Appends-nil, Appends-trans}
use Rattle.session_core.specs.declared.error.FrameError.{FrameError}
use Rattle.session_core.specs.declared.error.FrameError.TheVariants as error
use Rattle.session_core.specs.declared.message_kinds.Kinds.{Kinds}
use Rattle.session_core.specs.Frames.{MessageView, message_frame, AreWholeFrames}
use Rattle.session_core.specs.Reply.{ReplyView, HasReplySize, told_as}
use Rattle.session_core.specs.Service.{Exchange, messages_of, replies_of, all_told, AreAnswered}
use Rattle.session_core.specs.declared.reply.Form.{Form}
use Rattle.session_core.specs.Answered.{IsFirstAnswered, IsUnanswered, AreFrontsAnswered, FailsToWrite}
use Rattle.session_core.specs.Front.{IsFaultAt}
use Rattle.session_core.specs.Session.{AreAhead}
use Rattle.session_core.proofs.Streams.{AreWholeFrames-none, AreWholeFrames-append}

-- ---- lists of exchanges

pub sized-append : (rs ss : List ReplyView) → AllByRecursion HasReplySize rs → AllByRecursion HasReplySize ss → AllByRecursion HasReplySize (rs ++ ss)
sized-append [] ss p q = q
sized-append (r ∷ rs) ss p q = (p.0, sized-append rs ss p.1 q)

pub folds-append : {P A : Type 0} (R : P → A → P → Type 0) (p q r : P) (xs ys : List A) → FoldsTo R p xs q → FoldsTo R q ys r → FoldsTo R p (xs ++ ys) r
folds-append R p q r [] ys a b = subst (λ (s : _). FoldsTo R s ys r) (sym a) b
folds-append R p q r (x ∷ xs) ys a b = (a.0, a.1, folds-append R a.0 q r xs ys a.2 b)

pub messages-append : (es fs : List Exchange) → messages_of (es ++ fs) ≡ messages_of es ++ messages_of fs
messages-append es fs = map-append (λ (e : Exchange). e.message) es fs

pub replies-append : (es fs : List Exchange) → replies_of (es ++ fs) ≡ replies_of es ++ replies_of fs
replies-append es fs = map-append (λ (e : Exchange). e.reply) es fs

pub told-append : (form : Form) (es fs : List Exchange) → all_told form (es ++ fs) ≡ all_told form es ++ all_told form fs
told-append form es fs = flat_map-append (λ (e : Exchange). told_as form e.reply) es fs

-- ---- the messages answered before

-- Messages at the front of the bytes were answered, the rest is left, and all replies were written
-- and counted.
pub record HasAnswered {S : Type 0} (kinds : Kinds) (form : Form) (answers : S → MessageView → ReplyView → S → Type 0) (old : S) (bytes : List ℕ) (new : S) (rest : List ℕ)
    (output output_left : Option (List ℕ)) (count sum : ℕ) : Type 0 where
  pub exchanges : List Exchange
  pub framed : AreWholeFrames kinds bytes (messages_of exchanges) rest
  pub answered : AreAnswered answers old exchanges new
  pub sized : AllByRecursion HasReplySize (replies_of exchanges)
  pub appended : Appends output output_left (all_told form exchanges)
  pub counted : sum ≡ min (count + length exchanges) (2 ^ 64 - 1)

module _ {kinds : Kinds} {S : Type 0} (form : Form) (answers : S → MessageView → ReplyView → S → Type 0) where
  pub answered_none : (s : S) (bytes : List ℕ) (o : Option (List ℕ)) (n : ℕ) → n < 2 ^ 64 → HasAnswered kinds form answers s bytes s bytes o o n n
  answered_none s bytes o n fits = record {
    exchanges = [];
    framed = AreWholeFrames-none bytes;
    answered = refl;
    sized = tt;
    appended = Appends-nil o;
    counted = omega arith;
  }

  -- the next frame is faulty
  pub stops_at_fault : (a b c : S) (bytes mid rest left : List ℕ) (o p : Option (List ℕ)) (n m : ℕ) (e : FrameError) → HasAnswered kinds form answers a bytes b mid o p n m
      → IsFaultAt kinds mid e × IsUnanswered b mid c rest → AreFrontsAnswered kinds form answers a bytes c left o p n (Err e)
  stops_at_fault a b c bytes mid rest left o p n m error.Length h f = record {
    exchanges = h.exchanges;
    rest = mid;
    handed = [];
    ahead = refl;
    written = all_told form h.exchanges;
    framed = h.framed;
    answered = subst (λ (s : S). AreAnswered answers a h.exchanges s) (sym f.1.same) h.answered;
    sized = h.sized;
    appended = h.appended;
    told = refl;
    stops = f.0;
  }
  stops_at_fault a b c bytes mid rest left o p n m error.Kind h f = record {
    exchanges = h.exchanges;
    rest = mid;
    handed = [];
    ahead = refl;
    written = all_told form h.exchanges;
    framed = h.framed;
    answered = subst (λ (s : S). AreAnswered answers a h.exchanges s) (sym f.1.same) h.answered;
    sized = h.sized;
    appended = h.appended;
    told = refl;
    stops = f.0;
  }
  stops_at_fault a b c bytes mid rest left o p n m error.NoMemory h f = absurd f.0
  stops_at_fault a b c bytes mid rest left o p n m error.Read h f = absurd f.0
  stops_at_fault a b c bytes mid rest left o p n m error.Write h f = absurd f.0
  stops_at_fault a b c bytes mid rest left o p n m error.Turns h f = absurd f.0

  -- the exchange of the first message
  abbrev pub first_of : (a b : S) (bytes rest : List ℕ) (reply : ReplyView) → IsFirstAnswered kinds answers a bytes reply b rest → Exchange
  first_of a b bytes rest reply x = record { message = x.message; reply = reply }

  first_framed : (a b : S) (bytes rest : List ℕ) (reply : ReplyView) (x : IsFirstAnswered kinds answers a bytes reply b rest) → AreWholeFrames kinds bytes (x.message ∷ []) rest
  first_framed a b bytes rest reply x = record {
    joined = x.framed ∙ ap (λ (t : List ℕ). t ++ rest) (sym (append-nil (message_frame x.message)));
    sized = (x.fits, tt);
  }

  -- the messages answered before, and the first message after them
  module _ (a b c : S) (bytes mid rest : List ℕ) (o p : Option (List ℕ)) (n m : ℕ) (reply : ReplyView) (h : HasAnswered kinds form answers a bytes b mid o p n m) (x : IsFirstAnswered kinds answers b mid reply c rest) where
    abbrev pub more : List Exchange
    more = h.exchanges ++ first_of b c mid rest reply x ∷ []

    more_framed : AreWholeFrames kinds bytes (messages_of more) rest
    more_framed = subst (λ (ms : List MessageView). AreWholeFrames kinds bytes ms rest) (sym (messages-append h.exchanges (first_of b c mid rest reply x ∷ [])))
        (AreWholeFrames-append (messages_of h.exchanges) (x.message ∷ []) bytes mid rest h.framed (first_framed b c mid rest reply x))

    more_answered : AreAnswered answers a more c
    more_answered = FoldsTo-push (λ (s : S) (e : Exchange) (t : S). answers s e.message e.reply t) a h.exchanges b (first_of b c mid rest reply x) c h.answered x.answered

    more_sized : AllByRecursion HasReplySize (replies_of more)
    more_sized = subst (AllByRecursion HasReplySize) (sym (replies-append h.exchanges (first_of b c mid rest reply x ∷ [])))
        (sized-append (replies_of h.exchanges) (reply ∷ []) h.sized (x.sized, tt))

    more_frames : all_told form more ≡ all_told form h.exchanges ++ told_as form reply
    more_frames = told-append form h.exchanges (first_of b c mid rest reply x ∷ []) ∙ ap (λ (t : List ℕ). all_told form h.exchanges ++ t) (append-nil (told_as form reply))

    pub answered_next : (q : Option (List ℕ)) (k : ℕ) → Appends p q (told_as form reply) → k ≡ min (m + 1) (2 ^ 64 - 1) → HasAnswered kinds form answers a bytes c rest o q n k
    answered_next q k w is = record {
      exchanges = more;
      framed = more_framed;
      answered = more_answered;
      sized = more_sized;
      appended = subst (Appends o q) (sym more_frames) (Appends-trans o p q (all_told form h.exchanges) (told_as form reply) h.appended w);
      counted = omega (arith, h.counted, is, length-append h.exchanges (first_of b c mid rest reply x ∷ []));
    }

    -- the reply was not written, or only a front of it
    pub stops_at_write : (left : List ℕ) (q : Option (List ℕ)) (e : FrameError) (handed : List MessageView) → AreAhead kinds handed rest → FailsToWrite p q (told_as form reply) e → AreFrontsAnswered kinds form answers a bytes c left o q n (Err e)
    stops_at_write left q error.Write handed after f = record {
      exchanges = more;
      rest = rest;
      handed = handed;
      ahead = after;
      written = all_told form h.exchanges ++ f.front;
      framed = more_framed;
      answered = more_answered;
      sized = more_sized;
      appended = Appends-trans o p q (all_told form h.exchanges) f.front h.appended f.appended;
      told = record {
        before = h.exchanges;
        last = first_of b c mid rest reply x ∷ [];
        parts = refl;
        one = omega arith;
        front = f.front;
        begins = (f.rest, append-nil (told_as form reply) ∙ f.begins);
        written_is = refl;
      };
      stops = tt;
    }
    stops_at_write left q error.NoMemory handed after f = record {
      exchanges = more;
      rest = rest;
      handed = handed;
      ahead = after;
      written = all_told form h.exchanges;
      framed = more_framed;
      answered = more_answered;
      sized = more_sized;
      appended = subst (Appends o q) (append-nil (all_told form h.exchanges)) (Appends-trans o p q (all_told form h.exchanges) [] h.appended f);
      told = record { before = h.exchanges; last = first_of b c mid rest reply x ∷ []; parts = refl; one = omega arith; written_is = refl };
      stops = tt;
    }
    stops_at_write left q error.Length handed after f = absurd f
    stops_at_write left q error.Kind handed after f = absurd f
    stops_at_write left q error.Read handed after f = absurd f
    stops_at_write left q error.Turns handed after f = absurd f
