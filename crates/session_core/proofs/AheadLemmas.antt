-- Commands that were handed in, one after the other: for `hand_in_after`, `settle`, `next_reply`
-- and `answer_all`.
use Rattle.std.proofs.Common.{◌≡◌, ℕ, suc, ◌+◌, ◌^◌, ◌<◌, ◌≤◌, List, [], ◌∷◌, ◌++◌, length, drop, Option, Some, None, Result, Ok, Err, refl, sym, ap, subst, ◌∙◌, arith}
use Rattle.std.proofs.lemmas.List.{drop-drop, length-drop}
use Rattle.std.specs.List.{AllByRecursion}
use Rattle.std.specs.Borrow.{Bor}
use Rattle.std.specs.Option.{IsSome, IfSome}
use Rattle.std.specs.Result.{IfOk}
use Rattle.session_core.specs.declared.ahead.Handed.{Handed}
use Rattle.session_core.specs.declared.ahead.TheConstants.{MOST_AHEAD}
use Rattle.session_core.specs.declared.command_kind.CommandKind.{CommandKind}
use Rattle.session_core.specs.declared.error.FrameError.{FrameError}
use Rattle.session_core.specs.declared.error.FrameError.TheVariants as error
use Rattle.session_core.specs.declared.message.Message.{Message}
use Rattle.session_core.specs.declared.message_kinds.Kinds.{Kinds}
use Rattle.session_core.specs.declared.service.Ack.{Ack}
use Rattle.session_core.specs.declared.service.Code.{Code}
use Rattle.session_core.specs.Ahead.{frames_len, IsHandedIn, AreHandedIn}
use Rattle.session_core.specs.Answered.{IsFirstAnswered, LeavesFewAhead}
use Rattle.session_core.specs.Commands.{command_kind, reply_to_kind}
use Rattle.session_core.specs.Frames.{MessageView, AreWholeFrames}
use Rattle.session_core.specs.Front.{message_at, IsFrontReading}
use Rattle.session_core.specs.Reply.{ReplyView, HasReplySize}
use Rattle.session_core.specs.Session.{AreAhead, LeavesAhead}
use Rattle.session_core.proofs.Streams.{AreWholeFrames-none, AreWholeFrames-append, AreWholeFrames-one, BeginsWithFrame-within}

-- ---- no command

pub none_ahead : {kinds : Kinds} (bytes : List ℕ) → AreAhead kinds [] bytes
none_ahead bytes = record { commands = tt; few = omega arith; behind = bytes; framed = AreWholeFrames-none bytes }

pub all_ahead : {kinds : Kinds} (result : Result ℕ FrameError) (messages : List MessageView) (rest : List ℕ) → LeavesAhead kinds result messages rest → AreAhead kinds messages rest
all_ahead {kinds} (Ok n) messages rest none = subst (λ (ms : List MessageView). AreAhead kinds ms rest) (sym none) (none_ahead rest)
all_ahead (Err error.NoMemory) messages rest are = are
all_ahead {kinds} (Err error.Length) messages rest none = subst (λ (ms : List MessageView). AreAhead kinds ms rest) (sym none) (none_ahead rest)
all_ahead {kinds} (Err error.Kind) messages rest none = subst (λ (ms : List MessageView). AreAhead kinds ms rest) (sym none) (none_ahead rest)
all_ahead {kinds} (Err error.Read) messages rest none = subst (λ (ms : List MessageView). AreAhead kinds ms rest) (sym none) (none_ahead rest)
all_ahead (Err error.Write) messages rest are = are
all_ahead {kinds} (Err error.Turns) messages rest none = subst (λ (ms : List MessageView). AreAhead kinds ms rest) (sym none) (none_ahead rest)

pub leaves_none : {R U : Type 0} (result : Result (Option R) FrameError) (hs : List U) → hs ≡ [] → LeavesFewAhead result hs
leaves_none (Ok None) hs none = none
leaves_none (Ok (Some reply)) hs none = omega (arith, ap length none)
leaves_none (Err e) hs none = none

-- ---- reading

pub front_fits : (kinds : Kinds) (bytes : List ℕ) (at : ℕ) (result : Result (Option (Message (Bor (List ℕ)) × ℕ)) FrameError) → at + length bytes < 2 ^ 64 → IsFrontReading kinds bytes result
    → IfOk result (λ front. IfSome front (λ next. at + next.1 < 2 ^ 64))
front_fits kinds bytes at (Ok None) fits reads = tt
front_fits kinds bytes at (Ok (Some next)) fits reads =
    let ends : next.1 ≤ length bytes = BeginsWithFrame-within bytes (message_at next.0) next.1 reads in
    omega (arith, ends, fits)
front_fits kinds bytes at (Err e) fits reads = tt

-- ---- commands in a row

pub frames_len-push : {U : Type 0} (hs : List (Handed U)) (h : Handed U) → frames_len (hs ++ h ∷ []) ≡ frames_len hs + h.len
frames_len-push [] h = omega arith
frames_len-push (g ∷ hs) h = omega (arith, frames_len-push hs h)

module _ (kinds : Kinds) {S U : Type 0} (is_for : S → U → MessageView → Type 0) where
  pub handed_in-push : (s : S) (hs : List (Handed U)) (h : Handed U) (bytes : List ℕ) → AreHandedIn kinds is_for s hs bytes → IsHandedIn kinds is_for s h (drop (frames_len hs) bytes)
      → AreHandedIn kinds is_for s (hs ++ h ∷ []) bytes
  handed_in-push s [] h bytes all one = (one, tt)
  handed_in-push s (g ∷ hs) h bytes all one =
      (all.0, handed_in-push s hs h (drop g.len bytes) all.1 (subst (IsHandedIn kinds is_for s h) (sym (drop-drop (frames_len hs) g.len bytes)) one))

  pub handed_in-next : (s t : S) (hs gs : List (Handed U)) (h : Handed U) (bytes new : List ℕ) (len at : ℕ) → t ≡ s → new ≡ bytes → at ≡ len + frames_len hs → gs ≡ hs ++ h ∷ []
      → AreHandedIn kinds is_for s hs (drop len bytes) → IsHandedIn kinds is_for t h (drop at new) → AreHandedIn kinds is_for t gs (drop len new)
  handed_in-next s t hs gs h bytes new len at state inbox is pushed all one =
      let before : AreHandedIn kinds is_for t hs (drop len new) = subst (λ (u : S). AreHandedIn kinds is_for u hs (drop len new)) (sym state) (subst (λ (b : List ℕ). AreHandedIn kinds is_for s hs (drop len b)) (sym inbox) all) in
      let after : IsHandedIn kinds is_for t h (drop (frames_len hs) (drop len new)) = subst (IsHandedIn kinds is_for t h) (ap (λ (n : ℕ). drop n new) is ∙ sym (drop-drop (frames_len hs) len new)) one in
      subst (λ (xs : List (Handed U)). AreHandedIn kinds is_for t xs (drop len new)) (sym pushed) (handed_in-push t hs h (drop len new) before after)

  -- a frame ends within the bytes
  pub within : (s : S) (h : Handed U) (bytes : List ℕ) (at : ℕ) → at ≤ length bytes → IsHandedIn kinds is_for s h (drop at bytes) → at + h.len ≤ length bytes
  within s h bytes at inside x =
      let ends : h.len ≤ length (drop at bytes) = BeginsWithFrame-within (drop at bytes) x.message h.len x.framed in
      omega (arith, ends, inside, length-drop at bytes)

  -- nothing is under way for no command
  pub nothing_handed_in : (s : S) (hs : List (Handed U)) (bytes : List ℕ) → hs ≡ [] → AreHandedIn kinds is_for s hs bytes
  nothing_handed_in s hs bytes none = subst (λ (xs : List (Handed U)). AreHandedIn kinds is_for s xs bytes) (sym none) tt

  -- what was known of them is known
  pub still_handed_in : (s t : S) (hs : List (Handed U)) (bytes : List ℕ) → ((other : U) (m : MessageView) → is_for s other m → is_for t other m)
      → AreHandedIn kinds is_for s hs bytes → AreHandedIn kinds is_for t hs bytes
  still_handed_in s t [] bytes keeps all = tt
  still_handed_in s t (h ∷ hs) bytes keeps all = (
    record { message = all.0.message; framed = all.0.framed; of_kind = all.0.of_kind; known = keeps h.under_way all.0.message all.0.known },
    still_handed_in s t hs (drop h.len bytes) keeps all.1,
  )

  -- the messages that they are for
  pub messages_ahead : (s : S) (hs : List (Handed U)) (bytes : List ℕ) → AreHandedIn kinds is_for s hs bytes → List MessageView
  messages_ahead s [] bytes all = []
  messages_ahead s (h ∷ hs) bytes all = all.0.message ∷ messages_ahead s hs (drop h.len bytes) all.1

  length-messages_ahead : (s : S) (hs : List (Handed U)) (bytes : List ℕ) (all : AreHandedIn kinds is_for s hs bytes) → length (messages_ahead s hs bytes all) ≡ length hs
  unfolding messages_ahead
  length-messages_ahead s [] bytes all = refl
  length-messages_ahead s (h ∷ hs) bytes all = ap suc (length-messages_ahead s hs (drop h.len bytes) all.1)

  commands_ahead : (s : S) (hs : List (Handed U)) (bytes : List ℕ) (all : AreHandedIn kinds is_for s hs bytes) → AllByRecursion (λ m. IsSome (command_kind m)) (messages_ahead s hs bytes all)
  unfolding messages_ahead
  commands_ahead s [] bytes all = tt
  commands_ahead s (h ∷ hs) bytes all = (subst (λ (k : Option CommandKind). IsSome k) (sym all.0.of_kind) refl, commands_ahead s hs (drop h.len bytes) all.1)

  framed_ahead : (s : S) (hs : List (Handed U)) (bytes : List ℕ) (all : AreHandedIn kinds is_for s hs bytes) → (behind : List ℕ) × AreWholeFrames kinds bytes (messages_ahead s hs bytes all) behind
  unfolding messages_ahead
  framed_ahead s [] bytes all = (bytes, AreWholeFrames-none bytes)
  framed_ahead s (h ∷ hs) bytes all =
      let others = framed_ahead s hs (drop h.len bytes) all.1 in
      (others.0, AreWholeFrames-append (all.0.message ∷ []) (messages_ahead s hs (drop h.len bytes) all.1) bytes (drop h.len bytes) others.0 (AreWholeFrames-one bytes all.0.message h.len all.0.framed) others.1)

  pub are_ahead : (s : S) (hs : List (Handed U)) (bytes : List ℕ) (all : AreHandedIn kinds is_for s hs bytes) → length hs < MOST_AHEAD → AreAhead kinds (messages_ahead s hs bytes all) bytes
  are_ahead s hs bytes all few = record {
    commands = commands_ahead s hs bytes all;
    few = omega (arith, few, length-messages_ahead s hs bytes all);
    behind = (framed_ahead s hs bytes all).0;
    framed = (framed_ahead s hs bytes all).1;
  }

  -- the first of them was settled
  pub first_settled : {A : Type 0} (says : A → Ack) (answers : S → MessageView → ReplyView → S → Type 0) (s t : S) (h : Handed U) (bytes : List ℕ) (result : Result A Code) (reply : ReplyView)
      → IsHandedIn kinds is_for s h bytes → reply ≡ reply_to_kind says h.kind result → HasReplySize reply
      → ((m : MessageView) (k : CommandKind) → is_for s h.under_way m → command_kind m ≡ Some k → answers s m (reply_to_kind says k result) t)
      → IsFirstAnswered kinds answers s bytes reply t (drop h.len bytes)
  first_settled says answers s t h bytes result reply x is size settled = record {
    message = x.message;
    framed = x.framed.frame;
    fits = x.framed.sized;
    answered = subst (λ (r : ReplyView). answers s x.message r t) (sym is) (settled x.message h.kind x.known x.of_kind);
    sized = size;
  }
