-- The answers of a borrowed service are the answers of the service: for `serve` and
-- `serve_in_lines`.
use Rattle.std.proofs.Common.{◌≡◌, ℕ, List, [], ◌∷◌, Option, Result, sym, ap, subst, ◌∙◌}
use Rattle.std.specs.Borrow.{GName}
use Rattle.session_core.specs.declared.error.FrameError.{FrameError}
use Rattle.session_core.specs.declared.message_kinds.Kinds.{Kinds}
use Rattle.session_core.specs.Frames.{MessageView}
use Rattle.session_core.specs.HandedIn.{HandsInFromSource}
use Rattle.session_core.specs.Reply.{ReplyView}
use Rattle.session_core.specs.Service.{Exchange, AreAnswered, AnswersBehind}
use Rattle.session_core.specs.Session.{IsServed}
use Rattle.session_core.specs.Lines.{IsServedInLines}

module _ {S : Type 0} (answers : S → MessageView → ReplyView → S → Type 0) where
  answered_behind : (a : S × GName) (es : List Exchange) (b : S × GName) → AreAnswered (AnswersBehind answers) a es b → AreAnswered answers a.0 es b.0
  answered_behind a [] b h = ap (λ (s : S × GName). s.0) h
  answered_behind a (e ∷ es) b h = (h.0.0, h.1.0, answered_behind h.0 es b h.2)

  same_reference : (a : S × GName) (es : List Exchange) (b : S × GName) → AreAnswered (AnswersBehind answers) a es b → a.1 ≡ b.1
  same_reference a [] b h = ap (λ (s : S × GName). s.1) h
  same_reference a (e ∷ es) b h = sym h.1.1 ∙ same_reference h.0 es b h.2

  -- the service at the end of the borrow
  answered_at_end : (a : S × GName) (es : List Exchange) (b : S × GName) (last : S) → (a.1 ≡ b.1 → last ≡ b.0) → AreAnswered (AnswersBehind answers) a es b → AreAnswered answers a.0 es last
  answered_at_end a es b last end h = subst (AreAnswered answers a.0 es) (sym (end (same_reference a es b h))) (answered_behind a es b h)

module _ {kinds : Kinds} {S : Type 0} (answers : S → MessageView → ReplyView → S → Type 0) where
  pub served_behind : {R : Type 0} (gives : R → List ℕ → R → Type 0) (turns : ℕ) (a b : S × GName) (last : S) (r t : R) (i : Type 0) (o p : Option (List ℕ)) (result : Result ℕ FrameError)
      → (a.1 ≡ b.1 → last ≡ b.0) → IsServed kinds (AnswersBehind answers) gives turns a b r t i o p result → IsServed kinds answers gives turns a.0 last r t i o p result
  served_behind gives turns a b last r t i o p result end x = record {
    pieces = x.pieces;
    exchanges = x.exchanges;
    rest = x.rest;
    handed = x.handed;
    written = x.written;
    read = x.read;
    framed = x.framed;
    answered = answered_at_end answers a x.exchanges b last end x.answered;
    ahead = x.ahead;
    sized = x.sized;
    appended = x.appended;
    told = x.told;
    prompt = x.prompt;
    ended = x.ended;
  }

  -- what was handed in at the end of the borrow
  pub handed_in_behind : {R X : Type 0} (hands_in : X → MessageView → X → Type 0) (gives : R → List ℕ → R → Type 0) (turns : ℕ) (a b : S × GName) (r t : R) (i : Type 0) (o p : Option (List ℕ)) (result : Result ℕ FrameError) (x y last : X)
      → (a.1 ≡ b.1 → last ≡ y) → IsServed kinds (AnswersBehind answers) gives turns a b r t i o p result → HandsInFromSource kinds hands_in gives turns r t x y → HandsInFromSource kinds hands_in gives turns r t x last
  handed_in_behind hands_in gives turns a b r t i o p result x y last end served h =
      subst (HandsInFromSource kinds hands_in gives turns r t x) (sym (end (same_reference answers a served.exchanges b served.answered))) h

  pub served_in_lines_behind : (bytes : List ℕ) (a b : S × GName) (last : S) (o p : Option (List ℕ)) (result : Result ℕ FrameError)
      → (a.1 ≡ b.1 → last ≡ b.0) → IsServedInLines kinds (AnswersBehind answers) bytes a b o p result → IsServedInLines kinds answers bytes a.0 last o p result
  served_in_lines_behind bytes a b last o p result end x = record {
    exchanges = x.exchanges;
    rest = x.rest;
    handed = x.handed;
    written = x.written;
    framed = x.framed;
    answered = answered_at_end answers a x.exchanges b last end x.answered;
    ahead = x.ahead;
    sized = x.sized;
    appended = x.appended;
    told = x.told;
    ended = x.ended;
  }
