-- What a limited session hands in, by the sender below: for `Server::serve`.
use Rattle.std.proofs.Common.{◌≡◌, inl, inr, ℕ, false, List, [], ◌∷◌, sym, ap, ◌∙◌, subst}
use Rattle.std.specs.List.{FoldsTo}
use Rattle.session_core.specs.declared.message_kinds.Kinds.{Kinds}
use Rattle.session_core.specs.Frames.{MessageView}
use Rattle.session_core.specs.HandedIn.{HandsInAtMostFor, HandsInFromSource}
use Rattle.session_limits.specs.Sending.{LimitedSent, LimitedHandsIn}

module _ {X : Type 0} (hands_in : X → MessageView → X → Type 0) where
  -- for one message
  one_below : (old : LimitedSent X) (message : MessageView) (new : LimitedSent X) → HandsInAtMostFor (LimitedHandsIn hands_in) old message new → HandsInAtMostFor hands_in old.inner message new.inner
  one_below old message new (inl same) = inl (ap (λ (s : LimitedSent X). s.inner) same)
  one_below old message new (inr (inl same)) = inl (ap (λ (s : LimitedSent X). s.inner) same)
  one_below old message new (inr (inr below)) = inr below.sent

  one_keeps : (old : LimitedSent X) (message : MessageView) (new : LimitedSent X) → HandsInAtMostFor (LimitedHandsIn hands_in) old message new → new.commands ≡ old.commands
  one_keeps old message new (inl same) = ap (λ (s : LimitedSent X). s.commands) same
  one_keeps old message new (inr (inl same)) = ap (λ (s : LimitedSent X). s.commands) same
  one_keeps old message new (inr (inr below)) = below.kept

  one_unsent : (old : LimitedSent X) (message : MessageView) (new : LimitedSent X) → old.commands ≡ false → HandsInAtMostFor (LimitedHandsIn hands_in) old message new → new.inner ≡ old.inner
  one_unsent old message new off (inl same) = ap (λ (s : LimitedSent X). s.inner) same
  one_unsent old message new off (inr (inl same)) = ap (λ (s : LimitedSent X). s.inner) same
  one_unsent old message new off (inr (inr below)) = absurd (cc (sym below.takes ∙ off))

  -- for all messages
  all_below : (old : LimitedSent X) (messages : List MessageView) (new : LimitedSent X) → FoldsTo (HandsInAtMostFor (LimitedHandsIn hands_in)) old messages new → FoldsTo (HandsInAtMostFor hands_in) old.inner messages new.inner
  all_below old [] new done = ap (λ (s : LimitedSent X). s.inner) done
  all_below old (message ∷ messages) new a = (a.0.inner, one_below old message a.0 a.1, all_below a.0 messages new a.2)

  all_unsent : (old : LimitedSent X) (messages : List MessageView) (new : LimitedSent X) → old.commands ≡ false → FoldsTo (HandsInAtMostFor (LimitedHandsIn hands_in)) old messages new → new.inner ≡ old.inner
  all_unsent old [] new off done = sym (ap (λ (s : LimitedSent X). s.inner) done)
  all_unsent old (message ∷ messages) new off a =
      all_unsent a.0 messages new (one_keeps old message a.0 a.1 ∙ off) a.2 ∙ one_unsent old message a.0 off a.1

  -- for what a source gave, from what a sender had handed in to what it has
  pub handed_below : {R : Type 0} (kinds : Kinds) (gives : R → List ℕ → R → Type 0) (turns : ℕ) (source source_left : R) (old new : LimitedSent X) (begin end : X)
      → HandsInFromSource kinds (LimitedHandsIn hands_in) gives turns source source_left old new → old.inner ≡ begin → end ≡ new.inner
      → HandsInFromSource kinds hands_in gives turns source source_left begin end
  handed_below kinds gives turns source source_left old new begin end all starts ends =
      let below : HandsInFromSource kinds hands_in gives turns source source_left old.inner new.inner = record {
        pieces = all.pieces;
        read = all.read;
        rest = all.rest;
        front = record { messages = all.front.messages; framed = all.front.framed; each = all_below old all.front.messages new all.front.each };
      } in
      subst (λ (x : X). HandsInFromSource kinds hands_in gives turns source source_left begin x) (sym ends)
      (subst (λ (x : X). HandsInFromSource kinds hands_in gives turns source source_left x new.inner) starts below)

  pub nothing_below : {R : Type 0} (kinds : Kinds) (gives : R → List ℕ → R → Type 0) (turns : ℕ) (source source_left : R) (old new : LimitedSent X)
      → HandsInFromSource kinds (LimitedHandsIn hands_in) gives turns source source_left old new → old.commands ≡ false → new.inner ≡ old.inner
  nothing_below kinds gives turns source source_left old new all off = all_unsent old all.front.messages new off all.front.each
