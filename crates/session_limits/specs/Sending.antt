-- What a limited service hands in.
use Rattle.std.specs.Prelude.{◌≡◌, ◌⊎◌, Bool, true}
use Rattle.session_core.specs.Frames.{MessageView}
use Rattle.session_limits.specs.declared.limited.Limited.{Limited}

-- What a limited service has handed in, over a service that hands in values of this type.
pub record LimitedSent (S : Type 0) : Type 0 where
  -- Whether its commands are taken, which does not change.
  pub commands : Bool
  -- What the service below has handed in.
  pub inner : S

-- What a limited service has handed in, by what the service below has.
abbrev pub limited_sent : {S C R X : Type 0} → (S → X) → Limited S C R → LimitedSent X
limited_sent sent l = record { commands = l.commands; inner = sent l.inner }

-- The service below hands in for the message. Commands are taken.
pub record IsSentBelow {X : Type 0} (hands_in : X → MessageView → X → Type 0) (old : LimitedSent X) (message : MessageView) (new : LimitedSent X) : Type 0 where
  pub takes : old.commands ≡ true
  pub sent : hands_in old.inner message new.inner
  pub kept : new.commands ≡ old.commands

-- Nothing is handed in for a message, or, where commands are taken, what the service below hands
-- in for it.
abbrev pub LimitedHandsIn : {X : Type 0} → (X → MessageView → X → Type 0) → LimitedSent X → MessageView → LimitedSent X → Type 0
LimitedHandsIn hands_in old message new = (new ≡ old) ⊎ IsSentBelow hands_in old message new
