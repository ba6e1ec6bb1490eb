-- What a session hands in of its input.
use Rattle.std.specs.Prelude.{◌≡◌, ℕ, ◌⊎◌, List}
use Rattle.std.specs.List.{FoldsTo, concat}
use Rattle.session_core.specs.declared.message_kinds.Kinds.{Kinds}
use Rattle.session_core.specs.Frames.{MessageView, AreWholeFrames}
use Rattle.session_core.specs.Front.{BeginsWithFrame}
use Rattle.session_core.specs.Source.{AreReads}

-- A service handed in for a message, or handed in nothing.
abbrev pub HandsInAtMostFor : {X : Type 0} → (X → MessageView → X → Type 0) → X → MessageView → X → Type 0
HandsInAtMostFor hands_in old message new = (new ≡ old) ⊎ hands_in old message new

module _ (kinds : Kinds) {X : Type 0} (hands_in : X → MessageView → X → Type 0) where
  -- A service handed in for the message at the front of the bytes.
  pub record HandsInFirst (bytes : List ℕ) (len : ℕ) (old new : X) : Type 0 where
    -- The message.
    pub message : MessageView
    -- The bytes begin with its frame.
    pub framed : BeginsWithFrame kinds bytes message len
    -- The service handed in for the message.
    pub one : hands_in old message new

  -- A service took the messages whose frames come before the rest of the bytes, in their order. It
  -- handed in at most once for each, and nothing else.
  pub record HandsInFrontOf (bytes rest : List ℕ) (old new : X) : Type 0 where
    -- The messages.
    pub messages : List MessageView
    -- The bytes are their frames, and the rest.
    pub framed : AreWholeFrames kinds bytes messages rest
    -- What was handed in, from before the first message to after the last one.
    pub each : FoldsTo (HandsInAtMostFor hands_in) old messages new

  -- A service took messages at the front of what a source gave, in their order. It handed in at most
  -- once for each, and nothing else.
  pub record HandsInFromSource {R : Type 0} (gives : R → List ℕ → R → Type 0) (turns : ℕ) (source source_left : R) (old new : X) : Type 0 where
    -- The pieces that at most `turns` reads gave.
    pub pieces : List (List ℕ)
    -- The source was read for the pieces.
    pub read : AreReads gives turns source pieces source_left
    -- The bytes after the frames of those messages.
    pub rest : List ℕ
    -- The messages are at the front of the pieces, joined.
    pub front : HandsInFrontOf (concat pieces) rest old new
