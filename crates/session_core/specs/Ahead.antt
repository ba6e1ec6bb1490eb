-- Commands that were handed in and are not answered yet.
use Rattle.std.specs.Prelude.{◌≡◌, ℕ, ◌+◌, List, [], ◌∷◌, Some, drop}
use Rattle.session_core.specs.declared.ahead.Handed.{Handed}
use Rattle.session_core.specs.declared.message_kinds.Kinds.{Kinds}
use Rattle.session_core.specs.Commands.{command_kind}
use Rattle.session_core.specs.Frames.{MessageView}
use Rattle.session_core.specs.Front.{BeginsWithFrame}

-- The number of bytes of the frames of these commands.
abbrev pub frames_len : {U : Type 0} → List (Handed U) → ℕ
frames_len [] = 0
frames_len (h ∷ hs) = h.len + frames_len hs

module _ (kinds : Kinds) {S U : Type 0} (is_for : S → U → MessageView → Type 0) where
  -- In this state, this is under way for the message at the front of the bytes, a command.
  pub record IsHandedIn (state : S) (handed : Handed U) (bytes : List ℕ) : Type 0 where
    -- The command.
    pub message : MessageView
    -- The bytes begin with its frame.
    pub framed : BeginsWithFrame kinds bytes message handed.len
    -- The kind of the command.
    pub of_kind : command_kind message ≡ Some handed.kind
    -- What is under way is known to be for the command.
    pub known : is_for state handed.under_way message

  -- These are under way for the messages at the front of the bytes, in the same order.
  abbrev pub AreHandedIn : S → List (Handed U) → List ℕ → Type 0
  AreHandedIn state [] bytes = Unit {0}
  AreHandedIn state (first ∷ rest) bytes = IsHandedIn state first bytes × AreHandedIn state rest (drop first.len bytes)
