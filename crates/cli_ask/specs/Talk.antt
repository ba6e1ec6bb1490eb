-- The bytes that pass between a client and its server.
use Rattle.std.specs.Prelude.{◌≡◌, ℕ, List, ◌++◌, map, Option, None, Some, ⊤}
use Rattle.session_core.specs.Frames.{MessageView, message_frame}
use Rattle.session_core.specs.Reply.{ReplyView, reply_frame}

-- A byte that was sent, or one that came.
pub data Byte : Type 0 where
  Sent : (byte : ℕ) → Byte
  Came : (byte : ℕ) → Byte

-- These bytes, sent.
abbrev pub sent : List ℕ → List Byte
sent bytes = map Sent bytes

-- These bytes, which came.
abbrev pub came : List ℕ → List Byte
came bytes = map Came bytes

-- These bytes have passed after those before, where they are known.
abbrev pub Passes : Option (List Byte) → Option (List Byte) → List Byte → Type 0
Passes None new more = ⊤
Passes (Some old) None more = ⊥
Passes (Some old) (Some new) more = new ≡ old ++ more

-- A request, and then the whole reply to it.
abbrev pub exchange_of : MessageView → ReplyView → List Byte
exchange_of message reply = sent (message_frame message) ++ came (reply_frame reply)
