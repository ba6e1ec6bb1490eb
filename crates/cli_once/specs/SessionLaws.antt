-- The replies of a session where memory suffices.
use Rattle.std.specs.Prelude.{◌≡◌, ℕ, List, [], ◌∷◌, ◌++◌, Option, Some, Ok, Contains}
use Rattle.std.specs.List.{flat_map}
use Rattle.std.specs.Io.KnownBytes.{Consumes, IsAtEnd}
use Rattle.session_core.specs.declared.message_kinds.Kinds.TheVariants.{Base}
use Rattle.session_core.specs.Frames.{MessageView, Rest, AreFrames}
use Rattle.session_core.specs.Reply.{ReplyView, Refused, reply_frame}
use Rattle.session_core.specs.Service.{Exchange, messages_of, replies_of, AreAnswered}
use Rattle.reply_codes.specs.Codes.{memory_code}
use Rattle.cli_once.specs.Memory.{Served, message_step, Answers}
use Rattle.cli_once.specs.Session.{IsSession}

-- The replies to messages, one after the other, from this start on.
abbrev pub replies_from : Served → List MessageView → List ReplyView
replies_from served [] = []
replies_from served (m ∷ ms) = (message_step served m).0 ∷ replies_from (message_step served m).1 ms

-- Memory was refused for none of the exchanges.
abbrev pub HasMemory : List Exchange → Type 0
HasMemory exchanges = ¬ Contains (replies_of exchanges) (Refused memory_code)

-- Where memory is not refused, messages have one list of replies.
abbrev pub OnlyReplies : Type 0
OnlyReplies =
    (start : Served) (exchanges : List Exchange) (left : Served) → AreAnswered Answers start exchanges left
    → HasMemory exchanges → replies_of exchanges ≡ replies_from start (messages_of exchanges)

-- Where memory is not refused, a session that ends well, of a reader whose bytes are known, has
-- written the frames of the replies to its input, and nothing else.
abbrev pub WholeSession : {R : Type 0} → (R → Option (List ℕ)) → Type 0
WholeSession {R} remaining =
    (turns : ℕ) (start : Served) (input output : List ℕ) (old new : R) (output_left : Option (List ℕ)) (count : ℕ)
    (session : IsSession (λ old bytes new. Consumes (remaining old) (remaining new) bytes) turns start old new (IsAtEnd (remaining new)) (Some output) output_left (Ok count))
    → remaining old ≡ Some input → HasMemory session.served.exchanges → (messages : List MessageView) → AreFrames Base input messages (Rest [])
    → output_left ≡ Some (output ++ flat_map reply_frame (replies_from start messages))
