-- What a session over a connection has read, answered and sent when it ends.
use Rattle.std.specs.Prelude.{◌≡◌, ℕ, List, [], ◌++◌, Some, Result}
use Rattle.session_core.specs.declared.error.FrameError.{FrameError}
use Rattle.session_core.specs.declared.message_kinds.Kinds.{Kinds}
use Rattle.session_core.specs.declared.source.TheConstants.{MOST_READS}
use Rattle.session_core.specs.Frames.{MessageView}
use Rattle.session_core.specs.Reply.{ReplyView}
use Rattle.session_core.specs.Session.{IsServed, IsSentFor}

-- A session was served over a connection. Its calls gave it the messages, and what they took are
-- the replies.
pub record IsConnectionServed {S T : Type 0} (kinds : Kinds) (answers : S → MessageView → ReplyView → S → Type 0) (given taken : T → List ℕ) (is_at_end : T → Type 0)
    (service service_left : S) (input input_left output output_left : T) (result : Result ℕ FrameError) : Type 0 where
  -- What was written and was not sent.
  pub unsent : List ℕ
  -- Each piece of a session's input is what reads of the connection gave. What was written is what
  -- writes of the connection took, and what was not sent.
  pub served : IsServed kinds answers (λ old bytes new. given new ≡ given old ++ bytes) MOST_READS service service_left input input_left
      (is_at_end input_left) (Some (taken output)) (Some (taken output_left ++ unsent)) result
  -- All was sent, unless a write failed.
  pub sent : IsSentFor (unsent ≡ []) result
