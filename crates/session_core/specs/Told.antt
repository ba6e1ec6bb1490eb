-- The replies that were written since a sink was sealed, and their bytes.
use Rattle.std.specs.Prelude.{◌≡◌, ℕ, Bool, true, false, List, [], ◌∷◌, ◌++◌, Option, if◌then◌else◌, ◌||◌, ◌==◌}
use Rattle.std.specs.List.{flat_map}
use Rattle.std.specs.Io.KnownBytes.{Appends}
use Rattle.session_core.specs.declared.reply.Form.{Form}
use Rattle.session_core.specs.declared.reply.Form.TheVariants.{Frames}
use Rattle.session_core.specs.declared.service.Ack.{Ack}
use Rattle.session_core.specs.Reply.{ReplyView, Registered, Found, Purged, Removed, Listed, Refused, HasReplySize, told_as}
use Rattle.session_core.specs.Session.{IsBeginningOf}

-- A reply that was written, and its form.
pub record Told : Type 0 where
  pub form : Form
  pub reply : ReplyView

-- The replies, in their order, and what the sink had when it was sealed, where that is known.
pub record Telling : Type 0 where
  pub start : Option (List ℕ)
  pub told : List Told

-- One more reply.
abbrev pub and_told : Telling → Form → ReplyView → Telling
and_told telling form reply = record { start = telling.start; told = telling.told ++ record { form = form; reply = reply } ∷ [] }

-- The bytes of replies, one after the other.
abbrev pub bytes_told : List Told → List ℕ
bytes_told told = flat_map (λ t. told_as t.form t.reply) told

-- The acknowledgement of a reply, if it is one.
abbrev pub spent_for : ReplyView → List Ack
spent_for (Registered ack) = ack ∷ []
spent_for (Found kind segments) = []
spent_for (Purged ack) = ack ∷ []
spent_for (Removed ack) = ack ∷ []
spent_for (Listed more kind segments) = []
spent_for (Refused code) = []

-- The acknowledgements among replies, in their order. Each was spent for its reply.
abbrev pub spent_in : List Told → List Ack
spent_in told = flat_map (λ t. spent_for t.reply) told

-- The reply is written as a frame, and fits into one.
abbrev pub IsFrame : Told → Type 0
IsFrame t = (t.form ≡ Frames) × HasReplySize t.reply

-- The bytes of the acknowledgement in the content of a frame, if it is that of one.
abbrev pub acknowledged_in : List ℕ → List (List ℕ)
acknowledged_in [] = []
acknowledged_in (kind ∷ bytes) = if (kind == 0x81) || ((kind == 0x83) || (kind == 0x84)) then bytes ∷ [] else []

-- These are the bytes, or a front of them where the last write was cut.
abbrev pub IsTold : Bool → List ℕ → List ℕ → Type 0
IsTold false written bytes = written ≡ bytes
IsTold true written bytes = IsBeginningOf written bytes

-- What was written to a sink since it was sealed are the bytes of these replies.
pub record TellsReplies (telling : Telling) (is_cut : Bool) (contents : Option (List ℕ)) : Type 0 where
  -- The bytes that were written.
  pub written : List ℕ
  -- The sink has them after what it had.
  pub appended : Appends telling.start contents written
  -- They are those of the replies.
  pub told_is : IsTold is_cut written (bytes_told telling.told)

-- What contracts see of a sealed sink.
pub record RepliesView (W : Type 0) : Type 0 where
  -- The sink.
  pub writer : W
  -- The replies that were written to it.
  pub telling : Telling
