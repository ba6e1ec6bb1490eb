-- The messages that a service answers, and its replies.
use Rattle.std.specs.Prelude.{◌≡◌, ℕ, List, map, Result, Ok, Err, Vec}
use Rattle.std.specs.Borrow.{GName}
use Rattle.std.specs.List.{FoldsTo, flat_map}
use Rattle.seg_core.specs.declared.seg_type.SegType.{SegType}
use Rattle.seg_core.specs.SegmentView.{SegmentView}
use Rattle.session_core.specs.declared.service.Ack.{Ack}
use Rattle.session_core.specs.declared.service.Code.{Code}
use Rattle.session_core.specs.declared.service.Listing.{Listing}
use Rattle.session_core.specs.Frames.{MessageView}
use Rattle.session_core.specs.Reply.{ReplyView, Registered, Found, Purged, Removed, Listed, Refused, told_as}
use Rattle.session_core.specs.declared.reply.Form.{Form}
use Rattle.session_core.specs.declared.reply.Form.TheVariants.{Frames}

-- The reply to a registration, by what an acknowledgement says.
abbrev pub reply_to_register : {A : Type 0} → (A → Ack) → Result A Code → ReplyView
reply_to_register says (Ok ack) = Registered (says ack)
reply_to_register says (Err code) = Refused code.0

-- The reply to a lookup.
abbrev pub reply_to_lookup : {A : Type 0} → Result (SegType × Vec SegmentView A) Code → ReplyView
reply_to_lookup (Ok found) = Found found.0 found.1.items
reply_to_lookup (Err code) = Refused code.0

-- The reply to a purge, by what an acknowledgement says.
abbrev pub reply_to_purge : {A : Type 0} → (A → Ack) → Result A Code → ReplyView
reply_to_purge says (Ok ack) = Purged (says ack)
reply_to_purge says (Err code) = Refused code.0

-- The reply to a removal, by what an acknowledgement says.
abbrev pub reply_to_remove : {A : Type 0} → (A → Ack) → Result A Code → ReplyView
reply_to_remove says (Ok ack) = Removed (says ack)
reply_to_remove says (Err code) = Refused code.0

-- The reply to a list.
abbrev pub reply_to_list : Result Listing Code → ReplyView
reply_to_list (Ok listing) = Listed listing.more listing.kind listing.segments.items
reply_to_list (Err code) = Refused code.0

-- A message and the reply to it.
pub record Exchange : Type 0 where
  pub message : MessageView
  pub reply : ReplyView

-- The messages of exchanges.
abbrev pub messages_of : List Exchange → List MessageView
messages_of exchanges = map (λ e. e.message) exchanges

-- The replies of exchanges.
abbrev pub replies_of : List Exchange → List ReplyView
replies_of exchanges = map (λ e. e.reply) exchanges

-- The written replies, one after the other.
abbrev pub all_told : Form → List Exchange → List ℕ
all_told form exchanges = flat_map (λ e. told_as form e.reply) exchanges

-- The frames of the replies, one after the other.
abbrev pub reply_frames : List Exchange → List ℕ
reply_frames exchanges = all_told Frames exchanges

-- A service answered these messages with these replies, one after the other, each from the state
-- after the one before.
abbrev pub AreAnswered : {S : Type 0} → (S → MessageView → ReplyView → S → Type 0) → S → List Exchange → S → Type 0
AreAnswered answers old exchanges new = FoldsTo (λ before e after. answers before e.message e.reply after) old exchanges new

-- The borrowed service answered, and the borrow itself did not change. A borrowed service is in the
-- state of the service, under the name of the borrow.
abbrev pub AnswersBehind : {S : Type 0} → (S → MessageView → ReplyView → S → Type 0) → S × GName → MessageView → ReplyView → S × GName → Type 0
AnswersBehind answers old message reply new = answers old.0 message reply new.0 × (new.1 ≡ old.1)
