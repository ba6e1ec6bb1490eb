-- The replies of the calls that check a message.
use Rattle.std.specs.Prelude.{Result, Ok, Err, Vec}
use Rattle.seg_core.specs.declared.seg_type.SegType.{SegType}
use Rattle.seg_core.specs.SegmentView.{SegmentView}
use Rattle.session_core.specs.declared.service.Ack.{Ack}
use Rattle.session_core.specs.declared.service.Listing.{Listing}
use Rattle.session_core.specs.Reply.{ReplyView, Found, Listed, Refused}
use Rattle.reply_codes.specs.declared.refusal.Refusal.{Refusal}
use Rattle.reply_codes.specs.Refusal.{refusal_code}

-- The reply to a command of this kind.
abbrev pub reply_to_command : (Ack → ReplyView) → Result Ack Refusal → ReplyView
reply_to_command taken (Ok ack) = taken ack
reply_to_command taken (Err refusal) = Refused (refusal_code refusal)

-- The reply to a lookup.
abbrev pub reply_to_query : {A : Type 0} → Result (SegType × Vec SegmentView A) Refusal → ReplyView
reply_to_query (Ok found) = Found found.0 found.1.items
reply_to_query (Err refusal) = Refused (refusal_code refusal)

-- The reply to a list.
abbrev pub reply_to_page : Result Listing Refusal → ReplyView
reply_to_page (Ok listing) = Listed listing.more listing.kind listing.segments.items
reply_to_page (Err refusal) = Refused (refusal_code refusal)
