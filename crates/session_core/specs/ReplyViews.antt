-- The program's replies as contracts see them.
use Rattle.session_core.specs.declared.reply.Reply.{Reply}
use Rattle.session_core.specs.declared.reply.Reply.TheVariants as reply
use Rattle.session_core.specs.declared.service.Ack.{Ack}
use Rattle.session_core.specs.Reply.{ReplyView, Registered, Found, Purged, Removed, Listed, Refused}

-- A reply as contracts see it, by what its acknowledgement says.
abbrev pub reply_view : {A : Type 0} → (A → Ack) → Reply A → ReplyView
reply_view says (reply.Registered ack) = Registered (says ack)
reply_view says (reply.Found kind segments) = Found kind segments.items
reply_view says (reply.Purged ack) = Purged (says ack)
reply_view says (reply.Removed ack) = Removed (says ack)
reply_view says (reply.Listed listing) = Listed listing.more listing.kind listing.segments.items
reply_view says (reply.Refused code) = Refused code.0
