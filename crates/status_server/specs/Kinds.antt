-- The kinds of replies.
use Rattle.session_core.specs.Reply as reply
use Rattle.session_core.specs.Reply.{ReplyView}
use Rattle.status_server.specs.declared.reply_kind.ReplyKind.{ReplyKind}
use Rattle.status_server.specs.declared.reply_kind.ReplyKind.TheVariants as kind

-- The kind of a reply, by which the reply is counted.
abbrev pub kind_of_reply : ReplyView → ReplyKind
kind_of_reply (reply.Registered ack) = kind.Registered
kind_of_reply (reply.Found type segments) = kind.Found
kind_of_reply (reply.Purged ack) = kind.Purged
kind_of_reply (reply.Removed ack) = kind.Removed
kind_of_reply (reply.Listed more type segments) = kind.Listed
kind_of_reply (reply.Refused code) = kind.Refused code
