-- Commands: the messages whose replies are acknowledgements.
use Rattle.std.specs.Prelude.{Option, Some, None, Result}
use Rattle.session_core.specs.declared.message.Message.TheVariants as message
use Rattle.session_core.specs.declared.service.Ack.{Ack}
use Rattle.session_core.specs.declared.service.Code.{Code}
use Rattle.session_core.specs.declared.command_kind.CommandKind.{CommandKind}
use Rattle.session_core.specs.declared.command_kind.CommandKind.TheVariants.{Register, Purge, Remove}
use Rattle.session_core.specs.Frames.{MessageView}
use Rattle.session_core.specs.Reply.{ReplyView}
use Rattle.session_core.specs.Service.{reply_to_register, reply_to_purge, reply_to_remove}

-- The kind of a command. A lookup is none, and neither is a list.
abbrev pub command_kind : MessageView → Option CommandKind
command_kind (message.Register body) = Some Register
command_kind (message.Lookup body) = None
command_kind (message.Purge moment) = Some Purge
command_kind (message.Remove kind id) = Some Remove
command_kind (message.List request) = None

-- The reply to a command of this kind, by what an acknowledgement says.
abbrev pub reply_to_kind : {A : Type 0} → (A → Ack) → CommandKind → Result A Code → ReplyView
reply_to_kind says Register result = reply_to_register says result
reply_to_kind says Purge result = reply_to_purge says result
reply_to_kind says Remove result = reply_to_remove says result
