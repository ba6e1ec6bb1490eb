-- The refusals of messages that a hub or its reader refused.
use Rattle.hub_readers.specs.declared.error.ReaderError.{ReaderError}
use Rattle.hub_readers.specs.declared.error.ReaderError.TheVariants as reader
use Rattle.hub_claims.specs.declared.error.HubError.{HubError}
use Rattle.hub_claims.specs.declared.error.HubError.TheVariants as hub
use Rattle.reply_codes.specs.declared.refusal.Refusal.{Refusal}
use Rattle.reply_codes.specs.declared.refusal.Refusal.TheVariants.{NoMemory, Submit, NoReader, Stopped, NotAwaited}

-- The refusal of a command that a hub refused.
abbrev pub hub_refusal : HubError → Refusal
hub_refusal hub.NoMemory = NoMemory
hub_refusal hub.NoReader = NoReader
hub_refusal (hub.Stopped place) = Stopped
hub_refusal (hub.Submit e) = Submit e
hub_refusal hub.NotAwaited = NotAwaited

-- The refusal of a lookup that a reader refused.
abbrev pub reader_refusal : ReaderError → Refusal
reader_refusal reader.NoMemory = NoMemory
reader_refusal reader.NoReader = NoReader
