-- What a service over a hub hands in.
use Rattle.std.specs.Prelude.{◌≡◌, ◌⊎◌, Result, Ok, Err}
use Rattle.path_db.specs.declared.command.Command.{Command}
use Rattle.command_queue.specs.Handed.{Handed, handed_with}
use Rattle.session_core.specs.Frames.{MessageView}
use Rattle.reply_codes.specs.declared.refusal.Refusal.{Refusal}
use Rattle.path_session.specs.Acknowledged.{IsReadAs}

-- What the sender of a service has handed in, once a message was taken: the command that is under
-- way, or nothing more.
abbrev pub HandsIn : Result Command Refusal → Handed → Handed → Type 0
HandsIn (Ok c) old new = new ≡ handed_with c old
HandsIn (Err refusal) old new = new ≡ old

-- The message is read as this command, which was handed in.
pub record IsHandedInFor (message : MessageView) (old new : Handed) : Type 0 where
  pub command : Command
  pub read : IsReadAs message command
  pub one : new ≡ handed_with command old

-- Nothing was handed in for a message, or its command, once.
abbrev pub HandsInAtMost : MessageView → Handed → Handed → Type 0
HandsInAtMost message old new = (new ≡ old) ⊎ IsHandedInFor message old new
