-- What the sender of a command notes.
use Rattle.std.specs.Prelude.{◌≡◌, Result, Ok, Err}
use Rattle.path_db.specs.declared.command.Command.{Command}
use Rattle.command_queue.specs.Handed.{Handed, handed_with}

-- What a sender has handed in, where its command got this result: the command, or nothing more.
abbrev pub NotesTaken : {A E : Type 0} → Command → Result A E → Handed → Handed → Type 0
NotesTaken command (Ok a) old new = new ≡ handed_with command old
NotesTaken command (Err e) old new = new ≡ old
