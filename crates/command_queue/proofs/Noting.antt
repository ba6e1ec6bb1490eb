-- The desk knows the commands of the history, and as many.
use Rattle.std.proofs.Common.{◌≡◌, ℕ, List, [], ◌∷◌, ◌++◌, length, sym, ap, ◌∙◌}
use Rattle.std.proofs.lemmas.List.{map-append, length-map}
use Rattle.path_db.specs.declared.command.Command.{Command}
use Rattle.command_queue.specs.declared.ghosts.rule.SentCommand.{SentCommand}
use Rattle.command_queue.specs.Orders.{commands_of}
use Rattle.command_queue.specs.Passes.{AddsOne}

-- one more command, in both
pub noted_too : (old new : List SentCommand) (log longer : List Command) (command : Command) → commands_of old ≡ log → AddsOne command old new → longer ≡ log ++ command ∷ [] → commands_of new ≡ longer
noted_too old new log longer command same adds is =
    ap commands_of adds.1 ∙ map-append (λ (s : SentCommand). s.command) old (record { by = adds.0; command = command } ∷ []) ∙ ap (λ xs. xs ++ command ∷ []) same ∙ sym is

-- the number of the commands
pub as_many : (history : List SentCommand) (log : List Command) (next : ℕ) → commands_of history ≡ log → next ≡ length log → next ≡ length history
as_many history log next same counted = counted ∙ ap length (sym same) ∙ length-map history (λ (s : SentCommand). s.command)
