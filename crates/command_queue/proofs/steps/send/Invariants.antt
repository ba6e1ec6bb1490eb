use Rattle.command_queue.proofs.steps.send.Given as goal

-- the step is about the command
abbrev pub ghosts-send_chosen : goal.ghosts-send_chosen
ghosts-send_chosen a = record { number = 0; command = a.command.now }
