use Rattle.command_queue.proofs.steps.number.Given as goal

-- the step is about the number and its command
abbrev pub ghosts-number_chosen : goal.ghosts-number_chosen
ghosts-number_chosen a = record { number = a.number; command = a.command.now }
