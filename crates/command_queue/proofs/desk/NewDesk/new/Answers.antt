use Rattle.command_queue.proofs.PassSteps.{begins}
use Rattle.command_queue.proofs.desk.NewDesk.new.Goals as goal

pub of_words-requires : goal.of_words-requires
of_words-requires c = begins
