use Rattle.command_log.proofs.OwnerSteps.{begins}
use Rattle.command_log.proofs.unnamed.UnnamedLog.new.Goals as goal

pub of_words-requires : goal.of_words-requires
of_words-requires c = begins
