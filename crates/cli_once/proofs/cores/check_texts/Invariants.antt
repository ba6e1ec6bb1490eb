use Rattle.std.proofs.Common.{map}
use Rattle.cli_once.specs.Cores.{IsCoreList}
use Rattle.cli_once.proofs.cores.check_texts.Given as goal

abbrev pub invariant-loop-text : goal.invariant-loop-text
invariant-loop-text l = IsCoreList (map (λ text. text.now) l.yielded)
