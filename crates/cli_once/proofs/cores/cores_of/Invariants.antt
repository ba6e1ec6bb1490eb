use Rattle.std.proofs.Common.{map}
use Rattle.cli_once.specs.Cores.{AreCores}
use Rattle.cli_once.proofs.cores.cores_of.Given as goal

abbrev pub invariant-loop-text : goal.invariant-loop-text
invariant-loop-text l = AreCores (map (λ text. text.now) l.yielded) l.cores.items
