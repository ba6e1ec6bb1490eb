use Rattle.seg_core.proofs.Paths.{count-iff, chain-iff, no_loop-iff}
use Rattle.seg_core.proofs.laws.messages.path_tests_are_exact.Goals as goal

pub returns-clause-counted : goal.returns-clause-counted
returns-clause-counted c = λ entries. count-iff entries

pub returns-clause-chain : goal.returns-clause-chain
returns-clause-chain c = λ entries. chain-iff entries

pub returns-clause-no_loop : goal.returns-clause-no_loop
returns-clause-no_loop c = λ entries. no_loop-iff entries
