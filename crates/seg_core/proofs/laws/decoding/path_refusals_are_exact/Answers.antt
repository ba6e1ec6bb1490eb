use Rattle.seg_core.proofs.PathRefusals.{chain_refusal-iff, loop_refusal-iff}
use Rattle.seg_core.proofs.laws.decoding.path_refusals_are_exact.Goals as goal

pub returns-clause-no_chain : goal.returns-clause-no_chain
returns-clause-no_chain c = λ message. chain_refusal-iff message

pub returns-clause-has_loop : goal.returns-clause-has_loop
returns-clause-has_loop c = λ message. loop_refusal-iff message
