use Rattle.seg_core.proofs.ResponseLengths.{short_response-one_type, short_response-any}
use Rattle.seg_core.proofs.laws.messages.responses_are_short.Goals as goal

pub returns-clause-one_type : goal.returns-clause-one_type
returns-clause-one_type c = λ kind rows same whole few. short_response-one_type kind rows same whole few

pub returns-clause-any : goal.returns-clause-any
returns-clause-any c = λ rows whole few. short_response-any rows whole few
