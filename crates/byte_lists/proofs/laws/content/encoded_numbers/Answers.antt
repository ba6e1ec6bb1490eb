use Rattle.std.proofs.Common.{length, refl}
use Rattle.byte_lists.proofs.BigEndian.{four_at-encoded, eight_at-encoded, encoded-four_at, encoded-eight_at}
use Rattle.byte_lists.proofs.laws.content.encoded_numbers.Goals as goal

pub returns-clause-four : goal.returns-clause-four
returns-clause-four c = λ n before after small. four_at-encoded n (length before) before after small refl

pub returns-clause-eight : goal.returns-clause-eight
returns-clause-eight c = λ n before after small. eight_at-encoded n (length before) before after small refl

pub returns-clause-four_back : goal.returns-clause-four_back
returns-clause-four_back c = encoded-four_at

pub returns-clause-eight_back : goal.returns-clause-eight_back
returns-clause-eight_back c = encoded-eight_at
