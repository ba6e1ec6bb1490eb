use Rattle.seg_lookup.proofs.Follows.{first_page_is_the_answer}
use Rattle.seg_lookup.proofs.laws.first_page_is_the_answer.Goals as goal

pub returns : goal.returns
returns c = first_page_is_the_answer
