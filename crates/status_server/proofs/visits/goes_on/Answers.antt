-- The answer is taken after a step that read the request.
use Rattle.std.proofs.Common.{inr, sym, rules}
use Rattle.status_server.proofs.visits.goes_on.Goals as goal

pub returns-in-Ok : goal.returns-in-Ok
returns-in-Ok g c = record {
  head = search rules;
  rest = inr (record {
    asked = c.in-Asks.asked;
    asks = search rules;
    whole = search rules;
    answers = (c.in-Ok.text, c.in-Ok.ensures, sym c.answer_by.ensures.rest);
    before = search rules;
    after = search rules;
  });
  stage = search rules;
  silence = search rules;
  deadline = search rules;
}
