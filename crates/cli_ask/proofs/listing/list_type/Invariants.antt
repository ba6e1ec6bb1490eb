-- What lists all pages from here on lists all of them.
use Rattle.std.proofs.Common.{ℕ, List, Option}
use Rattle.cli_ask.specs.Pages.{HasListed, first_request}
use Rattle.cli_ask.specs.Talk.{Byte}
use Rattle.cli_ask.proofs.listing.list_type.Given as goal

abbrev pub invariant-loop-turn : goal.invariant-loop-turn
invariant-loop-turn g l =
    let talk = g.L.Link.talk in
    let contents = g.W.Write.contents in
    (talk_after : Option (List Byte)) (output_after : Option (List ℕ))
    → HasListed (talk l.link) talk_after (contents l.writer) output_after l.form l.kind l.request
    → HasListed (talk l.fn.link) talk_after (contents l.fn.writer) output_after l.form l.kind (first_request l.kind l.fn.ends)
