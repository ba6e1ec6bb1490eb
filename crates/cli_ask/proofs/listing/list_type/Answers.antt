-- One more page.
use Rattle.std.proofs.Common.{◌≡◌, ℕ, List, Option, true, false, rules, sym, subst}
use Rattle.cli_ask.specs.Pages.{HasListed}
use Rattle.cli_ask.proofs.Listings.{listed-last, listed-more}
use Rattle.cli_ask.proofs.listing.list_type.Goals as goal

pub returns-then-not-page : goal.returns-then-not-page
returns-then-not-page g c =
    let talk = g.L.Link.talk in
    let contents = g.W.Write.contents in
    let page = c.in_ok-page.page in
    let last : page.more ≡ false = search rules in
    let listed =
    listed-last c.args.form c.args.kind c.loop-turn.request page (talk c.loop-turn.link) (talk c.page_of.new.link) (contents c.loop-turn.writer) (contents c.print_segments.new.writer)
    last c.in_ok-page.ensures.kind c.in_ok-page.ensures.page (rw c.as_slice.ensures.value at c.in_ok-print_segments.ensures) in
    c.loop-turn.invariant (talk c.page_of.new.link) (contents c.print_segments.new.writer) listed

pub loop-turn-preserved : goal.loop-turn-preserved
loop-turn-preserved g c = λ t o rest.
    let talk = g.L.Link.talk in
    let contents = g.W.Write.contents in
    let page = c.in_ok-page.page in
    let request = c.loop-turn.request in
    let more : page.more ≡ true = search rules in
    let behind = subst (λ (a : Option (List ℕ)). HasListed (talk c.page_of.new.link) t (contents c.print_segments.new.writer) o c.args.form c.args.kind
    (record { kind = request.kind; start = request.start; end = request.end; after = a })) (sym c.in_ok-id.ensures.last) rest in
    let listed =
    listed-more c.args.form c.args.kind request page (talk c.loop-turn.link) (talk c.page_of.new.link) t (contents c.loop-turn.writer) (contents c.print_segments.new.writer) o
    more c.in_ok-page.ensures.kind c.in_ok-page.ensures.page (rw c.as_slice.ensures.value at c.in_ok-print_segments.ensures) behind in
    c.loop-turn.invariant t o listed
