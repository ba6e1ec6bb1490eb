-- The page that came is the one that is taken.
use Rattle.std.proofs.Common.{◌≡◌, sym, subst}
use Rattle.std.proofs.lemmas.Result.{IfOk-weaker}
use Rattle.session_core.specs.declared.service.Listing.{Listing}
use Rattle.cli_ask.specs.Pages.{page_talk}
use Rattle.cli_ask.specs.Talk.{Passes}
use Rattle.cli_ask.proofs.listing.page_of.Goals as goal

pub returns-in-Ok-Listed-clause-page : goal.returns-in-Ok-Listed-clause-page
returns-in-Ok-Listed-clause-page g c =
    let talk = g.L.Link.talk in
    let page = c.in-Ok-Listed.page in
    let passed : Passes (talk c.args.link.now) (talk c.exchange.new.link) (page_talk c.args.request page) = rw c.in-Ok-Listed.field-0-is at c.in-Ok-Listed.ensures.reply in
    IfOk-weaker c.of_type.result (λ taken. taken ≡ page) _ (λ taken is. subst (λ (p : Listing). Passes (talk c.args.link.now) (talk c.exchange.new.link) (page_talk c.args.request p)) (sym is) passed) (rw c.in-Ok-Listed.field-0-is at c.of_type.ensures.same)
