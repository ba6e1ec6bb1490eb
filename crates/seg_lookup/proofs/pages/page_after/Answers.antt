use Rattle.std.proofs.Common.{rules, ◌<◌, ◌∙◌, length}
use Rattle.std.specs.Option.{option_copied}
use Rattle.seg_lookup.specs.Query.{query_view}
use Rattle.seg_lookup.specs.Page.{answer_after}
use Rattle.seg_lookup.proofs.OneMore.{page_segments, page_more, page_some}
use Rattle.seg_lookup.proofs.pages.page_after.Goals as goal

pub returns-in_err-found-clause-memory : goal.returns-in_err-found-clause-memory
returns-in_err-found-clause-memory c =
    let some : 0 < length (answer_after c.args.db.now (query_view c.args.query.now) (option_copied c.args.after) c.args.now) =
    page_some c.args.db.now (query_view c.args.query.now) (option_copied c.args.after) c.args.now c.in_err-found.ensures.memory in
    search (rules, some)

pub returns-clause-same : goal.returns-clause-same
returns-clause-same c =
    c.of.ensures.segments ∙ page_segments c.args.db.now (query_view c.args.query.now) (option_copied c.args.after) c.args.now c.in_ok-found.found.items c.in_ok-found.ensures.same

pub returns-clause-more : goal.returns-clause-more
returns-clause-more c =
    c.of.ensures.more ∙ page_more c.args.db.now (query_view c.args.query.now) (option_copied c.args.after) c.args.now c.in_ok-found.found.items c.in_ok-found.ensures.same
