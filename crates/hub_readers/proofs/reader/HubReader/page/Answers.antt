use Rattle.std.proofs.Common.{◌∙◌}
use Rattle.std.specs.Option.{option_copied}
use Rattle.seg_lookup.specs.Query.{query_view}
use Rattle.seg_lookup.proofs.Exports.{page_segments, page_more, page_some}
use Rattle.hub_readers.specs.Shown.{shown_after}
use Rattle.hub_readers.proofs.reader.HubReader.page.Goals as goal

pub returns-in-Ok-clause-answer : goal.returns-in-Ok-clause-answer
returns-in-Ok-clause-answer g c =
    let rows = (shown_after g.N.StateName.opening c.look_for.new.self.groups).db in
    c.of.ensures.segments ∙ page_segments rows (query_view c.args.query.now) (option_copied c.args.after) c.args.now c.in-Ok.found.items c.in-Ok.ensures.answer

pub returns-in-Ok-clause-more : goal.returns-in-Ok-clause-more
returns-in-Ok-clause-more g c =
    let rows = (shown_after g.N.StateName.opening c.look_for.new.self.groups).db in
    c.of.ensures.more ∙ page_more rows (query_view c.args.query.now) (option_copied c.args.after) c.args.now c.in-Ok.found.items c.in-Ok.ensures.answer

pub returns-in-Err-clause-memory : goal.returns-in-Err-clause-memory
returns-in-Err-clause-memory g c = λ e.
    let rows = (shown_after g.N.StateName.opening c.look_for.new.self.groups).db in
    page_some rows (query_view c.args.query.now) (option_copied c.args.after) c.args.now (c.in-Err.ensures.memory e)
