use Rattle.std.proofs.Common.{take, ap, ◌∙◌}
use Rattle.std.specs.List.{filter}
use Rattle.path_db.specs.Answer.{segments_of}
use Rattle.path_db.specs.Wanted.{is_wanted}
use Rattle.path_db.proofs.Asked.{kept_again}
use Rattle.path_db.proofs.ways.shown_between.Goals as goal

pub returns-clause-same : goal.returns-clause-same
returns-clause-same c =
    let w = is_wanted c.args.wanted in
    let rows = c.args.rows.now in
    let all = rw c.in-Some.is at c.in_ok-sorted.ensures.same in
    c.in_ok-found.ensures.same ∙ ap (λ l. segments_of (take c.args.limit (filter w l))) all ∙ ap (λ l. segments_of (take c.args.limit l)) (kept_again c.args.wanted rows)
