use Rattle.std.proofs.Common.{rules, ◌<◌, length, ap, ◌∙◌, subst}
use Rattle.isd_as.specs.IsdAs.{isd_as_number}
use Rattle.path_db.specs.Answer.{segments_of, answer_of}
use Rattle.path_db.proofs.Asked.{asked_first}
use Rattle.path_db.proofs.database.PathDb.matching_counted.Goals as goal

pub returns-in_err-found-clause-memory : goal.returns-in_err-found-clause-memory
returns-in_err-found-clause-memory c =
    let rows = c.args.self.now in
    let start = isd_as_number c.args.start in
    let end = isd_as_number c.args.end in
    let some : 0 < length (answer_of c.args.limit rows c.args.kind start end c.args.now) =
    subst (λ a. 0 < length a) (asked_first c.args.limit rows c.args.kind start end c.args.now) c.in_err-found.ensures.memory in
    search (rules, some)

pub returns-clause-same : goal.returns-clause-same
returns-clause-same c =
    c.in_ok-found.ensures.same ∙ ap segments_of (asked_first c.args.limit c.args.self.now c.args.kind (isd_as_number c.args.start) (isd_as_number c.args.end) c.args.now)
