use Rattle.std.proofs.Common.{◌≡◌, ◌<◌, IfOk, OnErr, length, subst}
use Rattle.isd_as.specs.IsdAs.{isd_as_number}
use Rattle.path_db.specs.Answer.{segments_of}
use Rattle.path_db.proofs.Asked.{asked_after}
use Rattle.path_db.proofs.database.PathDb.matching_after.Goals as goal

pub returns-clause-same : goal.returns-clause-same
returns-clause-same c =
    let answer = asked_after c.args.limit c.args.self.now c.args.kind (isd_as_number c.args.start) (isd_as_number c.args.end) c.args.now c.args.id.now in
    subst (λ a. IfOk c.shown.result (λ found. found.items ≡ segments_of a)) answer c.shown.ensures.same

pub returns-clause-memory : goal.returns-clause-memory
returns-clause-memory c =
    let answer = asked_after c.args.limit c.args.self.now c.args.kind (isd_as_number c.args.start) (isd_as_number c.args.end) c.args.now c.args.id.now in
    subst (λ a. OnErr c.shown.result (0 < length a)) answer c.shown.ensures.memory
