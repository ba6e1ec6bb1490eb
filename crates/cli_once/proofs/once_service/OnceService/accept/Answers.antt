use Rattle.std.proofs.Common.{sym}
use Rattle.cli_once.specs.Kept.{served_by}
use Rattle.cli_once.proofs.MemoryLemmas.{registration_taken}
use Rattle.cli_once.proofs.once_service.OnceService.accept.Goals as goal

pub returns : goal.returns
returns g c =
    let old = served_by g.V.Verifier.verifies c.args.self.now in
    let accepted = sym (rw c.deref.ensures.value at c.in_ok-check_all.ensures) in
    let took = rw c.new.ensures at c.take.ensures in
    registration_taken old c.args.message.now c.in_ok-new.new.items c.take.result (served_by g.V.Verifier.verifies c.take.new.self) c.in_ok-new.ensures.decoding accepted took
