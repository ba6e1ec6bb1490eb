-- What is read and folded, and each way out.
use Rattle.std.proofs.Common.{ap, ◌∙◌, Err}
use Rattle.std.proofs.lemmas.Result.{err_from_is_err_and}
use Rattle.sector_dev.specs.Disk.{reads_of}
use Rattle.store_layout.proofs.Exports.{opening_from}
use Rattle.store_layout.specs.Limits.{latest}
use Rattle.store_open.specs.Open.{opening_view, WantsMemoryToOpen}
use Rattle.store_open.specs.PathStores.{store_format}
use Rattle.store_open.specs.declared.error.OpenError.{OpenError}
use Rattle.store_open.specs.declared.error.OpenError.TheVariants.{NoMemory}
use Rattle.store_open.proofs.Back.{back_looked, back_without_memory, back_so, memory_alike}
use Rattle.store_open.proofs.folded.look.Goals as goal

pub returns-in_err-found-clause-refused : goal.returns-in_err-found-clause-refused
returns-in_err-found-clause-refused g c =
    let made = err_from_is_err_and c.from_residual.result c.from_residual.ensures.1 in
    let e = c.in_err-found.field-0.0 in
    back_so c.from_residual.result e (g.D.Device.disk c.args.device.now) (g.D.Device.disk c.read_opening.new.device) (made.1 ∙ ap (λ (x : OpenError). Err x) made.2)
    (back_looked e (g.D.Device.disk c.args.device.now) (g.D.Device.disk c.read_opening.new.device) c.in_err-found.ensures.looks c.in_err-found.ensures.opening c.in_err-found.ensures.memory)

pub returns-in_err-found-clause-memory : goal.returns-in_err-found-clause-memory
returns-in_err-found-clause-memory g c honest =
    let made = err_from_is_err_and c.from_residual.result c.from_residual.ensures.1 in
    memory_alike c.from_residual.result c.in_err-found.field-0.0 (WantsMemoryToOpen (reads_of (g.D.Device.disk c.args.device.now))) (made.1 ∙ ap (λ (x : OpenError). Err x) made.2)
    (c.in_err-found.ensures.memory honest)

pub returns-in_err-folded-clause-refused : goal.returns-in_err-folded-clause-refused
returns-in_err-folded-clause-refused g c =
    let made = err_from_is_err_and c.from_residual-in_err-folded.result c.from_residual-in_err-folded.ensures.1 in
    back_so c.from_residual-in_err-folded.result NoMemory (g.D.Device.disk c.args.device.now) (g.D.Device.disk c.read_opening.new.device) (made.1 ∙ ap (λ (x : OpenError). Err x) made.2)
    (back_without_memory (g.D.Device.disk c.args.device.now) (g.D.Device.disk c.read_opening.new.device) c.in_ok-found.ensures.looks.faults c.in_ok-found.ensures.memory)

pub returns-in_err-folded-clause-memory : goal.returns-in_err-folded-clause-memory
returns-in_err-folded-clause-memory g c honest =
    let made = err_from_is_err_and c.from_residual-in_err-folded.result c.from_residual-in_err-folded.ensures.1 in
    memory_alike c.from_residual-in_err-folded.result NoMemory (WantsMemoryToOpen (reads_of (g.D.Device.disk c.args.device.now))) (made.1 ∙ ap (λ (x : OpenError). Err x) made.2)
    (c.in_ok-found.ensures.memory honest)

pub returns-clause-seen : goal.returns-clause-seen
returns-clause-seen g c = record {
  opening = opening_view c.in_ok-found.found;
  opens = λ honest.
      opening_from store_format latest (reads_of (g.D.Device.disk c.args.device.now)) (opening_view c.in_ok-found.found)
      (g.met.D.Device.whole c.args.device.now honest).bytes (c.in_ok-found.ensures.opening honest);
  tells = c.in_ok-folded.ensures.tells;
}
