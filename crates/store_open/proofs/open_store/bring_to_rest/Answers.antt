-- What is read, folded and closed, and each way out.
use Rattle.std.proofs.Common.{◌∙◌, sym, ap, subst, Result, Err}
use Rattle.std.proofs.lemmas.Result.{err_from_is_err_and}
use Rattle.sector_dev.specs.Disk.{History, reads_of, after_sync}
use Rattle.sector_dev.specs.Calls.{one_more}
use Rattle.sector_dev.proofs.Stretches.{honest_before, honest_after}
use Rattle.store_layout.specs.Layout as laws
use Rattle.store_open.specs.Closing.{synced_by}
use Rattle.store_layout.specs.Geometry.{geometry_view}
use Rattle.store_open.specs.NewStore.{DeviceHasRoomFor}
use Rattle.store_open.specs.Open.{opening_view, OpensAlike}
use Rattle.store_open.specs.declared.folded.Folded.{Folded}
use Rattle.store_open.specs.declared.error.OpenError.{OpenError}
use Rattle.store_open.specs.declared.error.OpenError.TheVariants.{Device, NoMemory}
use Rattle.store_open.proofs.Back.{back_looked, back_without_memory, back_failed, back_so, untouched_so, faulty_so}
use Rattle.store_open.proofs.Rests.{stretch_looked, alike_itself, rested, opened_so, none_to_close}
use Rattle.store_open.proofs.Steps.{room_kept}
use Rattle.store_open.proofs.open_store.bring_to_rest.Goals as goal

pub returns-in_err-found-clause-refused : goal.returns-in_err-found-clause-refused
returns-in_err-found-clause-refused g c =
    let made = err_from_is_err_and c.from_residual.result c.from_residual.ensures.1 in
    let e = c.in_err-found.field-0.0 in
    back_so c.from_residual.result e (g.D.Device.disk c.args.device.now) (g.D.Device.disk c.read_opening.new.device) (made.1 ∙ ap (λ (x : OpenError). Err x) made.2)
    (back_looked e (g.D.Device.disk c.args.device.now) (g.D.Device.disk c.read_opening.new.device) c.in_err-found.ensures.looks c.in_err-found.ensures.opening c.in_err-found.ensures.memory)

pub returns-in_err-found-clause-any_moment : goal.returns-in_err-found-clause-any_moment
returns-in_err-found-clause-any_moment g c =
    stretch_looked (OpensAlike (reads_of (g.D.Device.disk c.args.device.now))) (g.D.Device.disk c.args.device.now) (g.D.Device.disk c.read_opening.new.device) c.in_err-found.ensures.looks.keeps c.in_err-found.ensures.looks.history c.requires.clean
    (λ honest. alike_itself (reads_of (g.D.Device.disk c.args.device.now)))

pub returns-in_err-folded-clause-refused : goal.returns-in_err-folded-clause-refused
returns-in_err-folded-clause-refused g c =
    let made = err_from_is_err_and c.from_residual-in_err-folded.result c.from_residual-in_err-folded.ensures.1 in
    back_so c.from_residual-in_err-folded.result NoMemory (g.D.Device.disk c.args.device.now) (g.D.Device.disk c.read_opening.new.device) (made.1 ∙ ap (λ (x : OpenError). Err x) made.2)
    (back_without_memory (g.D.Device.disk c.args.device.now) (g.D.Device.disk c.read_opening.new.device) c.in_ok-found.ensures.looks.faults c.in_ok-found.ensures.memory)

pub returns-in_err-folded-clause-any_moment : goal.returns-in_err-folded-clause-any_moment
returns-in_err-folded-clause-any_moment g c =
    stretch_looked (OpensAlike (reads_of (g.D.Device.disk c.args.device.now))) (g.D.Device.disk c.args.device.now) (g.D.Device.disk c.read_opening.new.device) c.in_ok-found.ensures.looks.keeps c.in_ok-found.ensures.looks.history c.requires.clean
    (λ honest. alike_itself (reads_of (g.D.Device.disk c.args.device.now)))

pub close_unused-requires-clause-room : goal.close_unused-requires-clause-room
close_unused-requires-clause-room g c =
    subst (λ (x : laws.Geometry). DeviceHasRoomFor x (g.D.Device.disk c.read_opening.new.device)) (c.in_ok-folded.ensures.tells (g.D.Device.disk c.read_opening.new.device)).geometry
    (room_kept (geometry_view c.in_ok-found.found.geometry) (g.D.Device.disk c.args.device.now) (g.D.Device.disk c.read_opening.new.device) c.in_ok-found.ensures.looks.keeps.sectors c.in_ok-found.ensures.room)

pub close_unused-requires-clause-clean : goal.close_unused-requires-clause-clean
close_unused-requires-clause-clean g c = λ honest_mid.
    let honest = honest_before (g.D.Device.disk c.args.device.now) (g.D.Device.disk c.read_opening.new.device) c.in_ok-found.ensures.looks.keeps honest_mid in
    ap (λ (h : History). h.now.dirty) (c.in_ok-found.ensures.looks.history honest) ∙ c.requires.clean honest

pub returns-in_err-close_unused-clause-refused : goal.returns-in_err-close_unused-clause-refused
returns-in_err-close_unused-clause-refused g c =
    let made = err_from_is_err_and c.from_residual-in_err-close_unused.result c.from_residual-in_err-close_unused.ensures.1 in
    back_so c.from_residual-in_err-close_unused.result Device (g.D.Device.disk c.args.device.now) (g.D.Device.disk c.close_unused.new.device) (made.1 ∙ ap (λ (x : OpenError). Err x) made.2)
    (back_failed (g.D.Device.disk c.args.device.now) (g.D.Device.disk c.close_unused.new.device) (c.in_err-close_unused.ensures.faults ∙ ap one_more c.in_ok-found.ensures.looks.faults))

pub returns-in_err-close_unused-clause-any_moment : goal.returns-in_err-close_unused-clause-any_moment
returns-in_err-close_unused-clause-any_moment g c =
    rested (g.D.Device.disk c.args.device.now) (g.D.Device.disk c.read_opening.new.device) (g.D.Device.disk c.close_unused.new.device) (opening_view c.in_ok-found.found) c.in_ok-folded.folded c.in_ok-found.ensures.looks.keeps c.in_ok-found.ensures.looks.history c.requires.clean
    (g.met.D.Device.whole c.args.device.now) c.in_ok-found.ensures.opening c.in_ok-folded.ensures.tells c.close_unused.ensures.any_moment

pub returns-clause-opened : goal.returns-clause-opened
returns-clause-opened g c =
    opened_so (g.D.Device.disk c.args.device.now) (g.D.Device.disk c.read_opening.new.device) (g.D.Device.disk c.close_unused.new.device) (opening_view c.in_ok-found.found) c.in_ok-folded.folded c.in_ok-found.ensures.looks.keeps c.in_ok-found.ensures.looks.history c.requires.clean
    (g.met.D.Device.whole c.args.device.now) c.in_ok-found.ensures.opening c.in_ok-folded.ensures.tells c.close_unused.ensures.any_moment
    c.in_ok-close_unused.ensures.settled c.in_ok-close_unused.ensures.closed

pub returns-clause-room : goal.returns-clause-room
returns-clause-room g c =
    subst (λ (x : laws.Geometry). DeviceHasRoomFor x (g.D.Device.disk c.close_unused.new.device)) (c.in_ok-folded.ensures.tells (g.D.Device.disk c.close_unused.new.device)).geometry
    (room_kept (geometry_view c.in_ok-found.found.geometry) (g.D.Device.disk c.args.device.now) (g.D.Device.disk c.close_unused.new.device) (c.close_unused.ensures.any_moment.keeps.sectors ∙ c.in_ok-found.ensures.looks.keeps.sectors) c.in_ok-found.ensures.room)

pub returns-clause-any_moment : goal.returns-clause-any_moment
returns-clause-any_moment g c =
    rested (g.D.Device.disk c.args.device.now) (g.D.Device.disk c.read_opening.new.device) (g.D.Device.disk c.close_unused.new.device) (opening_view c.in_ok-found.found) c.in_ok-folded.folded c.in_ok-found.ensures.looks.keeps c.in_ok-found.ensures.looks.history c.requires.clean
    (g.met.D.Device.whole c.args.device.now) c.in_ok-found.ensures.opening c.in_ok-folded.ensures.tells c.close_unused.ensures.any_moment

pub returns-in_err-found-clause-unwritten : goal.returns-in_err-found-clause-unwritten
returns-in_err-found-clause-unwritten g c = λ honest nothing.
    let made = err_from_is_err_and c.from_residual.result c.from_residual.ensures.1 in
    c.in_err-found.ensures.looks.history honest ∙ sym (ap (λ (r : Result Folded OpenError). synced_by r (g.D.Device.disk c.args.device.now).history) made.1)

pub returns-in_err-folded-clause-unwritten : goal.returns-in_err-folded-clause-unwritten
returns-in_err-folded-clause-unwritten g c = λ honest nothing.
    let made = err_from_is_err_and c.from_residual-in_err-folded.result c.from_residual-in_err-folded.ensures.1 in
    c.in_ok-found.ensures.looks.history honest ∙ sym (ap (λ (r : Result Folded OpenError). synced_by r (g.D.Device.disk c.args.device.now).history) made.1)

pub returns-in_err-close_unused-clause-unwritten : goal.returns-in_err-close_unused-clause-unwritten
returns-in_err-close_unused-clause-unwritten g c = λ honest nothing.
    let made = err_from_is_err_and c.from_residual-in_err-close_unused.result c.from_residual-in_err-close_unused.ensures.1 in
    c.in_err-close_unused.ensures.unwritten (honest_after (g.D.Device.disk c.args.device.now) (g.D.Device.disk c.read_opening.new.device) c.in_ok-found.ensures.looks.keeps honest)
    (none_to_close (g.D.Device.disk c.args.device.now) (g.D.Device.disk c.read_opening.new.device) (g.D.Device.disk c.close_unused.new.device) (opening_view c.in_ok-found.found) c.in_ok-folded.folded c.in_ok-found.ensures.looks.keeps c.in_ok-found.ensures.looks.history c.requires.clean
    (g.met.D.Device.whole c.args.device.now) c.in_ok-found.ensures.opening c.in_ok-folded.ensures.tells c.close_unused.ensures.any_moment honest nothing)
    ∙ c.in_ok-found.ensures.looks.history honest ∙ sym (ap (λ (r : Result Folded OpenError). synced_by r (g.D.Device.disk c.args.device.now).history) made.1)

pub returns-clause-unwritten : goal.returns-clause-unwritten
returns-clause-unwritten g c = λ honest nothing.
    c.in_ok-close_unused.ensures.unwritten (honest_after (g.D.Device.disk c.args.device.now) (g.D.Device.disk c.read_opening.new.device) c.in_ok-found.ensures.looks.keeps honest)
    (none_to_close (g.D.Device.disk c.args.device.now) (g.D.Device.disk c.read_opening.new.device) (g.D.Device.disk c.close_unused.new.device) (opening_view c.in_ok-found.found) c.in_ok-folded.folded c.in_ok-found.ensures.looks.keeps c.in_ok-found.ensures.looks.history c.requires.clean
    (g.met.D.Device.whole c.args.device.now) c.in_ok-found.ensures.opening c.in_ok-folded.ensures.tells c.close_unused.ensures.any_moment honest nothing)
    ∙ ap after_sync (c.in_ok-found.ensures.looks.history honest)

pub returns-in_err-found-clause-untouched : goal.returns-in_err-found-clause-untouched
returns-in_err-found-clause-untouched g c =
    untouched_so c.from_residual.result (g.D.Device.disk c.args.device.now) (g.D.Device.disk c.read_opening.new.device) (λ honest. c.in_err-found.ensures.looks.history honest)

pub returns-in_err-folded-clause-untouched : goal.returns-in_err-folded-clause-untouched
returns-in_err-folded-clause-untouched g c =
    untouched_so c.from_residual-in_err-folded.result (g.D.Device.disk c.args.device.now) (g.D.Device.disk c.read_opening.new.device) (λ honest. c.in_ok-found.ensures.looks.history honest)

pub returns-in_err-close_unused-clause-untouched : goal.returns-in_err-close_unused-clause-untouched
returns-in_err-close_unused-clause-untouched g c =
    let made = err_from_is_err_and c.from_residual-in_err-close_unused.result c.from_residual-in_err-close_unused.ensures.1 in
    faulty_so c.from_residual-in_err-close_unused.result (g.D.Device.disk c.args.device.now) (g.D.Device.disk c.close_unused.new.device) (made.1 ∙ ap (λ (x : OpenError). Err x) made.2)
