-- The first sync, and what follows it.
use Rattle.std.proofs.Common.{◌∙◌, inl, sym, ap, subst, Result, Err}
use Rattle.std.proofs.lemmas.Result.{err_from_is_err_and}
use Rattle.sector_dev.specs.Disk.{History}
use Rattle.sector_dev.proofs.Stretches.{honest_before}
use Rattle.store_open.specs.declared.folded.Folded.{Folded}
use Rattle.store_open.specs.declared.error.OpenError.{OpenError}
use Rattle.store_open.specs.declared.error.OpenError.TheVariants.{Device}
use Rattle.store_open.specs.Open.{OnlySyncs}
use Rattle.store_open.proofs.Back.{back_failed, back_so, back_since, faults_since, opened_since, sync_failed, only_syncs, untouched_since}
use Rattle.store_open.proofs.Rests.{only_synced, synced_then}
use Rattle.store_open.proofs.open_store.settle.Goals as goal

pub returns-in_err-sync-clause-refused : goal.returns-in_err-sync-clause-refused
returns-in_err-sync-clause-refused g c =
    let made = err_from_is_err_and c.from_residual.result c.from_residual.ensures.1 in
    back_so c.from_residual.result Device (g.D.Device.disk c.args.device.now) (g.D.Device.disk c.sync.new.self) (made.1 ∙ ap (λ (x : OpenError). Err x) made.2)
    (back_failed (g.D.Device.disk c.args.device.now) (g.D.Device.disk c.sync.new.self) c.in_err-sync.ensures.sync.faults)

pub returns-in_err-sync-clause-any_moment : goal.returns-in_err-sync-clause-any_moment
returns-in_err-sync-clause-any_moment g c =
    only_synced (g.D.Device.disk c.args.device.now) (g.D.Device.disk c.sync.new.self) (g.D.Device.disk c.sync.new.self) (g.met.D.Device.whole c.args.device.now) c.sync.result c.sync.ensures.sync

pub bring_to_rest-requires-clause-clean : goal.bring_to_rest-requires-clause-clean
bring_to_rest-requires-clause-clean g c = λ honest_mid.
    let honest = honest_before (g.D.Device.disk c.args.device.now) (g.D.Device.disk c.sync.new.self) c.sync.ensures.sync.keeps honest_mid in
    ap (λ (h : History). h.now.dirty) (c.in_ok-sync.ensures.sync.done honest)

pub returns-clause-opened : goal.returns-clause-opened
returns-clause-opened g c =
    opened_since (g.D.Device.disk c.args.device.now) (g.D.Device.disk c.sync.new.self) (g.D.Device.disk c.bring_to_rest.new.device) c.sync.result c.sync.ensures.sync c.in_ok-sync.ensures.sync.faults c.bring_to_rest.result c.bring_to_rest.ensures.opened

pub returns-clause-faults : goal.returns-clause-faults
returns-clause-faults g c =
    faults_since (g.D.Device.disk c.args.device.now) (g.D.Device.disk c.sync.new.self) (g.D.Device.disk c.bring_to_rest.new.device) c.sync.result c.sync.ensures.sync c.in_ok-sync.ensures.sync.faults c.bring_to_rest.result c.bring_to_rest.ensures.faults

pub returns-clause-refused : goal.returns-clause-refused
returns-clause-refused g c =
    back_since (g.D.Device.disk c.args.device.now) (g.D.Device.disk c.sync.new.self) (g.D.Device.disk c.bring_to_rest.new.device) c.sync.result c.sync.ensures.sync c.in_ok-sync.ensures.sync.faults c.bring_to_rest.result c.bring_to_rest.ensures.refused

pub returns-clause-any_moment : goal.returns-clause-any_moment
returns-clause-any_moment g c =
    synced_then (g.D.Device.disk c.args.device.now) (g.D.Device.disk c.sync.new.self) (g.D.Device.disk c.bring_to_rest.new.device) (g.met.D.Device.whole c.args.device.now) c.sync.result c.sync.ensures.sync c.bring_to_rest.ensures.any_moment

pub returns-in_err-sync-clause-unwritten : goal.returns-in_err-sync-clause-unwritten
returns-in_err-sync-clause-unwritten g c = λ honest nothing.
    let made = err_from_is_err_and c.from_residual.result c.from_residual.ensures.1 in
    subst (λ (r : Result Folded OpenError). OnlySyncs r (g.D.Device.disk c.args.device.now).history (g.D.Device.disk c.sync.new.self).history) (sym made.1)
    (inl (c.in_err-sync.ensures.sync.unchanged honest))

pub returns-in_err-sync-clause-untouched : goal.returns-in_err-sync-clause-untouched
returns-in_err-sync-clause-untouched g c =
    let made = err_from_is_err_and c.from_residual.result c.from_residual.ensures.1 in
    sync_failed c.from_residual.result (g.D.Device.disk c.args.device.now) (g.D.Device.disk c.sync.new.self) (made.1 ∙ ap (λ (x : OpenError). Err x) made.2)

pub returns-clause-unwritten : goal.returns-clause-unwritten
returns-clause-unwritten g c =
    only_syncs (g.D.Device.disk c.args.device.now) (g.D.Device.disk c.sync.new.self) (g.D.Device.disk c.bring_to_rest.new.device) c.sync.result c.sync.ensures.sync c.in_ok-sync.ensures.sync.faults c.bring_to_rest.result
    (λ honest. c.in_ok-sync.ensures.sync.done honest) c.bring_to_rest.ensures.unwritten

pub returns-clause-untouched : goal.returns-clause-untouched
returns-clause-untouched g c =
    untouched_since (g.D.Device.disk c.args.device.now) (g.D.Device.disk c.sync.new.self) (g.D.Device.disk c.bring_to_rest.new.device) c.sync.result c.sync.ensures.sync c.in_ok-sync.ensures.sync.faults c.bring_to_rest.result
    (λ honest. c.in_ok-sync.ensures.sync.done honest) c.bring_to_rest.ensures.untouched
