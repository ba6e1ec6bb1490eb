-- The front, the rows, and their count.
use Rattle.std.proofs.Common.{◌≡◌, ◌+◌, ◌*◌, ◌∙◌, ap, subst, sym, arith, Result, Err}
use Rattle.std.proofs.lemmas.Result.{err_from_is_err_and}
use Rattle.byte_lists.specs.Content.{part}
use Rattle.sector_dev.specs.Disk.{History, reads_of}
use Rattle.sector_dev.proofs.Stretches.{honest_after}
use Rattle.store_layout.specs.CheckpointReading.{checkpoint_in}
use Rattle.store_layout.specs.Layout.{area_of}
use Rattle.ckpt_pair.specs.declared.reading.Checkpoint.{Checkpoint}
use Rattle.store_layout.specs.Limits.{latest}
use Rattle.ckpt_pair.specs.Reading.{front_view, checkpoint_view}
use Rattle.ckpt_pair.specs.Rows.{rows_format}
use Rattle.store_layout.specs.Geometry.{geometry_view}
use Rattle.store_open.specs.declared.error.OpenError.{OpenError}
use Rattle.store_open.specs.Refusals.{error_of_pair, PairSo}
use Rattle.store_open.specs.Rows.{FeedsSo}
use Rattle.store_open.proofs.Fronts.{pair_told}
use Rattle.store_open.proofs.Checkpoints.{front_stands, front_refused, feed_refused_so, count_refused_so, counted_so}
use Rattle.store_open.proofs.Steps.{memory_from}
use Rattle.store_open.proofs.rows.read_checkpoint.Goals as goal

pub returns-in_err-front-clause-checkpoint : goal.returns-in_err-front-clause-checkpoint
returns-in_err-front-clause-checkpoint g c honest =
    let made = err_from_is_err_and c.from_residual-in_err-front.result c.from_residual-in_err-front.ensures.1 in
    let e = c.in_err-front.field-0.0 in
    let so : c.from_residual-in_err-front.result ≡ Err (error_of_pair e) = made.1 ∙ ap (λ (x : OpenError). Err x) made.2 in
    subst (λ (r : Result Checkpoint OpenError). PairSo checkpoint_view r (checkpoint_in rows_format latest (area_of (geometry_view c.args.geometry) c.args.half (reads_of (g.D.Device.disk c.args.device.now))))) (sym so)
    (front_refused (geometry_view c.args.geometry) c.args.half (reads_of (g.D.Device.disk c.args.device.now)) c.in_ok-sector.sector c.area_at-at.result c.requires.allowed
    (let whole = g.met.D.Device.whole c.args.device.now honest in omega (arith, whole.size, c.requires.room)) c.checkpoints_are_read_by_their_fronts.ensures c.area_at-at.ensures (c.in_ok-sector.ensures.read honest)
    checkpoint_view front_view e c.from.result c.from.ensures c.in_err-front.ensures)

pub returns-in_err-reader-clause-checkpoint : goal.returns-in_err-reader-clause-checkpoint
returns-in_err-reader-clause-checkpoint g c honest =
    let made = err_from_is_err_and c.from_residual-in_err-reader.result c.from_residual-in_err-reader.ensures.1 in
    let e = c.in_err-reader.field-0.0 in
    let so : c.from_residual-in_err-reader.result ≡ Err e = made.1 ∙ ap (λ (x : OpenError). Err x) made.2 in
    subst (λ (r : Result Checkpoint OpenError). PairSo checkpoint_view r (checkpoint_in rows_format latest (area_of (geometry_view c.args.geometry) c.args.half (reads_of (g.D.Device.disk c.args.device.now))))) (sym so)
    (feed_refused_so (geometry_view c.args.geometry) c.args.half (reads_of (g.D.Device.disk c.args.device.now)) c.in_ok-sector.sector c.area_at-at.result c.requires.allowed
    (let whole = g.met.D.Device.whole c.args.device.now honest in omega (arith, whole.size, c.requires.room)) c.checkpoints_are_read_by_their_fronts.ensures c.area_at-at.ensures (c.in_ok-sector.ensures.read honest)
    (front_view c.in_ok-front.front) c.from.result c.from.ensures (pair_told front_view c.in_ok-front.front _ c.in_ok-front.ensures) checkpoint_view e
    (subst (λ (h : History). FeedsSo (part (512 * c.area_at-at.result + 32) c.in_ok-front.front.size h.now.reads) (Err e)) (c.in_ok-sector.ensures.looks.history honest)
    (c.in_err-reader.ensures.rows (honest_after _ _ c.in_ok-sector.ensures.looks.keeps honest))))

pub returns-in_err-db-clause-checkpoint : goal.returns-in_err-db-clause-checkpoint
returns-in_err-db-clause-checkpoint g c honest =
    let made = err_from_is_err_and c.from_residual-in_err-db.result c.from_residual-in_err-db.ensures.1 in
    let e = c.in_err-db.field-0.0 in
    let so : c.from_residual-in_err-db.result ≡ Err (error_of_pair e) = made.1 ∙ ap (λ (x : OpenError). Err x) made.2 in
    subst (λ (r : Result Checkpoint OpenError). PairSo checkpoint_view r (checkpoint_in rows_format latest (area_of (geometry_view c.args.geometry) c.args.half (reads_of (g.D.Device.disk c.args.device.now))))) (sym so)
    (count_refused_so (geometry_view c.args.geometry) c.args.half (reads_of (g.D.Device.disk c.args.device.now)) c.in_ok-sector.sector c.area_at-at.result c.requires.allowed
    (let whole = g.met.D.Device.whole c.args.device.now honest in omega (arith, whole.size, c.requires.room)) c.checkpoints_are_read_by_their_fronts.ensures c.area_at-at.ensures (c.in_ok-sector.ensures.read honest)
    (front_view c.in_ok-front.front) c.from.result c.from.ensures (pair_told front_view c.in_ok-front.front _ c.in_ok-front.ensures) checkpoint_view e c.in_ok-reader.reader
    (c.in_ok-reader.ensures.rows (honest_after _ _ c.in_ok-sector.ensures.looks.keeps honest) ∙ ap (λ (h : History). part (512 * c.area_at-at.result + 32) c.in_ok-front.front.size h.now.reads) (c.in_ok-sector.ensures.looks.history honest)) c.in_err-db.ensures.decoding)

pub returns-clause-checkpoint : goal.returns-clause-checkpoint
returns-clause-checkpoint g c honest =
    counted_so (geometry_view c.args.geometry) c.args.half (reads_of (g.D.Device.disk c.args.device.now)) c.in_ok-sector.sector c.area_at-at.result c.requires.allowed
    (let whole = g.met.D.Device.whole c.args.device.now honest in omega (arith, whole.size, c.requires.room)) c.checkpoints_are_read_by_their_fronts.ensures c.area_at-at.ensures (c.in_ok-sector.ensures.read honest)
    (front_view c.in_ok-front.front) c.from.result c.from.ensures (pair_told front_view c.in_ok-front.front _ c.in_ok-front.ensures) c.in_ok-db.db c.in_ok-reader.reader
    (c.in_ok-reader.ensures.rows (honest_after _ _ c.in_ok-sector.ensures.looks.keeps honest) ∙ ap (λ (h : History). part (512 * c.area_at-at.result + 32) c.in_ok-front.front.size h.now.reads) (c.in_ok-sector.ensures.looks.history honest)) c.in_ok-db.ensures.decoding

pub returns-in_err-reader-clause-memory : goal.returns-in_err-reader-clause-memory
returns-in_err-reader-clause-memory g c honest =
    memory_from _ c.from_residual-in_err-reader.result
    (front_stands (geometry_view c.args.geometry) c.args.half (reads_of (g.D.Device.disk c.args.device.now)) c.in_ok-sector.sector c.area_at-at.result c.requires.allowed
    (let whole = g.met.D.Device.whole c.args.device.now honest in omega (arith, whole.size, c.requires.room)) c.checkpoints_are_read_by_their_fronts.ensures c.area_at-at.ensures (c.in_ok-sector.ensures.read honest)
    (front_view c.in_ok-front.front) c.from.result c.from.ensures (pair_told front_view c.in_ok-front.front _ c.in_ok-front.ensures))

pub returns-in_err-db-clause-memory : goal.returns-in_err-db-clause-memory
returns-in_err-db-clause-memory g c honest =
    memory_from _ c.from_residual-in_err-db.result
    (front_stands (geometry_view c.args.geometry) c.args.half (reads_of (g.D.Device.disk c.args.device.now)) c.in_ok-sector.sector c.area_at-at.result c.requires.allowed
    (let whole = g.met.D.Device.whole c.args.device.now honest in omega (arith, whole.size, c.requires.room)) c.checkpoints_are_read_by_their_fronts.ensures c.area_at-at.ensures (c.in_ok-sector.ensures.read honest)
    (front_view c.in_ok-front.front) c.from.result c.from.ensures (pair_told front_view c.in_ok-front.front _ c.in_ok-front.ensures))

pub returns-clause-memory : goal.returns-clause-memory
returns-clause-memory g c honest =
    front_stands (geometry_view c.args.geometry) c.args.half (reads_of (g.D.Device.disk c.args.device.now)) c.in_ok-sector.sector c.area_at-at.result c.requires.allowed
    (let whole = g.met.D.Device.whole c.args.device.now honest in omega (arith, whole.size, c.requires.room)) c.checkpoints_are_read_by_their_fronts.ensures c.area_at-at.ensures (c.in_ok-sector.ensures.read honest)
    (front_view c.in_ok-front.front) c.from.result c.from.ensures (pair_told front_view c.in_ok-front.front _ c.in_ok-front.ensures)
