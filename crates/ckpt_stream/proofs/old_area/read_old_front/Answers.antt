-- A front that is refused, and one that is read.
use Rattle.std.proofs.Common.{◌≡◌, ◌+◌, ◌*◌, ◌∙◌, ap, subst, sym, refl, leb, leb-true, arith}
use Rattle.std.specs.Prelude.{Result, Err}
use Rattle.std.proofs.lemmas.Result.{err_from_is_err_and}
use Rattle.byte_lists.specs.Sectors.{sector_at}
use Rattle.sector_dev.specs.Disk.{reads_of}
use Rattle.store_layout.specs.CheckpointReading.{head_in, rows_size, rows_count}
use Rattle.store_layout.specs.Layout.{area_at}
use Rattle.store_layout.specs.Geometry.{geometry_view}
use Rattle.ckpt_pair.specs.declared.reading.Front.{Front}
use Rattle.store_layout.specs.Limits.{latest}
use Rattle.ckpt_pair.specs.Reading.{front_view, checkpoint_view}
use Rattle.store_open.specs.declared.error.OpenError.{OpenError}
use Rattle.store_open.specs.Refusals.{error_of_pair}
use Rattle.store_open.proofs.Fronts.{pair_told}
use Rattle.store_open.proofs.Checkpoints.{fits_from, front_refused, read_behind}
use Rattle.ckpt_stream.specs.OldArea.{FrontSo}
use Rattle.ckpt_stream.proofs.Fronts.{front_is_none}
use Rattle.ckpt_stream.proofs.old_area.read_old_front.Goals as goal

pub returns-in_err-read_front-clause-front : goal.returns-in_err-read_front-clause-front
returns-in_err-read_front-clause-front g c honest =
    let made = err_from_is_err_and c.from_residual-in_err-read_front.result c.from_residual-in_err-read_front.ensures.1 in
    let e = c.in_err-read_front.field-0.0 in
    let so : c.from_residual-in_err-read_front.result ≡ Err (error_of_pair e) = made.1 ∙ ap (λ (x : OpenError). Err x) made.2 in
    subst (λ (r : Result Front OpenError). FrontSo r (geometry_view c.args.geometry) c.args.half (reads_of (g.D.Device.disk c.args.device.now))) (sym so)
    (front_is_none checkpoint_view e (geometry_view c.args.geometry) c.args.half (reads_of (g.D.Device.disk c.args.device.now))
    (front_refused (geometry_view c.args.geometry) c.args.half (reads_of (g.D.Device.disk c.args.device.now)) c.in_ok-sector.sector c.area_at.result c.requires.allowed
    (let whole = g.met.D.Device.whole c.args.device.now honest in omega (arith, whole.size, c.requires.room)) c.checkpoints_are_read_by_their_fronts.ensures c.area_at.ensures (c.in_ok-sector.ensures.read honest)
    checkpoint_view front_view e c.from.result c.from.ensures c.in_err-read_front.ensures))

pub returns-clause-fits : goal.returns-clause-fits
returns-clause-fits g c =
    let sector = c.in_ok-sector.sector in
    let so = fits_from (head_in latest sector) (leb (32 + rows_size sector) (512 * c.from.result)) (rows_size sector) (rows_count sector) (front_view c.in_ok-read_front.field-0)
    (pair_told front_view c.in_ok-read_front.field-0 _ c.in_ok-read_front.ensures) in
    omega (arith, leb-true (32 + rows_size sector) (512 * c.from.result) so.0, so.1, c.from.ensures)

pub returns-clause-front : goal.returns-clause-front
returns-clause-front g c honest =
    read_behind (geometry_view c.args.geometry) c.args.half (reads_of (g.D.Device.disk c.args.device.now)) c.in_ok-sector.sector (area_at (geometry_view c.args.geometry) c.args.half) c.requires.allowed
    (let whole = g.met.D.Device.whole c.args.device.now honest in omega (arith, whole.size, c.requires.room)) c.checkpoints_are_read_by_their_fronts.ensures refl
    (c.in_ok-sector.ensures.read honest ∙ ap (λ n. sector_at n (reads_of (g.D.Device.disk c.args.device.now))) c.area_at.ensures)
    (front_view c.in_ok-read_front.field-0) c.from.result c.from.ensures (pair_told front_view c.in_ok-read_front.field-0 _ c.in_ok-read_front.ensures)
