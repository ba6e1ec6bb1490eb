-- A preparation that is read on, and a half that is refused.
use Rattle.std.proofs.Common.{◌*◌, ◌≤◌, ◌∙◌, length, ap, subst, sym, arith, Err}
use Rattle.std.proofs.lemmas.Result.{err_from_is_err_and}
use Rattle.sector_dev.specs.Disk.{reads_of}
use Rattle.store_layout.specs.Layout.{image_sectors}
use Rattle.store_layout.specs.Geometry.{geometry_view}
use Rattle.store_open.specs.declared.error.SealedError.{SealedError}
use Rattle.ckpt_stream.specs.declared.half_read.HalfRead.{HalfRead}
use Rattle.ckpt_stream.specs.HalfRead.{IsReadOn, RefusesHalf}
use Rattle.ckpt_stream.specs.Preparation.{PreparationView, IsPreparedFrom}
use Rattle.ckpt_stream.proofs.Contents.{read_on_half, read_of_contents, is_sealed}
use Rattle.ckpt_stream.proofs.Prepared.{if_damaged}
use Rattle.ckpt_stream.proofs.preparation.Preparation.read_on.Goals as goal

pub returns-in_err-self-inside-clause-damaged : goal.returns-in_err-self-inside-clause-damaged
returns-in_err-self-inside-clause-damaged g c =
    let made = err_from_is_err_and c.from_residual.result c.from_residual.ensures.1 in
    let e = c.in_err-self-inside.field-0.0 in
    let geometry = geometry_view c.args.geometry in
    let reads = reads_of (g.D.Device.disk c.args.device.now) in
    if_damaged c.from_residual.result e (made.1 ∙ ap (λ (x : SealedError). Err x) made.2) _ (λ damaged honest contents has from.
    let whole = g.met.D.Device.whole c.args.device.now honest in
    let room : 512 * image_sectors (geometry_view c.args.geometry) ≤ length (reads_of (g.D.Device.disk c.args.device.now)) = omega (arith, whole.size, c.requires.room) in
    let before = subst (λ (p : PreparationView). IsPreparedFrom geometry contents p) (sym c.self.view_is) from in
    let on = subst (λ (r : HalfRead). IsReadOn geometry c.args.half reads r) (sym c.replace-read.ensures.value)
    (read_on_half geometry c.args.half reads c.requires.allowed whole.bytes room contents has c.self.inside.read c.self.invariant before.from) in
    is_sealed geometry c.args.half reads c.requires.allowed whole.bytes room contents has
    (subst (λ (x : SealedError). RefusesHalf geometry c.args.half reads x) damaged (c.in_err-self-inside.ensures.reads honest on)))

pub returns-clause-from : goal.returns-clause-from
returns-clause-from g c honest contents has from =
    let geometry = geometry_view c.args.geometry in
    let reads = reads_of (g.D.Device.disk c.args.device.now) in
    let whole = g.met.D.Device.whole c.args.device.now honest in
    let room : 512 * image_sectors (geometry_view c.args.geometry) ≤ length (reads_of (g.D.Device.disk c.args.device.now)) = omega (arith, whole.size, c.requires.room) in
    let before = subst (λ (p : PreparationView). IsPreparedFrom geometry contents p) (sym c.self.view_is) from in
    let on = subst (λ (r : HalfRead). IsReadOn geometry c.args.half reads r) (sym c.replace-read.ensures.value)
    (read_on_half geometry c.args.half reads c.requires.allowed whole.bytes room contents has c.self.inside.read c.self.invariant before.from) in
    let next = c.in_ok-self-inside.field-0 in
    record {
      within = c.in_ok-self-inside.ensures.within;
      from = read_of_contents geometry c.args.half reads c.requires.allowed whole.bytes room contents has next c.in_ok-self-inside.ensures.whole c.in_ok-self-inside.ensures.within
          (c.in_ok-self-inside.ensures.reads honest on);
    }
