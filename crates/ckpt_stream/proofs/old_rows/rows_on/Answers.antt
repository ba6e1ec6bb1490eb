-- All rows are read, or they are refused.
use Rattle.std.proofs.Common.{◌+◌, ◌-◌, ◌*◌, ◌≤◌, ◌∙◌, ap, subst, sym, refl, arith, Err}
use Rattle.std.specs.Prelude.{Result}
use Rattle.std.proofs.lemmas.Result.{err_from_is_err_and}
use Rattle.byte_lists.specs.Content.{part}
use Rattle.sector_dev.specs.Disk.{reads_of}
use Rattle.store_layout.specs.Layout.{area_at}
use Rattle.store_layout.specs.Geometry.{geometry_view}
use Rattle.ckpt_pair.specs.Heads.{head_view}
use Rattle.store_open.specs.declared.error.SealedError.{SealedError}
use Rattle.ckpt_stream.specs.declared.half_read.HalfRead.{HalfRead}
use Rattle.ckpt_stream.specs.HalfRead.{ReadsHalf}
use Rattle.ckpt_stream.proofs.Looks.{stays_same, looks_refused_rows}
use Rattle.ckpt_stream.proofs.OldRows.{rows_refused, rows_all, rows_long, settled_on}
use Rattle.ckpt_stream.proofs.Begun.{rows_none, refused_half}
use Rattle.ckpt_stream.proofs.old_rows.rows_on.Goals as goal

pub returns-in_err-settle_rows-clause-looks : goal.returns-in_err-settle_rows-clause-looks
returns-in_err-settle_rows-clause-looks g c =
    let made = err_from_is_err_and c.from_residual-in_err-settle_rows.result c.from_residual-in_err-settle_rows.ensures.1 in
    looks_refused_rows c.from_residual-in_err-settle_rows.result c.in_err-settle_rows.field-0.0 c.args.rows.note.value c.args.rows.stream (g.D.Device.disk c.args.device.now) (g.D.Device.disk c.args.device.now)
    (made.1 ∙ ap (λ (x : SealedError). Err x) made.2) c.in_err-settle_rows.ensures.refused (stays_same (g.D.Device.disk c.args.device.now))

pub returns-in_err-settle_rows-clause-reads : goal.returns-in_err-settle_rows-clause-reads
returns-in_err-settle_rows-clause-reads g c honest on =
    let made = err_from_is_err_and c.from_residual-in_err-settle_rows.result c.from_residual-in_err-settle_rows.ensures.1 in
    let e = c.in_err-settle_rows.field-0.0 in
    let geometry = geometry_view c.args.geometry in
    let reads = reads_of (g.D.Device.disk c.args.device.now) in
    let rows = c.args.rows in
    subst (λ (r : Result HalfRead SealedError). ReadsHalf geometry c.args.half reads r) (sym (made.1 ∙ ap (λ (x : SealedError). Err x) made.2))
    (refused_half e geometry c.args.half reads
    (rows_none e geometry c.args.half reads (head_view rows.front.head) _ on.front
    (rows_refused e reads rows.note.value (512 * area_at geometry c.args.half + 32) (512 * rows.first - 32) rows.front.size rows.front.count rows.stream on.streamed c.in_err-settle_rows.ensures.refused)))

pub returns-then-rows-sectors_before_end-clause-reads : goal.returns-then-rows-sectors_before_end-clause-reads
returns-then-rows-sectors_before_end-clause-reads g c honest on =
    let geometry = geometry_view c.args.geometry in
    let reads = reads_of (g.D.Device.disk c.args.device.now) in
    let rows = c.args.rows in
    let settled = c.in_ok-settle_rows.field-0 in
    let n = 512 * rows.first - 32 in
    let At = 512 * area_at geometry c.args.half + 32 in
    let inside : c.args.rows.front.size ≤ 512 * c.args.rows.first - 32 = omega (arith, c.if-rows-sectors_before_end.true, c.sectors_before_end.ensures) in
    settled_on geometry c.args.half reads rows settled c.in_ok-settle_rows.ensures.front c.in_ok-settle_rows.ensures.place
    c.in_ok-settle_rows.ensures.after c.in_ok-settle_rows.ensures.sums c.requires.whole.summed on
    (rows_all reads (part At n reads) settled.note.value At n rows.front.size rows.front.count refl inside
    (c.in_ok-settle_rows.ensures.rows (part At n reads) on.streamed
    (rows_long geometry c.args.half reads rows.first rows.front.size (let whole = g.met.D.Device.whole c.args.device.now honest in omega (arith, whole.size, c.requires.room)) c.requires.within
    (c.if-rows-sectors_before_end.true ∙ c.sectors_before_end.ensures))))
