-- A plan that does not fit, and a merge that is begun.
use Rattle.std.proofs.Common.{◌≡◌, ◌+◌, ◌-◌, ◌*◌, ◌<◌, ◌^◌, ◌∙◌, ℕ, length, min, ap, subst, arith, Err, List, sym}
use Rattle.std.proofs.lemmas.List.{with_items_is}
use Rattle.std.proofs.lemmas.Result.{err_from_is_err_and}
use Rattle.byte_lists.specs.Content.{part}
use Rattle.sector_dev.specs.Disk.{reads_of}
use Rattle.row_map.specs.Database.{RowView, IsDatabase, rows_len}
use Rattle.store_layout.specs.Layout.{area_at}
use Rattle.store_layout.specs.Geometry.{geometry_view}
use Rattle.ckpt_pair.specs.Heads.{head_view}
use Rattle.ckpt_stream.specs.Rewriting.{untaken}
use Rattle.store_open.specs.declared.error.SealedError.{SealedError}
use Rattle.ckpt_stream.proofs.Looks.{stays_same, stays_piece, stays_damaged, fault_piece, looks_ok, looks_damaged, looks_refused}
use Rattle.ckpt_stream.specs.Sums.{AreSummed}
use Rattle.ckpt_stream.proofs.Rewrites.{not_cut}
use Rattle.ckpt_stream.proofs.Begun.{half_read, large_merges, area_room, sectors_len, begun}
use Rattle.ckpt_stream.proofs.beginning.merge_of.Goals as goal

pub returns-then-plan-area_room-clause-looks : goal.returns-then-plan-area_room-clause-looks
returns-then-plan-area_room-clause-looks g c =
    looks_damaged (g.D.Device.disk c.args.device.now) (g.D.Device.disk c.args.device.now) (stays_same (g.D.Device.disk c.args.device.now))

pub returns-then-plan-area_room-clause-merges : goal.returns-then-plan-area_room-clause-merges
returns-then-plan-area_room-clause-merges g c =
    let disk = g.D.Device.disk c.args.device.now in
    let geometry = geometry_view c.args.geometry in
    let planned = c.args.planned in
    large_merges geometry c.args.half c.args.epoch disk
    (record { head = head_view planned.front.head; place = planned.place; rows = planned.after.value }) planned.plan.size
    (λ honest.
    let on = c.requires.reads honest in
    half_read geometry c.args.half (reads_of disk) (head_view planned.front.head) _ planned.note.value on.reading planned.place planned.after.value on.front on.rows on.scanned on.sealed on.place on.after)
    (c.requires.planned.plan.size ∙ sym (ap (λ (l : List RowView). min (rows_len l) (2 ^ 64 - 1)) c.requires.planned.all.after)) (omega (arith, c.if-plan-area_room.true, c.area_room.ensures))

pub returns-in_err-rewrite-clause-looks : goal.returns-in_err-rewrite-clause-looks
returns-in_err-rewrite-clause-looks g c =
    let made = err_from_is_err_and c.from_residual-in_err-rewrite.result c.from_residual-in_err-rewrite.ensures.1 in
    looks_refused c.from_residual-in_err-rewrite.result (g.D.Device.disk c.args.device.now) (g.D.Device.disk c.args.device.now) (made.1 ∙ ap (λ (x : SealedError). Err x) made.2)
    (stays_same (g.D.Device.disk c.args.device.now))

pub make_piece-requires-clause-room : goal.make_piece-requires-clause-room
make_piece-requires-clause-room g c =
    area_room (geometry_view c.args.geometry) c.args.half c.area_at-area.result c.args.planned.front.size (g.D.Device.disk c.args.device.now).sectors c.area_at-area.ensures c.requires.fits c.requires.room

pub invariant_of-result : goal.invariant_of-result
invariant_of-result g c =
    let planned = c.args.planned in
    let plan = c.requires.planned.plan in
    let fits : c.args.planned.plan.size < 2 ^ 32 = omega (arith, c.if-plan-area_room.false, c.area_room.ensures, c.requires.allowed.most_checkpoint) in
    let size = not_cut (rows_len planned.after.value) planned.plan.size (plan.size ∙ sym (ap (λ (l : List RowView). min (rows_len l) (2 ^ 64 - 1)) c.requires.planned.all.after)) fits in
    record {
      window =
          ap length (with_items_is c.in_ok-window.window c.make_piece.new.window (omega (arith, c.in-Ok.ensures.window, c.in_ok-window.ensures.len))) ∙ c.in-Ok.ensures.window;
      sectors = sectors_len c.args.epoch planned.place planned.after.value c.sector_count-sectors.result
          (c.sector_count-sectors.ensures ∙ omega (arith, size));
      end = c.in-Ok.ensures.end;
      summed = c.requires.planned.all.summed;
    }

pub returns-in-Ok-clause-looks : goal.returns-in-Ok-clause-looks
returns-in-Ok-clause-looks g c =
    looks_ok _ (g.D.Device.disk c.args.device.now) (g.D.Device.disk c.make_piece.new.device) (stays_piece _ _ c.in-Ok.ensures.looks)

pub returns-in-Ok-clause-merges : goal.returns-in-Ok-clause-merges
returns-in-Ok-clause-merges g c =
    let disk = g.D.Device.disk c.args.device.now in
    let geometry = geometry_view c.args.geometry in
    let planned = c.args.planned in
    let front = planned.front in
    let rows = planned.note.value in
    let all = c.requires.planned.all in
    let commands = c.requires.planned.commands in
    let at = 512 * area_at (geometry_view c.args.geometry) c.args.half + 32 in
    let plan = c.requires.planned.plan in
    let small : c.args.planned.plan.size < 2 ^ 32 = omega (arith, c.if-plan-area_room.false, c.area_room.ensures, c.requires.allowed.most_checkpoint) in
    let size = not_cut (rows_len planned.after.value) planned.plan.size (plan.size ∙ sym (ap (λ (l : List RowView). min (rows_len l) (2 ^ 64 - 1)) all.after)) small in
    begun geometry c.args.half c.args.epoch disk (head_view front.head) at front.size front.count rows planned.after.value planned.place commands c.in_ok-rewrite.rewrite c.make_piece.new.rewrite planned.sums.items
    (λ honest. (c.requires.reads honest).front) (λ honest. (c.requires.reads honest).rows)
    (λ honest. (g.met.D.Device.whole c.args.device.now honest).bytes)
    all.after (c.in_ok-rewrite.ensures.rewritten rows commands plan)
    (λ honest.
    subst (λ (n : ℕ). untaken c.make_piece.new.rewrite (part (512 * n + 32) front.size (reads_of disk)) ≡ untaken c.in_ok-rewrite.rewrite (part (512 * n + 32) front.size (reads_of disk))) c.area_at-area.ensures
    (c.in-Ok.ensures.made.same honest))
    (λ honest. (c.requires.reads honest).summed)
    all.size
    (λ honest.
    let on = c.requires.reads honest in
    half_read geometry c.args.half (reads_of disk) (head_view front.head) _ rows on.reading planned.place planned.after.value on.front on.rows on.scanned on.sealed on.place on.after)
    (c.in_ok-rewrite.ensures.can planned.after.value (subst IsDatabase (sym all.after) plan.database) (omega (arith, size, small)))
    (omega (arith, size, c.if-plan-area_room.false, c.area_room.ensures, c.requires.allowed.least_checkpoint)) c.requires.fits
    c.in-Ok.ensures.made.len c.in-Ok.ensures.ready

pub returns-in-Err-Fault-clause-looks : goal.returns-in-Err-Fault-clause-looks
returns-in-Err-Fault-clause-looks g c =
    fault_piece c.in-Err-Fault.field-0 (g.D.Device.disk c.args.device.now) (g.D.Device.disk c.make_piece.new.device) c.in-Err-Fault.field-0-is c.in-Err-Fault.ensures.looks

pub returns-clause-looks : goal.returns-clause-looks
returns-clause-looks g c =
    looks_damaged (g.D.Device.disk c.args.device.now) (g.D.Device.disk c.make_piece.new.device)
    (stays_damaged c.in-Err-Damaged.field-0 (g.D.Device.disk c.args.device.now) (g.D.Device.disk c.make_piece.new.device) c.in-Err-Damaged.field-0-is c.in-Err-Damaged.ensures.looks)

pub returns-clause-merges : goal.returns-clause-merges
returns-clause-merges g c honest sealed is fits =
    let reads = reads_of (g.D.Device.disk c.args.device.now) in
    let on = c.requires.reads honest in
    c.in-Err-Damaged.ensures.damaged c.in-Err-Damaged.field-0-is honest
    (subst (λ (l : List ℕ). AreSummed l (part (512 * c.area_at-area.result + 32) c.args.planned.front.size reads)) (sym c.deref.ensures.value)
    (subst (λ (n : ℕ). AreSummed c.args.planned.sums.items (part (512 * n + 32) c.args.planned.front.size reads)) (sym c.area_at-area.ensures) on.summed))

pub make_piece-requires-clause-end : goal.make_piece-requires-clause-end
make_piece-requires-clause-end g c =
    (c.in_ok-rewrite.ensures.rewritten c.args.planned.note.value c.requires.planned.commands c.requires.planned.plan).end ∙ c.requires.planned.all.size
