-- One more piece, and each way out.
use Rattle.std.proofs.Common.{◌≡◌, ℕ, ◌+◌, ◌-◌, ◌*◌, ◌<◌, ◌≤◌, ◌∙◌, List, ◌++◌, length, take, drop, ap, subst, refl, arith, Err, length-append}
use Rattle.std.proofs.lemmas.Result.{err_from_is_err_and}
use Rattle.std.proofs.lemmas.List.{with_items_is}
use Rattle.byte_lists.specs.Content.{part}
use Rattle.sector_dev.specs.Disk.{reads_of}
use Rattle.ckpt_pair.specs.Stream.{HasStreamed}
use Rattle.store_open.specs.declared.error.OpenError.{OpenError}
use Rattle.byte_lists.proofs.Contents.{length-part}
use Rattle.ckpt_stream.specs.Sums.{sums_in}
use Rattle.ckpt_stream.specs.OldRows.{AreStreamed, AreSummedOn}
use Rattle.ckpt_stream.proofs.SectorSums.{sums_length, window_sums, more_summed}
use Rattle.ckpt_stream.proofs.Looks.{stays_at, looks_device, looks_memory, looks_seen}
use Rattle.ckpt_stream.proofs.Rewrites.{on_ok}
use Rattle.ckpt_stream.proofs.OldRows.{pushed_more, pushed_long, on_both, goes_on, if_refused}
use Rattle.ckpt_stream.proofs.old_rows.read_row_sectors.Goals as goal

pub returns-in_err-read_sectors-clause-looks : goal.returns-in_err-read_sectors-clause-looks
returns-in_err-read_sectors-clause-looks g c =
    let made = err_from_is_err_and c.from_residual-in_err-read_sectors.result c.from_residual-in_err-read_sectors.ensures.1 in
    looks_device c.from_residual-in_err-read_sectors.result _ (g.D.Device.disk c.args.device.now) (g.D.Device.disk c.read_sectors.new.device)
    (made.1 ∙ ap (λ (x : OpenError). Err x) made.2) c.in_err-read_sectors.ensures.looks

pub returns-in_err-push-clause-looks : goal.returns-in_err-push-clause-looks
returns-in_err-push-clause-looks g c =
    let made = err_from_is_err_and c.from_residual-in_err-push.result c.from_residual-in_err-push.ensures.1 in
    looks_memory c.from_residual-in_err-push.result (g.D.Device.disk c.args.device.now) (g.D.Device.disk c.read_sectors.new.device)
    (made.1 ∙ ap (λ (x : OpenError). Err x) made.2) (stays_at _ _ _ c.in_ok-read_sectors.ensures.looks)

pub returns-in_err-push_sums-clause-looks : goal.returns-in_err-push_sums-clause-looks
returns-in_err-push_sums-clause-looks g c =
    let made = err_from_is_err_and c.from_residual-in_err-push_sums.result c.from_residual-in_err-push_sums.ensures.1 in
    looks_memory c.from_residual-in_err-push_sums.result (g.D.Device.disk c.args.device.now) (g.D.Device.disk c.read_sectors.new.device)
    (made.1 ∙ ap (λ (x : OpenError). Err x) made.2) (stays_at _ _ _ c.in_ok-read_sectors.ensures.looks)

pub returns-clause-summed : goal.returns-clause-summed
returns-clause-summed g c honest was =
    let rows = c.args.rows.now in
    let reads = reads_of (g.D.Device.disk c.args.device.now) in
    let whole = g.met.D.Device.whole c.args.device.now honest in
    let before = part (512 * c.args.area + 32) rows.front.size reads in
    let long : length (part (512 * c.args.area + 32) c.args.rows.now.front.size (reads_of (g.D.Device.disk c.args.device.now))) ≡ c.args.rows.now.front.size =
    length-part (512 * c.args.area + 32) rows.front.size reads (omega (arith, whole.size, c.requires.room)) in
    let shown : c.deref.result.now ≡ c.read_sectors.new.window =
    c.deref.ensures.value ∙ with_items_is c.in_ok-window.window c.read_sectors.new.window (omega (arith, c.in_ok-read_sectors.ensures.window, c.in_ok-window.ensures.len, c.deref_mut.ensures.len)) in
    on_ok (AreSummedOn c.args.area reads
    (record { front = rows.front; journal = rows.journal; named = rows.named; planner = c.see_rows.new.planner; stream = c.see_rows.new.stream; note = c.see_rows.new.note; sums = c.push_sums.new.sums; first = rows.first + c.min-count.result }))
    c.see_rows.result
    (c.in_ok-push_sums.ensures
    ∙ more_summed rows.first c.min-count.result rows.sums.items before c.row_part-part.result.now c.requires.read.summed was
    (window_sums rows.first c.min-count.result rows.front.size before c.row_part-part.result.now long c.row_part-part.ensures.len
    (c.row_part-part.ensures.shown c.args.area reads (ap (take (512 * c.min-count.result)) shown ∙ c.in_ok-read_sectors.ensures.read honest))))

pub returns-clause-looks : goal.returns-clause-looks
returns-clause-looks g c =
    looks_seen c.see_rows.result c.args.rows.now.note.value c.push.new.self (g.D.Device.disk c.args.device.now) (g.D.Device.disk c.read_sectors.new.device)
    c.see_rows.ensures.refused (stays_at _ _ _ c.in_ok-read_sectors.ensures.looks)

pub returns-clause-further : goal.returns-clause-further
returns-clause-further g c =
    on_ok (c.args.rows.now.first < c.args.rows.now.first + c.min-count.result) c.see_rows.result
    (omega (arith, c.min-count.ensures, c.sectors_before_end.ensures, c.requires.more))

pub returns-clause-read : goal.returns-clause-read
returns-clause-read g c =
    let rows = c.args.rows.now in
    let read = c.requires.read in
    let low : 32 - c.min-start.result ≤ 32 = omega arith in
    let some : 1 ≤ c.min-count.result = omega (arith, c.min-count.ensures, c.sectors_before_end.ensures, c.requires.more) in
    let from : 512 * c.args.rows.now.first + (32 - c.min-start.result) ≡ 32 + (512 * c.args.rows.now.first - 32) = omega (arith, c.min-start.ensures) in
    let shown : c.deref-2.result.now ≡ c.read_sectors.new.window =
    c.deref-2.ensures.value ∙ with_items_is c.in_ok-window.window c.read_sectors.new.window (omega (arith, c.in_ok-read_sectors.ensures.window, c.in_ok-window.ensures.len, c.deref_mut.ensures.len)) in
    let pushed = read.pushed ++ take (512 * c.min-count.result - (32 - c.min-start.result)) (drop (32 - c.min-start.result) c.deref-2.result.now) in
    let before = c.in_ok-push.ensures.pushed rows.front.size rows.front.count read.pushed rows.note.value read.streamed in
    on_both _ _ _ c.see_rows.result c.see_rows.ensures.seen c.see_rows.ensures.streamed (λ seen streamed. record {
      seen = seen (take rows.named rows.journal.commands.items) read.seen;
      named = read.named;
      fresh = λ less. absurd (omega (arith, less, c.requires.named));
      pushed = pushed;
      long = pushed_long read.pushed c.deref-2.result.now rows.first c.min-count.result (32 - c.min-start.result) read.long low some from
          (omega (arith, c.min-count.ensures, ap length shown, c.in_ok-read_sectors.ensures.window, c.in_ok-window.ensures.len, c.deref_mut.ensures.len));
      streamed = streamed rows.front.size rows.front.count pushed before;
      summed = omega (arith, ap length c.in_ok-push_sums.ensures, length-append rows.sums.items (sums_in c.min-count.result rows.first c.row_part-part.result.now), sums_length c.min-count.result rows.first c.row_part-part.result.now, read.summed);
      inside = omega (arith, c.min-count.ensures, c.sectors_before_end.ensures, c.requires.more);
    })

pub returns-clause-streamed : goal.returns-clause-streamed
returns-clause-streamed g c honest =
    let rows = c.args.rows.now in
    let reads = reads_of (g.D.Device.disk c.args.device.now) in
    let At = 512 * c.args.area + 32 in
    let low : 32 - c.min-start.result ≤ 32 = omega arith in
    let some : 1 ≤ c.min-count.result = omega (arith, c.min-count.ensures, c.sectors_before_end.ensures, c.requires.more) in
    let from : 512 * c.args.rows.now.first + (32 - c.min-start.result) ≡ 32 + (512 * c.args.rows.now.first - 32) = omega (arith, c.min-start.ensures) in
    let shown : c.deref-2.result.now ≡ c.read_sectors.new.window =
    c.deref-2.ensures.value ∙ with_items_is c.in_ok-window.window c.read_sectors.new.window (omega (arith, c.in_ok-read_sectors.ensures.window, c.in_ok-window.ensures.len, c.deref_mut.ensures.len)) in
    let bytes = pushed_more reads reads (part At (512 * rows.first - 32) reads) c.deref-2.result.now c.args.area rows.first c.min-count.result (32 - c.min-start.result) low some from
    refl refl (ap (take (512 * c.min-count.result)) shown ∙ c.in_ok-read_sectors.ensures.read honest) in
    let after : AreStreamed c.args.area (reads_of (g.D.Device.disk c.args.device.now)) c.args.rows.now
    → HasStreamed c.args.rows.now.front.size c.args.rows.now.front.count (part (512 * c.args.area + 32) (512 * (c.args.rows.now.first + c.min-count.result) - 32) (reads_of (g.D.Device.disk c.args.device.now)))
    c.args.rows.now.note.value c.push.new.self =
    λ streamed. subst (λ (l : List ℕ). HasStreamed c.args.rows.now.front.size c.args.rows.now.front.count l c.args.rows.now.note.value c.push.new.self) bytes
    (c.in_ok-push.ensures.pushed rows.front.size rows.front.count (part At (512 * rows.first - 32) reads) rows.note.value streamed) in
    goes_on c.args.area reads rows
    (record { front = rows.front; journal = rows.journal; named = rows.named; planner = c.see_rows.new.planner; stream = c.see_rows.new.stream; note = c.see_rows.new.note; sums = c.push_sums.new.sums; first = rows.first + c.min-count.result })
    c.see_rows.result
    (λ streamed. on_both _ _ _ c.see_rows.result c.see_rows.ensures.streamed c.see_rows.ensures.streamed
    (λ more again. more rows.front.size rows.front.count (part At (512 * (rows.first + c.min-count.result) - 32) reads) (after streamed)))
    (λ streamed. if_refused c.see_rows.result reads rows.note.value At (512 * (rows.first + c.min-count.result) - 32) rows.front.size rows.front.count c.push.new.self (after streamed) c.see_rows.ensures.refused)
