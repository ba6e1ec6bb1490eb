-- One more piece, and rows that are refused.
use Rattle.std.proofs.Common.{◌≡◌, ℕ, ◌+◌, ◌-◌, ◌*◌, ◌/◌, ◌∙◌, List, length, ap, subst, sym, arith, Err}
use Rattle.std.proofs.lemmas.List.{length-take-le}
use Rattle.std.proofs.lemmas.Result.{err_from_is_err_and}
use Rattle.byte_lists.specs.Content.{part}
use Rattle.sector_dev.specs.Disk.{History, reads_of}
use Rattle.sector_dev.proofs.Stretches.{keeps_then, honest_after}
use Rattle.store_open.specs.declared.error.OpenError.{OpenError}
use Rattle.store_open.specs.Refusals.{error_of_pair}
use Rattle.store_open.specs.Rows.{FeedsSo}
use Rattle.store_open.proofs.Feeds.{fed_over, buffer_kept, feed_refused}
use Rattle.store_open.proofs.rows.feed_area.Goals as goal

pub pieces-preserved : goal.pieces-preserved
pieces-preserved g c = record {
  keeps = keeps_then _ _ _ c.pieces.invariant.keeps c.in_ok-fill.ensures.looks.keeps;
  faults = c.in_ok-fill.ensures.looks.faults ∙ c.pieces.invariant.faults;
  history = λ honest. c.in_ok-fill.ensures.looks.history (honest_after _ _ c.pieces.invariant.keeps honest) ∙ c.pieces.invariant.history honest;
  from = omega (arith, c.pieces.invariant.from, c.pieces-test.true, c.min-to.ensures, c.min-count.ensures, c.from.ensures);
  to = omega (arith, c.pieces-test.true, c.min-to.ensures);
  buffer = buffer_kept _ _ _ _ (omega (arith, c.pieces.buffer.ok.0)) c.pieces.invariant.buffer;
  read = λ honest. c.in_ok-reader.ensures.fed ∙ fed_over (reads_of (g.D.Device.disk c.args.device.now)) (reads_of (g.D.Device.disk c.pieces.device)) c.pieces.reader c.fill.new.piece
      c.args.area c.pieces.fed c.min-count.result c.min-to.result _ c.pieces.invariant.from
      (omega (arith, c.pieces-test.true, c.min-to.ensures, c.min-count.ensures, c.from.ensures)) (omega (arith, c.min-to.ensures))
      (c.pieces.invariant.read honest) (ap (λ (h : History). h.now.reads) (c.pieces.invariant.history honest))
      (c.in_ok-fill.ensures.read (honest_after _ _ c.pieces.invariant.keeps honest))
      (length-take-le (512 * c.min-count.result) c.deref_mut.result.now (omega (arith, c.min-count.ensures, c.pieces.invariant.buffer, ap (λ (l : List ℕ). length l) c.deref_mut.ensures.value)));
}

pub returns-in_err-reader-clause-rows : goal.returns-in_err-reader-clause-rows
returns-in_err-reader-clause-rows g c honest =
    let made = err_from_is_err_and c.from_residual-in_err-reader.result c.from_residual-in_err-reader.ensures.1 in
    let e = c.in_err-reader.field-0.0 in
    let so : c.from_residual-in_err-reader.result ≡ Err (error_of_pair e) = made.1 ∙ ap (λ (x : OpenError). Err x) made.2 in
    subst (FeedsSo (part (512 * c.args.area + 32) c.args.size (reads_of (g.D.Device.disk c.args.device.now)))) (sym so)
    (feed_refused e _ (512 * c.args.area + 32) (512 * (c.pieces.fed / 512) + c.min-to.result - 32) c.args.size (reads_of (g.D.Device.disk c.args.device.now))
    (omega (arith, c.pieces-test.true, c.min-to.ensures, c.min-count.ensures, c.from.ensures))
    (fed_over (reads_of (g.D.Device.disk c.args.device.now)) (reads_of (g.D.Device.disk c.pieces.device)) c.pieces.reader c.fill.new.piece
    c.args.area c.pieces.fed c.min-count.result c.min-to.result _ c.pieces.invariant.from
    (omega (arith, c.pieces-test.true, c.min-to.ensures, c.min-count.ensures, c.from.ensures)) (omega (arith, c.min-to.ensures))
    (c.pieces.invariant.read honest) (ap (λ (h : History). h.now.reads) (c.pieces.invariant.history honest))
    (c.in_ok-fill.ensures.read (honest_after _ _ c.pieces.invariant.keeps honest))
    (length-take-le (512 * c.min-count.result) c.deref_mut.result.now (omega (arith, c.min-count.ensures, c.pieces.invariant.buffer, ap (λ (l : List ℕ). length l) c.deref_mut.ensures.value))))
    c.in_err-reader.ensures.refused)
