-- One more line.
use Rattle.std.proofs.Common.{◌≡◌, ◌+◌, ◌∷◌, drop, ap, ◌∙◌, sym}
use Rattle.std.proofs.lemmas.List.{drop_more}
use Rattle.row_lines.specs.Form.{line_as}
use Rattle.cli_ask.specs.Lines.{segment_lines}
use Rattle.whole_writes.proofs.Fronts.{HasWritten-next}
use Rattle.cli_ask.proofs.lines.print_segments.Goals as goal

pub loop-segment-preserved : goal.loop-segment-preserved
loop-segment-preserved g c =
    let segments = c.args.segments.now in
    let index = c.loop-segment.segment-index in
    let segment = c.segment-item.result in
    let left = drop (index + 1) segments in
    let front : drop index segments ≡ segment ∷ left = drop_more segments index segment c.loop-segment-test.true ∙ ap (λ s. s ∷ left) (sym c.segment-item.is) in
    let line = c.as_bytes.ensures.value ∙ c.in_ok-line.ensures in
    HasWritten-next _ _ _ _ (line_as c.args.form (c.args.kind, segment)) (segment_lines c.args.form c.args.kind left) (rw front at c.loop-segment.invariant) (rw line at c.in_ok-print.ensures)
