-- The lines of the segments so far were written, and those of the others are the rest.
use Rattle.std.proofs.Common.{drop}
use Rattle.cli_ask.specs.Lines.{segment_lines}
use Rattle.whole_writes.proofs.Fronts.{HasWritten}
use Rattle.cli_ask.proofs.lines.print_segments.Given as goal

abbrev pub invariant-loop-segment : goal.invariant-loop-segment
invariant-loop-segment g l = HasWritten (g.W.Write.contents l.fn.writer) (g.W.Write.contents l.writer) (segment_lines l.form l.kind l.segments) (segment_lines l.form l.kind (drop l.segment-index l.segments))
