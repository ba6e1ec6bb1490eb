use Rattle.std.proofs.Common.{◌+◌, ◌*◌, ◌≤◌, length}
use Rattle.path_db.proofs.ways.shown_in_rounds.Given as goal

abbrev pub invariant-loop-round : goal.invariant-loop-round
invariant-loop-round l = record {
  counted : l.visits.count + 2 * l.first ≤ 2 * l.budget;
  small : 16 * l.budget ≤ 16 * l.first + length l.rows;
}
