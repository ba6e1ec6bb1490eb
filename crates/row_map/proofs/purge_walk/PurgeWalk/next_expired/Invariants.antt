use Rattle.std.proofs.Common.{◌≡◌, ◌≤◌, not}
use Rattle.std.specs.List.{filter}
use Rattle.row_map.specs.Purge.{is_below}
use Rattle.row_map.proofs.Purged.{HasWalked}
use Rattle.row_map.proofs.purge_walk.PurgeWalk.next_expired.Given as goal

abbrev pub invariant-loop-row : goal.invariant-loop-row
invariant-loop-row l = record {
  walked : HasWalked (filter (λ row. not (is_below l.fn.self.from row)) l.rows) l.row-iterator l.fn.self.moment l.least;
  lower : l.least ≤ l.fn.self.least;
  moment : l.self.moment ≡ l.fn.self.moment;
  low : l.self.low ≡ l.fn.self.low;
  high : l.self.high ≡ l.fn.self.high;
}
