-- The rows that came are bounded.
use Rattle.row_map.proofs.Lowered.{HasLowered}
use Rattle.row_map.proofs.expiry_bounds.ExpiryBounds.lower_for.Given as goal

abbrev pub invariant-loop-row : goal.invariant-loop-row
invariant-loop-row l = HasLowered l.fn.rows l.row-iterator l.self
