-- Rests of a second at least: for `Pace::rest`.
use Rattle.std.proofs.Common.{◌≡◌, ◌≤◌, ◌/◌, ℕ, arith}
use Rattle.std.proofs.lemmas.Nat.{le-div}
use Rattle.path_server.specs.Pacing.{most_parts}

-- a period that is cut into no more parts than it has seconds
pub second_at_least : (period most parts : ℕ) → most ≡ most_parts period → 1 ≤ parts → parts ≤ most → 1_000_000_000 ≤ period → 1_000_000_000 ≤ period / parts
unfolding most_parts
second_at_least period most parts seconds some few long = le-div 1_000_000_000 period parts (omega arith) (omega arith)
