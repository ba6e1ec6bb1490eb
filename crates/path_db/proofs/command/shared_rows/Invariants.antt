use Rattle.std.proofs.Common.{◌≡◌, take}
use Rattle.path_db.proofs.command.shared_rows.Given as goal

-- the segments before are shared
abbrev pub invariant-loop-kind : goal.invariant-loop-kind
invariant-loop-kind l = l.copies.items ≡ take l.kind-index l.rows
