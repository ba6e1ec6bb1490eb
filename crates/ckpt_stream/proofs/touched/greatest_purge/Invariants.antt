use Rattle.std.proofs.Common.{◌≡◌, drop, false, if◌then◌else◌}
use Rattle.row_map.specs.Database.{RowView}
use Rattle.ckpt_stream.specs.Merging.{outlives}
use Rattle.ckpt_stream.specs.Planning.{is_beyond}
use Rattle.ckpt_stream.proofs.touched.greatest_purge.Given as goal

-- The purges so far and those that are left are all of them.
abbrev pub invariant-loop-command : goal.invariant-loop-command
invariant-loop-command l = (row : RowView) → (if is_beyond l.greatest row then outlives (drop l.command-index l.commands) row else false) ≡ (if is_beyond l.fn.before row then outlives l.commands row else false)
