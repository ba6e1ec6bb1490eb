use Rattle.std.proofs.Common.{◌≡◌, ◌+◌, ◌≤◌, drop}
use Rattle.std.specs.Prelude.{min}
use Rattle.ckpt_stream.specs.Edits.{bytes_kept}
use Rattle.ckpt_stream.proofs.plan.kept_bytes.Given as goal

-- The bytes so far and those of the edits that are left are all of them.
abbrev pub invariant-loop-edit : goal.invariant-loop-edit
invariant-loop-edit l = record {
  sum : min (l.size + bytes_kept (drop l.edit-index l.edits)) 18446744073709551615 ≡ min (bytes_kept l.edits) 18446744073709551615;
  fits : l.size ≤ 18446744073709551615;
}
