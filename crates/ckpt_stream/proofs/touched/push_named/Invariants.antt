use Rattle.std.proofs.Common.{◌≡◌, ◌++◌, drop}
use Rattle.std.specs.Prelude.{map}
use Rattle.row_map.specs.Database.{key_of}
use Rattle.path_records.specs.Key.{key_bytes}
use Rattle.ckpt_stream.proofs.touched.push_named.Given as goal

-- The keys so far and those of the rows that are left are all of them.
abbrev pub invariant-loop-row : goal.invariant-loop-row
invariant-loop-row l = map key_bytes l.keys.items ++ map key_of (drop l.row-index l.row-items) ≡ map key_bytes l.fn.keys.items ++ map key_of l.row-items
