use Rattle.std.proofs.Common.{◌≡◌, ◌++◌, drop}
use Rattle.std.specs.Prelude.{map}
use Rattle.ckpt_stream.specs.Merging.{keys_named_by}
use Rattle.path_records.specs.Key.{key_bytes}
use Rattle.ckpt_stream.proofs.touched.push_all_named.Given as goal

-- The keys so far and those of the commands that are left are all of them.
abbrev pub invariant-loop-command : goal.invariant-loop-command
invariant-loop-command l = map key_bytes l.keys.items ++ keys_named_by (drop l.command-index l.commands) ≡ map key_bytes l.fn.keys.items ++ keys_named_by l.commands
