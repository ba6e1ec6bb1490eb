use Rattle.std.proofs.Common.{drop}
use Rattle.std.specs.Prelude.{map}
use Rattle.path_records.specs.Key.{key_bytes}
use Rattle.ckpt_stream.specs.Merging.{KeysRise}
use Rattle.ckpt_stream.proofs.Touches.{IsMerging}
use Rattle.ckpt_stream.proofs.touched.merged.Given as goal

-- The keys so far, the rest of those before and the new ones that are left are to be merged.
abbrev pub invariant-loop-key : goal.invariant-loop-key
invariant-loop-key l = KeysRise (map key_bytes l.before) → IsMerging (map key_bytes l.before) (map key_bytes l.new) (map key_bytes l.keys.items) (map key_bytes l.rest) (map key_bytes (drop l.key-index l.new))
