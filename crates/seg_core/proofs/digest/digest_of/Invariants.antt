use Rattle.std.proofs.Common.{take}
use Rattle.std.specs.List.{flat_map}
use Rattle.sha2.specs.Hashers.{Holds256}
use Rattle.seg_core.specs.EntryView.{entry_view}
use Rattle.seg_core.specs.Digest.{hop_bytes}
use Rattle.seg_core.proofs.digest.digest_of.Given as goal

-- The hasher has the bytes of the hops until now.
abbrev pub invariant-loop-entry : goal.invariant-loop-entry
invariant-loop-entry l = Holds256 l.hasher (flat_map (λ e. hop_bytes (entry_view e)) (take l.entry-index l.entries))
