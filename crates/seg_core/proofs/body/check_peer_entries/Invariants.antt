use Rattle.std.proofs.Common.{◌≡◌}
use Rattle.pw_wire.specs.Fields.{fields}
use Rattle.seg_core.specs.Steps.{each, result_map}
use Rattle.seg_core.specs.Message.{bytes_fields}
use Rattle.seg_core.specs.Entry.{peer_entry_decoding}
use Rattle.seg_core.proofs.body.check_peer_entries.Given as goal

-- The entries that are left decide the result, since no peer entry was refused.
abbrev pub invariant-loop-peer : goal.invariant-loop-peer
invariant-loop-peer l =
    result_map (λ _. tt {0}) (each peer_entry_decoding (bytes_fields l.peers.field_number (fields l.peers.rest.now)))
    ≡ result_map (λ _. tt {0}) (each peer_entry_decoding (bytes_fields l.peer-iterator.field_number (fields l.peer-iterator.rest.now)))
