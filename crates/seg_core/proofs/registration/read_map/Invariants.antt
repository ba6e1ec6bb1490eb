use Rattle.pw_wire.specs.Fields.{fields}
use Rattle.seg_core.specs.Message.{bytes_fields}
use Rattle.seg_core.proofs.Rows.{Found}
use Rattle.seg_core.proofs.registration.read_map.Given as goal

abbrev pub invariant-loop-message : goal.invariant-loop-message
invariant-loop-message l =
    Found (bytes_fields l.messages.field_number (fields l.messages.rest.now)) (bytes_fields l.message-iterator.field_number (fields l.message-iterator.rest.now)) l.found.items l.earlier
