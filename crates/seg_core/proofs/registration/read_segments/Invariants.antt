use Rattle.std.proofs.Common.{◌≡◌, ◌++◌, length}
use Rattle.pw_wire.specs.Fields.{fields}
use Rattle.seg_core.specs.Steps.{result_map}
use Rattle.seg_core.specs.Message.{bytes_fields}
use Rattle.seg_core.specs.Registration.{segments_decoding, typed_segments}
use Rattle.seg_core.proofs.registration.read_segments.Given as goal

-- The messages that are left, after the segments found before, give the result of all messages.
abbrev pub invariant-loop-message : goal.invariant-loop-message
invariant-loop-message l =
    result_map (λ segments. l.initial.found.items ++ typed_segments l.kind segments)
    (segments_decoding (length l.initial.found.items) (bytes_fields l.messages.field_number (fields l.messages.rest.now)))
    ≡ result_map (λ segments. l.found.items ++ typed_segments l.kind segments)
    (segments_decoding (length l.found.items) (bytes_fields l.message-iterator.field_number (fields l.message-iterator.rest.now)))
