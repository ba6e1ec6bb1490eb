use Rattle.std.proofs.Common.{◌≡◌, ◌+◌, ◌≤◌, length}
use Rattle.pw_wire.specs.Fields.{fields}
use Rattle.seg_core.specs.Message.{bytes_fields}
use Rattle.seg_core.proofs.outline.is_entry_count.Given as goal

-- The messages that were counted and those that are left are all of them.
abbrev pub invariant-loop-message : goal.invariant-loop-message
invariant-loop-message l =
    (l.count + length (bytes_fields l._message-iterator.field_number (fields l._message-iterator.rest.now))
    ≡ length (bytes_fields l.messages.field_number (fields l.messages.rest.now)))
    × (l.count ≤ 64)
