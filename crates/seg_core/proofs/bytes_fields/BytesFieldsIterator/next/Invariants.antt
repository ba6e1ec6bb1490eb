use Rattle.std.proofs.Common.{◌≡◌, length, ◌≤◌}
use Rattle.pw_wire.specs.Fields.{fields}
use Rattle.seg_core.specs.Message.{bytes_fields}
use Rattle.seg_core.proofs.bytes_fields.BytesFieldsIterator.next.Given as goal

-- None of the fields that were skipped has this number and bytes.
abbrev pub invariant-loop-field : goal.invariant-loop-field
invariant-loop-field l = record {
  number : l.self.field_number ≡ l.initial.self.field_number;
  shorter : length l.self.rest.now ≤ length l.initial.self.rest.now;
  same : bytes_fields l.self.field_number (fields l.self.rest.now) ≡ bytes_fields l.initial.self.field_number (fields l.initial.self.rest.now);
}

abbrev pub decreases-loop-field : goal.decreases-loop-field
decreases-loop-field l = length l.self.rest.now
