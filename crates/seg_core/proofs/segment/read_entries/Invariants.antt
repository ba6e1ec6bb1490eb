use Rattle.std.proofs.Common.{◌≡◌, ◌+◌, ◌≤◌, ◌++◌, length, Ok}
use Rattle.std.specs.List.{sum_by}
use Rattle.pw_wire.specs.Field.{bytes_field_encoding}
use Rattle.pw_wire.specs.Fields.{fields}
use Rattle.seg_core.specs.declared.format.TheConstants.{MOST_SEGMENT_BYTES}
use Rattle.seg_core.specs.Steps.{◌>>=◌, each}
use Rattle.seg_core.specs.Message.{bytes_fields}
use Rattle.seg_core.specs.Entry.{as_entry_decoding}
use Rattle.seg_core.specs.EntryView.{marked_views}
use Rattle.seg_core.specs.Encoding.{entries_encoding}
use Rattle.seg_core.proofs.PiecesKept.{AllWithin}
use Rattle.seg_core.proofs.segment.read_entries.Given as goal

-- The messages that were read and those that are left are all of them; the entries read were put,
-- and there is room for the others.
abbrev pub invariant-loop-message : goal.invariant-loop-message
invariant-loop-message l = record {
  decoding :
      each as_entry_decoding (bytes_fields l.messages.field_number (fields l.messages.rest.now))
      ≡ (each as_entry_decoding (bytes_fields l.message-iterator.field_number (fields l.message-iterator.rest.now)) >>= λ others. Ok (marked_views l.out.items l.marked.items ++ others));
  put : l.out.items ≡ l.fn.out.items ++ entries_encoding (marked_views l.out.items l.marked.items);
  within : AllWithin l.out.items l.marked.items;
  room : length l.out.items + sum_by (λ t. length (bytes_field_encoding 2 t)) (bytes_fields l.message-iterator.field_number (fields l.message-iterator.rest.now)) ≤ MOST_SEGMENT_BYTES;
}
