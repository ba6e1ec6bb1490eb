-- Reading the entry of one AS, beginning with its hop field.
use Rattle.std.specs.Prelude.{ℕ, List, ◌==◌, not, length, Result, Ok, ◌^◌, ◌-◌}
use Rattle.isd_as.specs.IsdAs.{has_zero_part}
use Rattle.seg_core.specs.declared.error.SegError.{SegError}
use Rattle.seg_core.specs.declared.error.SegError.TheVariants.{Range}
use Rattle.seg_core.specs.declared.hop.Hop.{Hop}
use Rattle.seg_core.specs.declared.body.Body.{Body}
use Rattle.seg_core.specs.Shapes.{hop_field_shape, hop_entry_shape, peer_entry_shape, body_shape, header_and_body_shape, signed_message_shape, as_entry_shape}
use Rattle.seg_core.specs.Steps.{◌>>=◌, must_hold, at_most, each}
use Rattle.seg_core.specs.Message.{message_fields, required_message, number_field, last_bytes_field, bytes_fields, bytes_field_or_empty}
use Rattle.seg_core.specs.SegmentView.{EntryView}

-- A hop field: where a segment enters and leaves an AS, and how long the hop field is valid.
unfoldable pub hop_field_decoding : List ℕ → Result Hop SegError
hop_field_decoding message = do
  fs ← message_fields hop_field_shape message
  ingress ← at_most (2 ^ 16 - 1) (number_field 1 fs)
  egress ← at_most (2 ^ 16 - 1) (number_field 2 fs)
  exp_time ← at_most (2 ^ 8 - 1) (number_field 3 fs)
  _ ← must_hold (length (bytes_field_or_empty 4 fs) == 6) Range
  Ok (record { ingress = ingress; egress = egress; exp_time = exp_time })

-- A hop entry: its hop field, and an MTU, which is not kept.
unfoldable pub hop_entry_decoding : List ℕ → Result Hop SegError
hop_entry_decoding message = do
  fs ← message_fields hop_entry_shape message
  hop_field ← required_message 1 fs
  _ ← at_most (2 ^ 32 - 1) (number_field 2 fs)
  hop_field_decoding hop_field

-- A peer entry: its hop field, and numbers, which are not kept.
unfoldable pub peer_entry_decoding : List ℕ → Result Hop SegError
peer_entry_decoding message = do
  fs ← message_fields peer_entry_shape message
  hop_field ← required_message 4 fs
  _ ← at_most (2 ^ 32 - 1) (number_field 3 fs)
  hop_field_decoding hop_field

-- The numbers in the signed body of an entry.
unfoldable pub body_decoding : List ℕ → Result Body SegError
body_decoding message = do
  fs ← message_fields body_shape message
  hop_entry ← required_message 3 fs
  _ ← must_hold (not (has_zero_part (number_field 1 fs))) Range
  _ ← at_most (2 ^ 32 - 1) (number_field 5 fs)
  hop ← hop_entry_decoding hop_entry
  _ ← each peer_entry_decoding (bytes_fields 4 fs)
  Ok (record { ia = number_field 1 fs; next = number_field 2 fs; hop = hop })

-- A header, which is kept but not read, and a body.
unfoldable pub header_and_body_decoding : List ℕ → Result Body SegError
header_and_body_decoding message = do
  fs ← message_fields header_and_body_shape message
  body_decoding (bytes_field_or_empty 2 fs)

-- An entry: a signed message, and extensions that are not signed, which are kept but not read.
unfoldable pub as_entry_decoding : List ℕ → Result EntryView SegError
as_entry_decoding message = do
  fs ← message_fields as_entry_shape message
  signed_message ← required_message 1 fs
  parts ← message_fields signed_message_shape signed_message
  body ← header_and_body_decoding (bytes_field_or_empty 1 parts)
  Ok (record {
    ia = body.ia;
    next = body.next;
    ingress = body.hop.ingress;
    egress = body.hop.egress;
    exp_time = body.hop.exp_time;
    signed = bytes_field_or_empty 1 parts;
    signature = bytes_field_or_empty 2 parts;
    unsigned = last_bytes_field 2 fs;
  })
