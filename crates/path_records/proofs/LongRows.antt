-- Rows that are too long: for `row_cursor`.
use Rattle.std.proofs.Common.{◌≡◌, ℕ, ◌+◌, ◌<◌, ◌≤◌, Bool, true, false, List, ◌++◌, length, refl, sym, ap, ◌∙◌, arith, append_assoc, drop, Ok, Err}
use Rattle.std.proofs.lemmas.Bool.{lt-leb}
use Rattle.std.specs.Prelude.{Result, slice_index}
use Rattle.std.specs.Int.{w32, from_be_bytes}
use Rattle.std.proofs.lemmas.List.{length-append, length-take, length-drop}
use Rattle.byte_lists.specs.Content.{part}
use Rattle.byte_lists.specs.Numbers.{four_at}
use Rattle.seg_core.specs.declared.error.SegError.{SegError}
use Rattle.seg_core.specs.declared.error.SegError.TheVariants.{TooLarge}
use Rattle.seg_core.specs.declared.seg_type.SegType.{SegType}
use Rattle.seg_core.specs.Registration.{type_of}
use Rattle.seg_core.specs.Segment.{segment_outline, segment_decoding}
use Rattle.row_map.specs.Database.{RowView, IsDatabase}
use Rattle.path_records.specs.declared.error.DbError.{DbError}
use Rattle.path_records.specs.declared.error.DbError.TheVariants.{BadRecord}
use Rattle.path_records.specs.RecordSteps.{◌>>=◌}
use Rattle.path_records.specs.RowRecord.{rows_encoding, has_row, record_of, spelled_segment, row_decoding, rows_decoding}
use Rattle.path_records.specs.DatabaseReader.{AreRefused}
use Rattle.path_records.specs.RowCursor.{IsRowTooLong}
use Rattle.path_records.proofs.Spelled.{has_room}
use Rattle.path_records.proofs.RowPieces.{row_by, row_is, part_longer}
use Rattle.path_records.proofs.RowsRead.{row_refused}
use Rattle.path_records.proofs.Refused.{behind_database}

-- a message with more bytes than any segment is no segment
too_large : (message : List ℕ) → 16384 < length message → segment_decoding message ≡ Err TooLarge
unfolding segment_decoding segment_outline
too_large message long = rw (lt-leb (length message) 16384 long) refl

not_spelled : (message : List ℕ) → 16384 < length message → spelled_segment message ≡ Err BadRecord
unfolding spelled_segment
not_spelled message long = rw (too_large message long) refl

of_type : (kind : Result SegType SegError) (message : List ℕ) → spelled_segment message ≡ Err BadRecord
    → (record_of kind >>= λ kind. spelled_segment message >>= λ segment. let r : Result RowView DbError = Ok (kind, segment) in r) ≡ Err BadRecord
of_type (Ok kind) message none = ap (λ s. s >>= λ segment. let r : Result RowView DbError = Ok (kind, segment) in r) none
of_type (Err e) message none = refl

-- a row with such a message is refused
by_room : (there : Bool) (first : ℕ) (message : List ℕ) → (there ≡ true → spelled_segment message ≡ Err BadRecord) → row_by there first message ≡ Err BadRecord
unfolding row_by
by_room false first message none = refl
by_room true first message none = of_type (type_of first) message (none refl)

long_row : (bytes : List ℕ) → 16384 < four_at 1 bytes → row_decoding bytes ≡ Err BadRecord
long_row bytes long =
    row_is bytes
    ∙ by_room (has_row bytes) (slice_index bytes 0) (part 5 (four_at 1 bytes) bytes)
    (λ there. not_spelled (part 5 (four_at 1 bytes) bytes)
    (omega (arith, long, has_room bytes there, length-drop 5 bytes, length-take (four_at 1 bytes) (drop 5 bytes))))

module _ (rows : List RowView) (left fed : List ℕ) (is : IsDatabase rows) (same : rows_encoding rows ++ left ≡ fed) (long : IsRowTooLong left) where
  apart : (behind : List ℕ) → fed ++ behind ≡ rows_encoding rows ++ (left ++ behind)
  apart behind = ap (λ (t : List ℕ). t ++ behind) (sym same) ∙ append_assoc (rows_encoding rows) left behind

  long_on : (behind : List ℕ) → 16384 < four_at 1 (left ++ behind)
  long_on behind = omega (arith, long.long, ap (from_be_bytes w32) (part_longer 1 4 left behind long.there))

  -- the row is refused whatever bytes come next
  pub long_refused : AreRefused fed BadRecord
  long_refused behind =
      ap rows_decoding (apart behind)
      ∙ row_refused (rows_decoding (rows_encoding rows ++ (left ++ behind))) rows BadRecord (left ++ behind)
      (omega (arith, long.there, length-append left behind)) (long_row (left ++ behind) (long_on behind))
      (behind_database rows (left ++ behind) is)
