-- Each segment that is read is whole.
use Rattle.std.proofs.Common.{◌≡◌, ℕ, ◌+◌, ◌≤◌, suc, true, List, [], ◌∷◌, ◌++◌, length, Ok, refl, ap, subst, arith, length-append}
use Rattle.std.specs.Prelude.{nat_le}
use Rattle.std.specs.List.{AllByRecursion}
use Rattle.std.proofs.lemmas.Bool.{leb-true}
use Rattle.std.proofs.lemmas.List.Concat.{flat_map-cons}
use Rattle.std.proofs.lemmas.List.Sums.{sum_by-cons}
use Rattle.pw_wire.specs.Decoding.{IsBytes}
use Rattle.pw_wire.specs.Field.{bytes_field_encoding}
use Rattle.pw_wire.specs.Fields.{fields}
use Rattle.seg_core.specs.declared.error.SegError.TheVariants.{Chain, Loop, Entries, TooLarge}
use Rattle.seg_core.specs.Shapes.{path_segment_shape, as_entry_shape, signed_message_shape}
use Rattle.seg_core.specs.Steps.{◌>>=◌, each}
use Rattle.seg_core.specs.Message.{last_bytes_field, bytes_fields, bytes_field_or_empty}
use Rattle.seg_core.specs.SegmentView.{EntryView, SegmentView}
use Rattle.seg_core.specs.EntryView.{entry_of}
use Rattle.seg_core.specs.Entry.{header_and_body_decoding, as_entry_decoding}
use Rattle.seg_core.specs.WellFormed.{is_entry_count, is_chain, has_no_loop}
use Rattle.seg_core.specs.Segment.{SegmentOutline, info_decoding, segment_outline, segment_decoding}
use Rattle.seg_core.specs.Encoding.{bytes_encoding, as_entry_encoding, entries_encoding, segment_encoding, IsEntry, IsSegment}
use Rattle.seg_core.proofs.Bytes.{message_fields-are, message_fields-fit, bytes_fields-IsBytes, bytes_field-IsBytes, bytes_field_or_empty-IsBytes}
use Rattle.seg_core.proofs.Paths.{count-HasEntryCount, chain-IsChain, no_loop-HasNoLoop}
use Rattle.seg_core.proofs.Ranges.{header_and_body-fits}
use Rattle.seg_core.proofs.Readings.{step_ok, ok_is, after_message_fields, after_check, after_required}
use Rattle.seg_core.proofs.MessageSizes.{message-HasRoom}
use Rattle.seg_core.proofs.Sizes.{encoded_len, bytes_field-mono, last-length, or_empty-length, HasRoom, parts-length, entry-length}

-- ---- one entry

-- an entry that was read from a message
pub record WasRead (message : List ℕ) (e : EntryView) : Type 0 where
  is_entry : IsEntry e
  pub short : length (as_entry_encoding e) ≤ length message

pub entry_read : (message : List ℕ) (e : EntryView) → IsBytes message → as_entry_decoding message ≡ Ok e → WasRead message e
unfolding as_entry_decoding
entry_read message e are reading =
    let fs = fields message in
    let room = message-HasRoom message (message_fields-are as_entry_shape message _ e are reading) in
    let fits = message_fields-fit as_entry_shape message _ e are reading in
    let in_fields = after_message_fields as_entry_shape message _ e reading in
    let in_signed = after_required 1 fs _ e in_fields in
    let signed = in_signed.0 in
    let parts = fields signed in
    let signed_bytes = bytes_field-IsBytes 1 fs fits signed in_signed.1 in
    let parts_fit = message_fields-fit signed_message_shape signed _ e signed_bytes in_signed.2 in
    let parts_room = message-HasRoom signed (message_fields-are signed_message_shape signed _ e signed_bytes in_signed.2) in
    let in_parts = after_message_fields signed_message_shape signed _ e in_signed.2 in
    let in_body = step_ok (header_and_body_decoding (bytes_field_or_empty 1 parts)) _ e in_parts in
    subst (WasRead message) (ok_is (entry_of in_body.0 (record { signed = bytes_field_or_empty 1 parts; signature = bytes_field_or_empty 2 parts; unsigned = last_bytes_field 2 fs })) e in_body.2) (record {
      is_entry =
          let widths = header_and_body-fits (bytes_field_or_empty 1 parts) in_body.0 (bytes_field_or_empty-IsBytes 1 parts parts_fit) in_body.1 in
          record {
            says = in_body.1;
            ia = widths.ia;
            next = widths.next;
            signed = bytes_field_or_empty-IsBytes 1 parts parts_fit;
            signature = bytes_field_or_empty-IsBytes 2 parts parts_fit;
            unsigned = bytes_field-IsBytes 2 fs fits;
          };
      short = entry-length message signed (bytes_encoding 1 (bytes_field_or_empty 1 parts) ++ bytes_encoding 2 (bytes_field_or_empty 2 parts)) room in_signed.1 (parts-length signed parts_room);
    })

-- ---- all entries

record WereRead (messages : List (List ℕ)) (es : List EntryView) : Type 0 where
  are_entries : AllByRecursion IsEntry es
  as_many : length es ≡ length messages
  short : length (entries_encoding es) ≤ encoded_len 2 messages

one_more : (message : List ℕ) (messages : List (List ℕ)) (e : EntryView) (es : List EntryView) → WasRead message e → WereRead messages es → WereRead (message ∷ messages) (e ∷ es)
one_more message messages e es first others = record {
  are_entries = (first.is_entry, others.are_entries);
  as_many = ap suc others.as_many;
  short =
      let was_short = others.short in
      rw (flat_map-cons (λ e. bytes_field_encoding 2 (as_entry_encoding e)) e es, sum_by-cons (λ t. length (bytes_field_encoding 2 t)) message messages, length-append (bytes_field_encoding 2 (as_entry_encoding e)) (entries_encoding es))
      (omega (arith, bytes_field-mono 2 (as_entry_encoding e) message first.short));
}

entries_read : (messages : List (List ℕ)) (es : List EntryView) → AllByRecursion IsBytes messages → each as_entry_decoding messages ≡ Ok es → WereRead messages es
entries_read [] es are reading = subst (WereRead []) (ok_is [] es reading) (record { are_entries = tt; as_many = refl; short = omega arith })
entries_read (message ∷ messages) es are reading =
    let first = step_ok (as_entry_decoding message) (λ e. each as_entry_decoding messages >>= λ others. Ok (e ∷ others)) es reading in
    let others = step_ok (each as_entry_decoding messages) (λ others. Ok (first.0 ∷ others)) es first.2 in
    let was = entry_read message first.0 are.0 first.1 in
    let were = entries_read messages others.0 are.1 others.1 in
    subst (WereRead (message ∷ messages)) (ok_is (first.0 ∷ others.0) es others.2) (one_more message messages first.0 others.0 was were)

-- ---- a segment

abbrev segment_of : SegmentOutline → List EntryView → SegmentView
segment_of outline entries = record { timestamp = outline.timestamp; segment_id = outline.segment_id; info = outline.info; entries = entries }

segment_short : (message : List ℕ) (s : SegmentView) → HasRoom message → s.info ≡ bytes_field_or_empty 1 (fields message) → length (entries_encoding s.entries) ≤ encoded_len 2 (bytes_fields 2 (fields message)) → length (segment_encoding s) ≤ length message
unfolding segment_encoding
segment_short message s room info entries =
    let fs = fields message in
    rw (info, length-append (bytes_encoding 1 (bytes_field_or_empty 1 fs)) (entries_encoding s.entries))
    (omega (arith, room.both, or_empty-length 1 (last_bytes_field 1 fs), last-length 1 (bytes_fields 1 fs)))

-- the checks that the outline of a segment has passed
record IsOutlined (message : List ℕ) (outline : SegmentOutline) : Type 0 where
  le : length message ≤ 16384
  room : HasRoom message
  info_is : outline.info ≡ bytes_field_or_empty 1 (fields message)
  info_bytes : IsBytes outline.info
  entries_are : outline.entries ≡ bytes_fields 2 (fields message)
  entries_bytes : AllByRecursion IsBytes outline.entries
  info_says : info_decoding outline.info ≡ Ok (record { timestamp = outline.timestamp; segment_id = outline.segment_id })
  counted : is_entry_count (length outline.entries) ≡ true

outline_read : (message : List ℕ) (outline : SegmentOutline) → IsBytes message → segment_outline message ≡ Ok outline → IsOutlined message outline
unfolding segment_outline
outline_read message outline are reading =
    let fs = fields message in
    let sized = after_check (nat_le (length message) 16384) TooLarge _ outline reading in
    let fits = message_fields-fit path_segment_shape message _ outline are sized.1 in
    let in_fields = after_message_fields path_segment_shape message _ outline sized.1 in
    let counted = after_check (is_entry_count (length (bytes_fields 2 fs))) Entries _ outline in_fields in
    let info = step_ok (info_decoding (bytes_field_or_empty 1 fs)) _ outline counted.1 in
    subst (IsOutlined message) (ok_is (record { timestamp = info.0.timestamp; segment_id = info.0.segment_id; info = bytes_field_or_empty 1 fs; entries = bytes_fields 2 fs }) outline info.2) (record {
      le = leb-true (length message) 16384 sized.0;
      room = message-HasRoom message (message_fields-are path_segment_shape message _ outline are sized.1);
      info_is = refl;
      info_bytes = bytes_field_or_empty-IsBytes 1 fs fits;
      entries_are = refl;
      entries_bytes = bytes_fields-IsBytes 2 fs fits;
      info_says = info.1;
      counted = counted.0;
    })

-- The encodings of the segment's information and of its entries' messages are short, and so are
-- those of its entries.
pub outline-room : (message : List ℕ) (outline : SegmentOutline) → IsBytes message → segment_outline message ≡ Ok outline
    → length (bytes_encoding 1 outline.info) + encoded_len 2 outline.entries ≤ 16384
outline-room message outline are reading =
    let fs = fields message in
    let outlined = outline_read message outline are reading in
    let le = outlined.le in
    rw (outlined.info_is, outlined.entries_are)
    (omega (arith, outlined.room.both, or_empty-length 1 (last_bytes_field 1 fs), last-length 1 (bytes_fields 1 fs)))

-- what a decoded segment satisfies
record IsRead (message : List ℕ) (s : SegmentView) : Type 0 where
  whole : IsSegment s
  short : length (segment_encoding s) ≤ length message

segment_read : (message : List ℕ) (s : SegmentView) → IsBytes message → segment_decoding message ≡ Ok s → IsRead message s
unfolding segment_decoding
segment_read message s are reading =
    let outline = step_ok (segment_outline message) _ s reading in
    let outlined = outline_read message outline.0 are outline.1 in
    let entries = step_ok (each as_entry_decoding outline.0.entries) _ s outline.2 in
    let chain = after_check (is_chain entries.0) Chain _ s entries.2 in
    let loop = after_check (has_no_loop entries.0) Loop _ s chain.1 in
    let le = outlined.le in
    let were = entries_read outline.0.entries entries.0 outlined.entries_bytes entries.1 in
    let made = segment_of outline.0 entries.0 in
    let short : length (segment_encoding made) ≤ length message =
    segment_short message made outlined.room outlined.info_is (subst (λ messages. length (entries_encoding entries.0) ≤ encoded_len 2 messages) outlined.entries_are were.short) in
    subst (IsRead message) (ok_is made s loop.1) (record {
      whole = record {
        info_says = outlined.info_says;
        info_bytes = outlined.info_bytes;
        entries = were.are_entries;
        counted = count-HasEntryCount entries.0 (rw were.as_many outlined.counted);
        chain = chain-IsChain entries.0 chain.0;
        no_loop = no_loop-HasNoLoop entries.0 loop.0;
        short = omega arith;
      };
      short = short;
    })

pub decoding-IsSegment : (message : List ℕ) (s : SegmentView) → IsBytes message → segment_decoding message ≡ Ok s → IsSegment s
decoding-IsSegment message s are reading = (segment_read message s are reading).whole

-- the encoding of a decoded segment is no longer than the message
pub decoding-length : (message : List ℕ) (s : SegmentView) → IsBytes message → segment_decoding message ≡ Ok s → length (segment_encoding s) ≤ length message
decoding-length message s are reading = (segment_read message s are reading).short
