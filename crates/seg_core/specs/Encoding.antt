-- The one encoding of a segment and of a response: fields by number, numbers in the shortest
-- varints, zero numbers and empty bytes left out. The pieces that are kept of an entry are written
-- unchanged.
use Rattle.std.specs.Prelude.{◌≡◌, ℕ, ◌+◌, ◌*◌, ◌<◌, ◌≤◌, ◌^◌, List, [], ◌∷◌, ◌++◌, length, map, filter, ◌==◌, Ok, Option, Some, None}
use Rattle.std.specs.List.{flat_map, AllByRecursion}
use Rattle.std.specs.Option.{ForSome}
use Rattle.std.specs.Borrow.{Bor}
use Rattle.pw_wire.specs.Decoding.{IsBytes}
use Rattle.pw_wire.specs.Varint.{varint_encoding}
use Rattle.pw_wire.specs.Field.{varint_field_encoding, bytes_field_encoding}
use Rattle.seg_core.specs.declared.body.Body.{Body}
use Rattle.seg_core.specs.declared.format.TheConstants.{MOST_SEGMENT_BYTES}
use Rattle.seg_core.specs.declared.seg_type.SegType.{SegType}
use Rattle.seg_core.specs.declared.seg_type.SegType.TheVariants.{Up, Down, Core}
use Rattle.seg_core.specs.SegmentView.{EntryView, SegmentView}
use Rattle.seg_core.specs.Entry.{header_and_body_decoding}
use Rattle.seg_core.specs.Segment.{info_decoding}
use Rattle.seg_core.specs.Registration.{type_number, typed_segments}
use Rattle.seg_core.specs.WellFormed.{HasEntryCount, IsEntryChain, HasNoLoop}

-- The bytes before the content of a bytes field: its tag and its length.
unfoldable pub field_head_encoding : ℕ → ℕ → List ℕ
field_head_encoding k len = varint_encoding (k * 8 + 2) ++ varint_encoding len

-- A field of bytes, which is left out where the bytes are empty.
abbrev pub bytes_encoding : ℕ → List ℕ → List ℕ
bytes_encoding k [] = []
bytes_encoding k (b ∷ bytes) = bytes_field_encoding k (b ∷ bytes)

-- A field of a message that may be missing. A message that is present is written even when it is
-- empty.
abbrev pub optional_encoding : ℕ → Option (List ℕ) → List ℕ
optional_encoding k None = []
optional_encoding k (Some message) = bytes_field_encoding k message

-- The signed message of an entry.
abbrev pub signed_encoding : EntryView → List ℕ
signed_encoding e = bytes_encoding 1 e.signed ++ bytes_encoding 2 e.signature

-- The entry of one AS.
abbrev pub as_entry_encoding : EntryView → List ℕ
as_entry_encoding e = bytes_field_encoding 1 (signed_encoding e) ++ optional_encoding 2 e.unsigned

-- The content of an entry after the tag and the length of its signed message.
abbrev pub pieces_encoding : EntryView → List ℕ
pieces_encoding e = signed_encoding e ++ optional_encoding 2 e.unsigned

-- The entries of a segment, one after the other.
abbrev pub entries_encoding : List EntryView → List ℕ
entries_encoding es = flat_map (λ e. bytes_field_encoding 2 (as_entry_encoding e)) es

-- The one encoding of a segment.
unfoldable pub segment_encoding : SegmentView → List ℕ
segment_encoding s = bytes_encoding 1 s.info ++ entries_encoding s.entries

-- The numbers in the signed body of an entry.
abbrev pub entry_body : EntryView → Body
entry_body e = record { ia = e.ia; next = e.next; hop = record { ingress = e.ingress; egress = e.egress; exp_time = e.exp_time } }

-- What holds for every entry.
pub record IsEntry (e : EntryView) : Type 0 where
  -- Its numbers are those of its signed body.
  pub says : header_and_body_decoding e.signed ≡ Ok (entry_body e)
  -- Its ISD-AS and its next ISD-AS have 64 bits.
  pub ia : e.ia < 2 ^ 64
  pub next : e.next < 2 ^ 64
  -- Its pieces are bytes.
  pub signed : IsBytes e.signed
  pub signature : IsBytes e.signature
  pub unsigned : ForSome e.unsigned IsBytes

-- What holds for every segment.
pub record IsSegment (s : SegmentView) : Type 0 where
  -- Its numbers are those of its information, which is bytes.
  pub info_says : info_decoding s.info ≡ Ok (record { timestamp = s.timestamp; segment_id = s.segment_id })
  pub info_bytes : IsBytes s.info
  -- `IsEntry` holds for each of its entries.
  pub entries : AllByRecursion IsEntry s.entries
  -- It has 1 to 64 entries, which are one path without a loop.
  pub counted : HasEntryCount s.entries
  pub chain : IsEntryChain s.entries
  pub no_loop : HasNoLoop s.entries
  -- Its encoding has at most 16,384 bytes.
  pub short : length (segment_encoding s) ≤ MOST_SEGMENT_BYTES

-- ---- a response

-- Rows of references, as rows of the segments to which they refer.
abbrev pub referred_rows : List (SegType × Bor SegmentView) → List (SegType × SegmentView)
referred_rows rows = map (λ row. (row.0, row.1.now)) rows

-- A message `Segments`: segments, one after the other.
abbrev pub segments_encoding : List SegmentView → List ℕ
segments_encoding segments = flat_map (λ s. bytes_field_encoding 1 (segment_encoding s)) segments

-- The segments of one type, in their order.
abbrev pub of_type : SegType → List (SegType × SegmentView) → List SegmentView
of_type kind rows = map (λ row. row.1) (filter (λ row. type_number row.0 == type_number kind) rows)

-- An entry of the map, for a type that has segments.
abbrev pub map_entry_encoding : SegType → List SegmentView → List ℕ
map_entry_encoding kind [] = []
map_entry_encoding kind (s ∷ segments) =
    bytes_field_encoding 1 (varint_field_encoding 1 (type_number kind) ++ bytes_field_encoding 2 (segments_encoding (s ∷ segments)))

-- A map with an entry for each type that has segments, by type number.
unfoldable pub response_encoding : List (SegType × SegmentView) → List ℕ
response_encoding rows =
    map_entry_encoding Up (of_type Up rows) ++ (map_entry_encoding Down (of_type Down rows) ++ map_entry_encoding Core (of_type Core rows))

-- All segments, ordered by the number of their type, and those of one type in their order.
abbrev pub by_type : List (SegType × SegmentView) → List (SegType × SegmentView)
by_type rows = typed_segments Up (of_type Up rows) ++ (typed_segments Down (of_type Down rows) ++ typed_segments Core (of_type Core rows))
