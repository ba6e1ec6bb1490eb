-- The shapes of the messages: the kind of the value under each of their field numbers. A shape is a
-- list by field numbers from 0 on; no field has the number 0.
use Rattle.std.specs.Prelude.{List, [], ◌∷◌}
use Rattle.seg_core.specs.declared.field_kind.FieldKind.{FieldKind}
use Rattle.seg_core.specs.declared.field_kind.FieldKind.TheVariants.{Unknown, Number, Bytes, Message, Messages}

-- The shape of a request: source and destination.
abbrev pub request_shape : List FieldKind
request_shape = Unknown ∷ Number ∷ Number ∷ []

-- The shape of a map: its entries.
abbrev pub map_shape : List FieldKind
map_shape = Unknown ∷ Messages ∷ []

-- The shape of an entry of a map: the type of segments, and the segments.
abbrev pub map_entry_shape : List FieldKind
map_entry_shape = Unknown ∷ Number ∷ Message ∷ []

-- The shape of a list of segments.
abbrev pub segments_shape : List FieldKind
segments_shape = Unknown ∷ Messages ∷ []

-- The shape of a path segment: its information, and its entries.
abbrev pub path_segment_shape : List FieldKind
path_segment_shape = Unknown ∷ Bytes ∷ Messages ∷ []

-- The shape of a segment's information: timestamp and segment id.
abbrev pub segment_information_shape : List FieldKind
segment_information_shape = Unknown ∷ Number ∷ Number ∷ []

-- The shape of an entry: the signed message, and extensions that are not signed.
abbrev pub as_entry_shape : List FieldKind
as_entry_shape = Unknown ∷ Message ∷ Message ∷ []

-- The shape of a signed message: header and body, and the signature.
abbrev pub signed_message_shape : List FieldKind
signed_message_shape = Unknown ∷ Bytes ∷ Bytes ∷ []

-- The shape of the signed bytes: header and body.
abbrev pub header_and_body_shape : List FieldKind
header_and_body_shape = Unknown ∷ Bytes ∷ Bytes ∷ []

-- The shape of a body: ISD-AS, next ISD-AS, hop entry, peer entries, MTU, extensions.
abbrev pub body_shape : List FieldKind
body_shape = Unknown ∷ Number ∷ Number ∷ Message ∷ Messages ∷ Number ∷ Message ∷ []

-- The shape of a hop entry: hop field, ingress MTU.
abbrev pub hop_entry_shape : List FieldKind
hop_entry_shape = Unknown ∷ Message ∷ Number ∷ []

-- The shape of a peer entry: the peer's ISD-AS, interface and MTU, and a hop field.
abbrev pub peer_entry_shape : List FieldKind
peer_entry_shape = Unknown ∷ Number ∷ Number ∷ Number ∷ Message ∷ []

-- The shape of a hop field: ingress, egress, expiry, MAC.
abbrev pub hop_field_shape : List FieldKind
hop_field_shape = Unknown ∷ Number ∷ Number ∷ Number ∷ Bytes ∷ []
