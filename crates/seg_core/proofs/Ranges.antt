-- A whole segment is well-formed.
use Rattle.std.proofs.Common.{◌≡◌, ◌≢◌, ℕ, ◌-◌, ◌/◌, ◌%◌, ◌^◌, ◌<◌, true, List, [], ◌∷◌, length, Ok, refl, subst, arith}
use Rattle.std.specs.Prelude.{Bool, false, ◌==◌, ◌||◌, not, All}
use Rattle.std.specs.List.{AllByRecursion}
use Rattle.std.proofs.lemmas.List.Elements.{All-nil, All-cons}
use Rattle.isd_as.specs.IsdAs.{has_zero_part}
use Rattle.seg_core.specs.declared.error.SegError.TheVariants.{Range}
use Rattle.seg_core.specs.declared.body.Body.{Body}
use Rattle.seg_core.specs.declared.hop.Hop.{Hop}
use Rattle.seg_core.specs.declared.info.Info.{Info}
use Rattle.seg_core.specs.Shapes.{hop_field_shape, hop_entry_shape, body_shape, header_and_body_shape, segment_information_shape}
use Rattle.seg_core.specs.Steps.{each}
use Rattle.seg_core.specs.Message.{number_field, bytes_field_or_empty, bytes_fields}
use Rattle.pw_wire.specs.Decoding.{IsBytes}
use Rattle.pw_wire.specs.Fields.{fields}
use Rattle.seg_core.specs.SegmentView.{EntryView, SegmentView}
use Rattle.seg_core.specs.Entry.{hop_field_decoding, hop_entry_decoding, peer_entry_decoding, body_decoding, header_and_body_decoding}
use Rattle.seg_core.specs.Segment.{info_decoding}
use Rattle.seg_core.specs.Encoding.{entry_body, IsEntry, IsSegment}
use Rattle.seg_core.specs.WellFormed.{IsEntryInRange, IsWellFormed}
use Rattle.seg_core.proofs.Bytes.{message_fields-fit, number_field-fits, bytes_field_or_empty-IsBytes}
use Rattle.seg_core.proofs.Readings.{step_ok, ok_is, after_message_fields, after_check, after_required, after_at_most}
use Rattle.seg_core.proofs.Paths.{other}

-- ---- what readings give is in range

record IsHopInRange (hop : Hop) : Type 0 where
  ingress : hop.ingress < 2 ^ 16
  egress : hop.egress < 2 ^ 16
  exp_time : hop.exp_time < 2 ^ 8

hop_field_in_range : (message : List ℕ) (hop : Hop) → hop_field_decoding message ≡ Ok hop → IsHopInRange hop
unfolding hop_field_decoding
hop_field_in_range message hop reading =
    let fs = fields message in
    let in_fields = after_message_fields hop_field_shape message _ hop reading in
    let ingress = after_at_most (2 ^ 16 - 1) (number_field 1 fs) _ hop in_fields in
    let egress = after_at_most (2 ^ 16 - 1) (number_field 2 fs) _ hop ingress.1 in
    let exp_time = after_at_most (2 ^ 8 - 1) (number_field 3 fs) _ hop egress.1 in
    let mac = after_check (length (bytes_field_or_empty 4 fs) == 6) Range _ hop exp_time.1 in
    subst IsHopInRange (ok_is (record { ingress = number_field 1 fs; egress = number_field 2 fs; exp_time = number_field 3 fs }) hop mac.1)
    (record { ingress = omega (arith, ingress.0); egress = omega (arith, egress.0); exp_time = omega (arith, exp_time.0) })

hop_entry_in_range : (message : List ℕ) (hop : Hop) → hop_entry_decoding message ≡ Ok hop → IsHopInRange hop
unfolding hop_entry_decoding
hop_entry_in_range message hop reading =
    let fs = fields message in
    let in_fields = after_message_fields hop_entry_shape message _ hop reading in
    let hop_field = after_required 1 fs _ hop in_fields in
    let mtu = after_at_most (2 ^ 32 - 1) (number_field 2 fs) _ hop hop_field.2 in
    hop_field_in_range hop_field.0 hop mtu.1

-- of two tests neither is true
neither : (a b : Bool) → not (a || b) ≡ true → (not a ≡ true) × (not b ≡ true)
neither true b h = absurd cc
neither false b h = (refl, h)

record IsBodyInRange (body : Body) : Type 0 where
  isd : body.ia / 2 ^ 48 ≢ 0
  asn : body.ia % 2 ^ 48 ≢ 0
  hop : IsHopInRange body.hop

body_in_range : (message : List ℕ) (body : Body) → body_decoding message ≡ Ok body → IsBodyInRange body
unfolding body_decoding
body_in_range message body reading =
    let fs = fields message in
    let ia = number_field 1 fs in
    let in_fields = after_message_fields body_shape message _ body reading in
    let hop_entry = after_required 3 fs _ body in_fields in
    let named = after_check (not (has_zero_part ia)) Range _ body hop_entry.2 in
    let parts = neither (ia / 2 ^ 48 == 0) (ia % 2 ^ 48 == 0) named.0 in
    let mtu = after_at_most (2 ^ 32 - 1) (number_field 5 fs) _ body named.1 in
    let hop = step_ok (hop_entry_decoding hop_entry.0) _ body mtu.1 in
    let peers = step_ok (each peer_entry_decoding (bytes_fields 4 fs)) _ body hop.2 in
    subst IsBodyInRange (ok_is (record { ia = ia; next = number_field 2 fs; hop = hop.0 }) body peers.2)
    (record { isd = other (ia / 2 ^ 48) 0 parts.0; asn = other (ia % 2 ^ 48) 0 parts.1; hop = hop_entry_in_range hop_entry.0 hop.0 hop.1 })

-- the ISD-AS numbers of a body are below 2^64
pub record HasWidths (body : Body) : Type 0 where
  pub ia : body.ia < 2 ^ 64
  pub next : body.next < 2 ^ 64

body_fits : (message : List ℕ) (body : Body) → IsBytes message → body_decoding message ≡ Ok body → HasWidths body
unfolding body_decoding
body_fits message body are reading =
    let fs = fields message in
    let fits = message_fields-fit body_shape message _ body are reading in
    let in_fields = after_message_fields body_shape message _ body reading in
    let hop_entry = after_required 3 fs _ body in_fields in
    let named = after_check (not (has_zero_part (number_field 1 fs))) Range _ body hop_entry.2 in
    let mtu = after_at_most (2 ^ 32 - 1) (number_field 5 fs) _ body named.1 in
    let hop = step_ok (hop_entry_decoding hop_entry.0) _ body mtu.1 in
    let peers = step_ok (each peer_entry_decoding (bytes_fields 4 fs)) _ body hop.2 in
    subst HasWidths (ok_is (record { ia = number_field 1 fs; next = number_field 2 fs; hop = hop.0 }) body peers.2)
    (record { ia = number_field-fits 1 fs fits; next = number_field-fits 2 fs fits })

pub header_and_body-fits : (message : List ℕ) (body : Body) → IsBytes message → header_and_body_decoding message ≡ Ok body → HasWidths body
unfolding header_and_body_decoding
header_and_body-fits message body are reading =
    let fs = fields message in
    let fits = message_fields-fit header_and_body_shape message _ body are reading in
    body_fits (bytes_field_or_empty 2 fs) body (bytes_field_or_empty-IsBytes 2 fs fits) (after_message_fields header_and_body_shape message _ body reading)

entry_in_range : (e : EntryView) → IsEntry e → IsEntryInRange e
unfolding header_and_body_decoding
entry_in_range e is =
    let body = body_in_range (bytes_field_or_empty 2 (fields e.signed)) (entry_body e) (after_message_fields header_and_body_shape e.signed _ (entry_body e) is.says) in
    record { ia = is.ia; isd = body.isd; asn = body.asn; next = is.next; ingress = body.hop.ingress; egress = body.hop.egress; exp_time = body.hop.exp_time }

entries_in_range : (es : List EntryView) → AllByRecursion IsEntry es → All IsEntryInRange es
entries_in_range [] say = All-nil IsEntryInRange
entries_in_range (e ∷ es) say = All-cons IsEntryInRange e es (entry_in_range e say.0) (entries_in_range es say.1)

record IsInfoInRange (info : Info) : Type 0 where
  timestamp : info.timestamp < 2 ^ 32
  segment_id : info.segment_id < 2 ^ 16

info_in_range : (message : List ℕ) (info : Info) → info_decoding message ≡ Ok info → IsInfoInRange info
unfolding info_decoding
info_in_range message info reading =
    let fs = fields message in
    let in_fields = after_message_fields segment_information_shape message _ info reading in
    let timestamp = after_at_most (2 ^ 32 - 1) (number_field 1 fs) _ info in_fields in
    let segment_id = after_at_most (2 ^ 16 - 1) (number_field 2 fs) _ info timestamp.1 in
    subst IsInfoInRange (ok_is (record { timestamp = number_field 1 fs; segment_id = number_field 2 fs }) info segment_id.1)
    (record { timestamp = omega (arith, timestamp.0); segment_id = omega (arith, segment_id.0) })

-- ---- a segment

-- A whole segment is well-formed.
pub IsSegment-IsWellFormed : (s : SegmentView) → IsSegment s → IsWellFormed s
IsSegment-IsWellFormed s is =
    let info = info_in_range s.info (record { timestamp = s.timestamp; segment_id = s.segment_id }) is.info_says in
    record {
      counted = is.counted;
      chain = is.chain;
      no_loop = is.no_loop;
      in_range = record { timestamp = info.timestamp; segment_id = info.segment_id; entries = entries_in_range s.entries is.entries };
    }
