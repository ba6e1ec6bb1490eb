use Rattle.std.proofs.Common.{◌≡◌, ap, sym, subst, rules, arith, length}
use Rattle.std.specs.Arc.{arc_value}
use Rattle.seg_core.specs.declared.segment.Parts.{Parts}
use Rattle.seg_core.specs.Outline.{outline_view}
use Rattle.seg_core.specs.Segment.{segment_decoding}
use Rattle.seg_core.specs.Digest.{segment_digest}
use Rattle.seg_core.specs.Encoding.{bytes_encoding}
use Rattle.seg_core.specs.Kept.{IsKept}
use Rattle.seg_core.proofs.Whole.{outline-room}
use Rattle.seg_core.proofs.Kept.{read-IsKept, WerePut}
use Rattle.seg_core.proofs.segment.read_segment.Goals as goal

pub put_bytes-requires-clause-short : goal.put_bytes-requires-clause-short
put_bytes-requires-clause-short c =
    let room = outline-room c.args.message.now (outline_view c.in_ok-outline.outline) (λ i. omega (arith, c.type_inv.message i)) c.in_ok-outline.ensures.outline in
    rw c.in_ok-bytes.ensures.items (omega arith)

pub read_entries-requires : goal.read_entries-requires
read_entries-requires c =
    let room = outline-room c.args.message.now (outline_view c.in_ok-outline.outline) (λ i. omega (arith, c.type_inv.message i)) c.in_ok-outline.ensures.outline in
    let put : c.put_bytes.new.out.items ≡ bytes_encoding 1 c.in_ok-outline.outline.info_bytes.now = rw c.in_ok-bytes.ensures.items at c.in_ok-info.ensures.put in
    omega (arith, ap length put)

-- the segment that was read is kept
kept : (c : goal.In_ok-shared) → IsKept (arc_value c.in_ok-shared.shared)
unfolding segment_decoding segment_digest
kept c =
    let info = c.in_ok-outline.outline.info_bytes.now in
    let headed = c.put_bytes.new.out.items in
    let frozen = c.in_ok-encoding.ensures.ok in
    let parts : Parts = record {
      timestamp = c.in_ok-outline.outline.info.timestamp;
      segment_id = c.in_ok-outline.outline.info.segment_id;
      digest = c.digest_of.result;
      encoding = c.in_ok-encoding.encoding;
      info = c.in_ok-info.info;
      entries = c.in_ok-entries.entries;
    } in
    let were : WerePut parts info headed c.in_ok-marked.marked.items = record {
      headed_is = rw c.in_ok-bytes.ensures.items at c.in_ok-info.ensures.put;
      within = c.in_ok-info.ensures.within;
      there = c.in_ok-info.ensures.there;
      put = rw (frozen, c.shrink_to_fit.ensures.items) c.in_ok-marked.ensures.put;
      entries = search rules;
    } in
    subst IsKept (sym c.in_ok-shared.ensures.ok) (read-IsKept c.args.message.now parts info headed c.in_ok-marked.marked.items (λ i. omega (arith, c.type_inv.message i)) (search rules) were (rw c.deref-3.ensures.value at c.digest_of.ensures))

pub invariant_of-result : goal.invariant_of-result
invariant_of-result c = kept c

pub returns-clause-whole : goal.returns-clause-whole
returns-clause-whole c = let is = kept c in is.whole
