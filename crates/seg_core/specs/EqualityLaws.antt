-- The tests of equality decide whether two entries or segments are the same, so that the tests are
-- symmetric and transitive. The impl of `PartialEq` for `Segment` cites these laws.
use Rattle.std.proofs.Common.{◌≡◌, ℕ, Bool, true, false, List, Option, Some, None, refl, sym, ap, ◌∙◌}
use Rattle.std.specs.Prelude.{◌&&◌, IsTrue, ◌↔◌}
use Rattle.std.specs.Bool.{Decides, one_answer}
use Rattle.std.specs.Option.{option_eq}
use Rattle.std.specs.Cmp.{IsPartialEquivalence}
use Rattle.std.specs.Cmp.Lexicographic.{pointwise_decides}
use Rattle.std.proofs.lemmas.Bool.Decides.{Decides-eqb}
use Rattle.seg_core.specs.SegmentView.{EntryView, SegmentView}
use Rattle.seg_core.specs.Equality.{same_bytes, same_entry, same_segment}

bytes_decide : (xs ys : List ℕ) → Decides (same_bytes xs ys) (xs ≡ ys)
bytes_decide = pointwise_decides Decides-eqb

options_decide : (o p : Option (List ℕ)) → Decides (option_eq same_bytes o p) (o ≡ p)
options_decide None None = (λ h. refl, λ same. refl)
options_decide None (Some y) = (λ h. cc, λ same. cc)
options_decide (Some x) None = (λ h. cc, λ same. cc)
options_decide (Some x) (Some y) = (λ h. ap (λ t. Some t) ((bytes_decide x y).0 h), λ same. (bytes_decide x y).1 cc)

-- Both of two tests hold where their conjunction does.
both : (a b : Bool) → (a && b) ≡ true → (a ≡ true) × (b ≡ true)
both true b h = (refl, h)
both false b h = absurd cc

from_both : (a b : Bool) → a ≡ true → b ≡ true → (a && b) ≡ true
from_both a b h k = rw (h, k) refl

both_decide : {P Q : Type 0} (a b : Bool) → Decides a P → Decides b Q → Decides (a && b) (P × Q)
both_decide a b one two = (
  λ h. let each = both a b h in (one.0 each.0, two.0 each.1),
  λ holds. from_both a b (one.1 holds.0) (two.1 holds.1),
)

entries_decide : (a b : EntryView) → Decides (same_entry a b) (a ≡ b)
entries_decide a b =
    let test =
    both_decide _ _
    (both_decide _ _ (Decides-eqb a.ia b.ia) (both_decide _ _ (Decides-eqb a.next b.next) (both_decide _ _ (Decides-eqb a.ingress b.ingress)
    (both_decide _ _ (Decides-eqb a.egress b.egress) (Decides-eqb a.exp_time b.exp_time)))))
    (both_decide _ _ (bytes_decide a.signed b.signed) (both_decide _ _ (bytes_decide a.signature b.signature) (options_decide a.unsigned b.unsigned))) in (
      λ h. let is = test.0 h in λ i. record {
        ia = is.0.0 i;
        next = is.0.1.0 i;
        ingress = is.0.1.1.0 i;
        egress = is.0.1.1.1.0 i;
        exp_time = is.0.1.1.1.1 i;
        signed = is.1.0 i;
        signature = is.1.1.0 i;
        unsigned = is.1.1.1 i;
      },
      λ same. test.1 (
        (ap (λ e. e.ia) same, (ap (λ e. e.next) same, (ap (λ e. e.ingress) same, (ap (λ e. e.egress) same, ap (λ e. e.exp_time) same)))),
        (ap (λ e. e.signed) same, (ap (λ e. e.signature) same, ap (λ e. e.unsigned) same)),
      ),
    )

segments_decide : (s t : SegmentView) → Decides (same_segment s t) (s ≡ t)
segments_decide s t =
    let test =
    both_decide _ _ (Decides-eqb s.timestamp t.timestamp) (both_decide _ _ (Decides-eqb s.segment_id t.segment_id)
    (both_decide _ _ (bytes_decide s.info t.info) (pointwise_decides entries_decide s.entries t.entries))) in (
      λ h. let is = test.0 h in λ i. record { timestamp = is.0 i; segment_id = is.1.0 i; info = is.1.1.0 i; entries = is.1.1.1 i },
      λ same. test.1 (ap (λ s. s.timestamp) same, (ap (λ s. s.segment_id) same, (ap (λ s. s.info) same, ap (λ s. s.entries) same))),
    )

pub same_segment-iff : (s t : SegmentView) → (IsTrue (same_segment s t)) ↔ (s ≡ t)
same_segment-iff s t = segments_decide s t

-- The test with its sides exchanged decides the same.
decides_back : (s t : SegmentView) → Decides (same_segment t s) (s ≡ t)
decides_back s t = (λ h. sym ((segments_decide t s).0 h), λ same. (segments_decide t s).1 (sym same))

pub same_segment-laws : IsPartialEquivalence same_segment
same_segment-laws = record {
  symm = λ s t. one_answer (same_segment s t) (same_segment t s) (segments_decide s t) (decides_back s t);
  trans = λ s t u one two. (segments_decide s u).1 ((segments_decide s t).0 one ∙ (segments_decide t u).0 two);
}
