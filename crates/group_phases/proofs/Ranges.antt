-- One range from moment to moment, and in images.
use Rattle.std.proofs.Common.{◌≡◌, inl, inr, ℕ, ◌+◌, ◌-◌, ◌≤◌, List, ◌++◌, length, take, drop, sym, ◌∙◌, ap, arith, length-append}
use Rattle.std.proofs.lemmas.Bool.{cases_lt}
use Rattle.std.proofs.lemmas.List.{drop-take, drop-drop}
use Rattle.std.proofs.Math.Seq.{take-add}
use Rattle.byte_lists.specs.Content.{part}
use Rattle.byte_lists.proofs.Contents.{same_part, length-part}
use Rattle.sector_dev.specs.Disk.{Moment}
use Rattle.sector_dev.specs.Image.{IsCleanPart}
use Rattle.sector_dev.proofs.Images.{clean_none, clean_part_in, image_part}
use Rattle.store_layout.proofs.Exports.{take_take}
use Rattle.group_phases.specs.Range.{Untouched}
use Rattle.group_phases.specs.RangeLaws.{IsInEveryImage, HasSettledParts, JoinsNeighbours, ReadsAsBefore, StaysSettled, HasUntouchedParts, StaysOnAndOn, CleanStaysInImages}

-- a part of a part
pub part_of_part : (at m from n : ℕ) (xs : List ℕ) → from + n ≤ m → part from n (part at m xs) ≡ part (at + from) n xs
part_of_part at m from n xs inside =
    let split : m ≡ from + (m - from) = omega arith in
    ap (λ (k : ℕ). take n (drop from (take k (drop at xs)))) split
    ∙ ap (take n) (drop-take from (m - from) (drop at xs))
    ∙ take_take n (m - from) (drop from (drop at xs)) (omega arith)
    ∙ ap (take n) (drop-drop from at xs)

-- two neighbouring parts are one
pub parts_joined : (at m n : ℕ) (xs : List ℕ) → part at (m + n) xs ≡ part at m xs ++ part (at + m) n xs
parts_joined at m n xs = take-add m n (drop at xs) ∙ ap (λ (list : List ℕ). part at m xs ++ take n list) (drop-drop m at xs)

pub is_in_every_image : IsInEveryImage
is_in_every_image moment at content image settled is = image_part moment image at (length content) is settled.clean ∙ settled.reads

pub has_settled_parts : HasSettledParts
has_settled_parts moment at content from n inside settled = record {
  reads = ap (λ (k : ℕ). part (at + from) k moment.reads) long ∙ same;
  clean = clean_part_in moment.dirty at (length content) (at + from) (length (part from n content)) (omega arith) (omega (arith, long)) settled.clean;
}
  where
    same : part (at + from) n moment.reads ≡ part from n content
    same = sym (part_of_part at (length content) from n moment.reads inside) ∙ ap (part from n) settled.reads

    long : length (part from n content) ≡ n
    long = length-part from n content inside

pub joins_neighbours : JoinsNeighbours
joins_neighbours moment at front behind first second = record {
  reads =
      ap (λ (k : ℕ). part at k moment.reads) (length-append front behind) ∙ parts_joined at (length front) (length behind) moment.reads
      ∙ (λ i. first.reads i ++ second.reads i);
  clean = λ i from to. elim (cases_lt i (at + length front)) [
    | inl before ↦ first.clean i from before
    | inr after ↦ second.clean i after (omega (arith, length-append front behind))
  ];
}

pub reads_as_before : ReadsAsBefore
reads_as_before at n old new same = same_part at n new.reads old.reads same.size same.bytes

pub clean_kept : (at n : ℕ) (old new : Moment) → Untouched at n old new → IsCleanPart old.dirty at n → IsCleanPart new.dirty at n
clean_kept at n old new same clean i from to = same.clean i from to (clean i from to)

pub stays_settled : StaysSettled
stays_settled at content old new same settled = record {
  reads = reads_as_before at (length content) old new same ∙ settled.reads;
  clean = clean_kept at (length content) old new same settled.clean;
}

pub has_untouched_parts : HasUntouchedParts
has_untouched_parts at n from m old new low high same = record {
  size = same.size;
  bytes = λ i here to. same.bytes i (omega arith) (omega arith);
  clean = λ i here to. same.clean i (omega arith) (omega arith);
}

pub stays_on_and_on : StaysOnAndOn
stays_on_and_on at n old mid new first second = record {
  size = second.size ∙ first.size;
  bytes = λ i from to. second.bytes i from to ∙ first.bytes i from to;
  clean = λ i from to clean. second.clean i from to (first.clean i from to clean);
}

pub clean_stays_in_images : CleanStaysInImages
clean_stays_in_images at n moment image clean is = record {
  size = is.size;
  bytes = λ i from to. is.clean i (clean i from to);
  clean = λ i from to was. clean_none i;
}
