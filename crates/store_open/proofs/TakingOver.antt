-- A write with its sync; and three of them, by which one half takes over.
use Rattle.std.proofs.Common.{◌≡◌, inl, inr, ℕ, ◌+◌, ◌*◌, ◌≤◌, List, [], length, replicate, sym, ◌∙◌, ap, subst, arith, Result}
use Rattle.std.proofs.lemmas.List.{length-replicate}
use Rattle.byte_lists.specs.Content.{part, overwrite}
use Rattle.byte_lists.proofs.Contents.{length-part, overwrite_same}
use Rattle.sector_dev.specs.Disk.{Disk, IsHonest, IsWhole, reads_of}
use Rattle.sector_dev.specs.Calls.{WriteCall, SyncCall}
use Rattle.sector_dev.specs.Stretch.{Stretch}
use Rattle.sector_dev.proofs.Images.{image_is_reads, every_written}
use Rattle.sector_dev.proofs.Stretches.{honest_before, stretch_here, stretch_then, stretch_weaker, stretch_write, stretch_sync, stretch_honest}
use Rattle.store_layout.specs.declared.half.Half.{Half}
use Rattle.store_layout.specs.Layout.{Geometry, other, area_at, gate_at}
use Rattle.byte_lists.specs.Sectors.{open_gate}
use Rattle.store_open.specs.TakingOver.{IsTornAt, laid, switched, taken, IsTakingOver}

-- a content that is unchanged satisfies `IsTornAt` too
pub torn_nowhere : (at n : ℕ) (content : List ℕ) → at + n ≤ length content → IsTornAt at n content content
torn_nowhere at n content inside = record {
  torn = part at n content;
  size = length-part at n content inside;
  is = sym (overwrite_same at n content inside);
}

module _ (start : Disk) (at : ℕ) (bytes : List ℕ) (whole : IsHonest start → IsWhole start) (clean : IsHonest start → start.history.now.dirty ≡ []) (inside : 512 * at + length bytes ≤ 512 * start.sectors) where
  abbrev Torn : List ℕ → Type 0
  Torn = IsTornAt (512 * at) (length bytes) (reads_of start)

  long : IsHonest start → 512 * at + length bytes ≤ length (reads_of start)
  long honest = omega (arith, (whole honest).size, inside)

  nothing_torn : Stretch start start Torn
  nothing_torn = stretch_here Torn start (λ honest content image.
      subst Torn (sym (image_is_reads start.history.now content (clean honest) image)) (torn_nowhere (512 * at) (length bytes) (reads_of start) (long honest)))

  module _ {T E : Type 0} (answer : Result T E) (one : Disk) (call : WriteCall at bytes answer start one) where
    pub torn_write : Stretch start one Torn
    torn_write = stretch_write Torn start start one at bytes answer nothing_torn call
        (λ honest landed size.
        every_written (λ content. content ≡ reads_of start) Torn start.history (512 * at) landed (omega (arith, long honest, size)) (whole honest).bytes
        (λ content image. image_is_reads start.history.now content (clean honest) image)
        (λ content torn _ torn_size is. record { torn = torn; size = torn_size ∙ size; is = ap (overwrite (512 * at) torn) is }))

    pub torn_sync : {U F : Type 0} (done : Result U F) (two : Disk) → SyncCall done one two → Stretch start two Torn
    torn_sync done two sync = stretch_sync Torn start one two done torn_write sync

-- three writes, each with its sync
module _ (geometry : Geometry) (half new : Half) (is_other : new ≡ other half) (bytes : List ℕ) (start : Disk) where
  abbrev Taking : List ℕ → Type 0
  Taking = IsTakingOver geometry half bytes (reads_of start)

  module _ (at : ℕ) (one : Disk) (place : at ≡ area_at geometry new) (torn : Stretch start one (IsTornAt (512 * at) (length bytes) (reads_of start))) where
    at_area : at ≡ area_at geometry (other half)
    at_area = place ∙ ap (area_at geometry) is_other

    pub first_taking : Stretch start one Taking
    first_taking = stretch_weaker (IsTornAt (512 * at) (length bytes) (reads_of start)) Taking start one
        (λ content tear. inl (subst (λ (n : ℕ). IsTornAt (512 * n) (length bytes) (reads_of start) content) at_area tear)) torn

    module _ (written : IsHonest start → reads_of one ≡ overwrite (512 * at) bytes (reads_of start)) where
      is_laid : IsHonest start → reads_of one ≡ laid geometry half bytes (reads_of start)
      is_laid honest = written honest ∙ ap (λ (n : ℕ). overwrite (512 * n) bytes (reads_of start)) at_area

      module _ (gate : ℕ) (opening : List ℕ) (two : Disk) (gate_place : gate ≡ gate_at geometry new) (is_open : opening ≡ open_gate)
          (torn_gate : Stretch one two (IsTornAt (512 * gate) (length opening) (reads_of one))) where
        at_gate : gate ≡ gate_at geometry (other half)
        at_gate = gate_place ∙ ap (gate_at geometry) is_other

        size : length opening ≡ 512
        size = ap length is_open

        pub second_taking : Stretch start two Taking
        second_taking = stretch_then Taking start one two first_taking
            (stretch_honest (IsTornAt (512 * gate) (length opening) (reads_of one)) Taking one two
            (λ honest content tear. inr (inl (record {
              torn = tear.torn;
              size = tear.size ∙ size;
              is = tear.is ∙ (λ i. overwrite (512 * at_gate i) tear.torn (is_laid (honest_before start one torn.keeps honest) i));
            }))) torn_gate)

        module _ (gate_written : IsHonest one → reads_of two ≡ overwrite (512 * gate) opening (reads_of one)) where
          is_switched : IsHonest start → IsHonest one → reads_of two ≡ switched geometry half bytes (reads_of start)
          is_switched honest honest_one = gate_written honest_one ∙ (λ i. overwrite (512 * at_gate i) (is_open i) (is_laid honest i))

          module _ (old : ℕ) (zeros : List ℕ) (three : Disk) (old_place : old ≡ gate_at geometry half) (are_zeros : zeros ≡ replicate 1024 0)
              (torn_old : Stretch two three (IsTornAt (512 * old) (length zeros) (reads_of two))) where
            pub third_taking : Stretch start three Taking
            third_taking = stretch_then Taking start two three second_taking
                (stretch_honest (IsTornAt (512 * old) (length zeros) (reads_of two)) Taking two three
                (λ honest content tear.
                let honest_one = honest_before one two torn_gate.keeps honest in
                inr (inr (record {
                  torn = tear.torn;
                  size = tear.size ∙ ap length are_zeros ∙ length-replicate {A = ℕ} 1024 0;
                  is = tear.is ∙ (λ i. overwrite (512 * old_place i) tear.torn (is_switched (honest_before start one torn.keeps honest_one) honest_one i));
                }))) torn_old)

            pub all_taken : IsHonest start → IsHonest one → reads_of three ≡ overwrite (512 * old) zeros (reads_of two) → reads_of three ≡ taken geometry half bytes (reads_of start)
            all_taken honest honest_one is = is ∙ (λ i. overwrite (512 * old_place i) (are_zeros i) (is_switched honest honest_one i))
