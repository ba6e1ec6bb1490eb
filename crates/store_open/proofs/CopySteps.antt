-- A store is made with rows: what a stop leaves at each moment, and what the device has at the end.
use Rattle.std.proofs.Common.{◌≡◌, inl, ℕ, ◌+◌, ◌*◌, ◌≤◌, List, [], length, replicate, refl, sym, ◌∙◌, ap, subst, arith, Result, Ok, Err, OnOk}
use Rattle.std.proofs.lemmas.List.{length-replicate}
use Rattle.byte_lists.specs.Content.{overwrite}
use Rattle.byte_lists.specs.Sectors.{open_gate}
use Rattle.byte_lists.proofs.Contents.{length-overwrite, part_above}
use Rattle.row_map.specs.Database.{RowView}
use Rattle.sector_dev.specs.Disk.{Disk, IsHonest, IsWhole, reads_of}
use Rattle.sector_dev.specs.Image.{EveryImage}
use Rattle.sector_dev.specs.Calls.{SyncCall}
use Rattle.sector_dev.specs.Stretch.{Stretch}
use Rattle.sector_dev.proofs.Images.{image_of_reads, image_is_reads}
use Rattle.sector_dev.proofs.Parts.{reads_synced}
use Rattle.sector_dev.proofs.Stretches.{honest_after, honest_before, stretch_here, stretch_then, stretch_sync, stretch_honest}
use Rattle.store_layout.specs.declared.half.Half.TheVariants.{First, Second}
use Rattle.store_layout.specs.Layout.{Geometry, IsGeometry, image_sectors, area_at, gate_at, area_of}
use Rattle.store_layout.specs.FirstSector.{first_sector}
use Rattle.store_layout.specs.Checkpoint.{CanBeCheckpoint, IsCheckpoint, checkpoint_encoding}
use Rattle.ckpt_pair.specs.Rows.{rows_format}
use Rattle.ckpt_pair.specs.Checkpoint.{written_checkpoint}
use Rattle.store_open.specs.TakingOver.{IsTornAt}
use Rattle.store_open.specs.Behind.{SameBehind}
use Rattle.store_open.specs.Copying.{IsBlank, IsNoneOrWhole, IsBeingMade, IsStoreWith, HoldsStoreWith, MayHoldRows}
use Rattle.store_open.proofs.Gates.{gates_inside}
use Rattle.store_open.proofs.Copies.{IsClosed, untitled, first_closed, both_closed, titled, titled_closed, first_closing, second_closing, titling, rows_keep_closed, rows_begin, gated_whole, gated_either, laying_either}

-- before any call
pub made_here : (geometry : Geometry) (rows : List RowView) (place : ℕ) (start : Disk) → Stretch start start (IsBeingMade geometry rows place start)
made_here geometry rows place start =
    stretch_here (IsBeingMade geometry rows place start) start (λ honest content image. record {
      behind = record { before = content; image = image; related = λ at n far. refl };
      either = λ blank. inl (untitled content (blank content image 0));
    })

-- the calls, one after the other
module _ (geometry : Geometry) (rows : List RowView) (place : ℕ) (start : Disk) (may : MayHoldRows geometry rows start) (whole : IsHonest start → IsWhole start) where
  abbrev Meanwhile : List ℕ → Type 0
  Meanwhile = IsBeingMade geometry rows place start

  abbrev Blank : Type 0
  Blank = EveryImage start.history.now IsBlank

  limits : IsGeometry geometry
  limits = may.room.allowed

  some : 1 ≤ geometry.journal
  some = omega (arith, limits.least_journal)

  room : IsHonest start → 512 * image_sectors geometry ≤ length (reads_of start)
  room honest = omega (arith, (whole honest).size, may.room.room)

  reads_blank : Blank → IsHonest start → IsBlank (reads_of start)
  reads_blank blank honest = blank (reads_of start) (image_of_reads start.history.now (whole honest).bytes)

  closed_so : IsHonest start → IsClosed geometry (titled geometry (reads_of start))
  closed_so honest = titled_closed geometry limits (reads_of start) (room honest)

  -- a content that is the start's, but for the bytes of the store
  record IsOver (content : List ℕ) : Type 0 where
    long : length content ≡ length (reads_of start)
    behind : SameBehind geometry (reads_of start) content

  over_start : IsOver (reads_of start)
  over_start = record { long = refl; behind = λ at n far. refl }

  over_put : IsHonest start → (at : ℕ) (bytes content : List ℕ) → at + length bytes ≤ 512 * image_sectors geometry → IsOver content → IsOver (overwrite at bytes content)
  over_put honest at bytes content inside over =
      let fits : at + length bytes ≤ length content = omega (arith, inside, over.long, room honest) in
      record {
        long = length-overwrite at bytes content fits ∙ over.long;
        behind = λ from n far. part_above at bytes content from n fits (omega (arith, inside, far)) ∙ over.behind from n far;
      }

  -- one more step, of which any bytes may have landed
  step_on : (one two : Disk) (at n : ℕ) (old : List ℕ) → at + n ≤ 512 * image_sectors geometry → Stretch start one Meanwhile → (IsHonest start → reads_of one ≡ old) → (IsHonest start → IsOver old)
      → Stretch one two (IsTornAt at n (reads_of one)) → (Blank → IsHonest start → (bytes : List ℕ) → length bytes ≡ n → IsNoneOrWhole rows place (overwrite at bytes old)) → Stretch start two Meanwhile
  step_on one two at n old inside so_far is over torn either =
      stretch_then Meanwhile start one two so_far
      (stretch_honest (IsTornAt at n (reads_of one)) Meanwhile one two
      (λ honest_one content tear.
      let honest = honest_before start one so_far.keeps honest_one in
      subst Meanwhile (sym (tear.is ∙ ap (overwrite at tear.torn) (is honest)))
      (record {
        behind = record {
          before = reads_of start;
          image = image_of_reads start.history.now (whole honest).bytes;
          related = (over_put honest at tear.torn old (omega (arith, inside, tear.size)) (over honest)).behind;
        };
        either = λ blank. either blank honest tear.torn tear.size;
      }))
      torn)

  module _ {T E : Type 0} (answer : Result T E) (d1 : Disk) (sync : SyncCall answer start d1) where
    reads_one : IsHonest start → reads_of d1 ≡ reads_of start
    reads_one honest = reads_synced answer start d1 sync honest

    pub after_sync : Stretch start d1 Meanwhile
    after_sync = stretch_sync Meanwhile start start d1 answer (made_here geometry rows place start) sync

    module _ (s1 : ℕ) (b1 : List ℕ) (d2 : Disk) (at1 : s1 ≡ gate_at geometry First) (is1 : b1 ≡ replicate 1024 0) (torn1 : Stretch d1 d2 (IsTornAt (512 * s1) (length b1) (reads_of d1))) where
      size1 : length b1 ≡ 1024
      size1 = ap length is1 ∙ length-replicate {A = ℕ} 1024 0

      inside1 : 512 * s1 + length b1 ≤ 512 * image_sectors geometry
      inside1 = omega (arith, at1, size1, gates_inside geometry First some)

      pub after_first : Stretch start d2 Meanwhile
      after_first = step_on d1 d2 (512 * s1) (length b1) (reads_of start) inside1 after_sync reads_one (λ honest. over_start) torn1
          (λ blank honest bytes size. subst (λ (n : ℕ). IsNoneOrWhole rows place (overwrite (512 * n) bytes (reads_of start))) (sym at1)
          (inl (first_closing geometry limits (reads_of start) (room honest) (reads_blank blank honest) bytes (size ∙ size1))))

      module _ (written1 : IsHonest d1 → reads_of d2 ≡ overwrite (512 * s1) b1 (reads_of d1)) where
        reads_two : IsHonest start → reads_of d2 ≡ first_closed geometry (reads_of start)
        reads_two honest = written1 (honest_after start d1 sync.keeps honest) ∙ (λ i. overwrite (512 * at1 i) (is1 i) (reads_one honest i))

        over_one : IsHonest start → IsOver (first_closed geometry (reads_of start))
        over_one honest = over_put honest (512 * gate_at geometry First) (replicate 1024 0) (reads_of start) (omega (arith, length-replicate {A = ℕ} 1024 0, gates_inside geometry First some)) over_start

        module _ (s2 : ℕ) (b2 : List ℕ) (d3 : Disk) (at2 : s2 ≡ gate_at geometry Second) (is2 : b2 ≡ replicate 1024 0) (torn2 : Stretch d2 d3 (IsTornAt (512 * s2) (length b2) (reads_of d2))) where
          size2 : length b2 ≡ 1024
          size2 = ap length is2 ∙ length-replicate {A = ℕ} 1024 0

          inside2 : 512 * s2 + length b2 ≤ 512 * image_sectors geometry
          inside2 = omega (arith, at2, size2, gates_inside geometry Second some)

          pub after_second : Stretch start d3 Meanwhile
          after_second = step_on d2 d3 (512 * s2) (length b2) (first_closed geometry (reads_of start)) inside2 after_first reads_two over_one torn2
              (λ blank honest bytes size. subst (λ (n : ℕ). IsNoneOrWhole rows place (overwrite (512 * n) bytes (first_closed geometry (reads_of start)))) (sym at2)
              (inl (second_closing geometry limits (reads_of start) (room honest) (reads_blank blank honest) bytes (size ∙ size2))))

          module _ (written2 : IsHonest d2 → reads_of d3 ≡ overwrite (512 * s2) b2 (reads_of d2)) where
            honest_two : IsHonest start → IsHonest d2
            honest_two honest = honest_after d1 d2 torn1.keeps (honest_after start d1 sync.keeps honest)

            reads_three : IsHonest start → reads_of d3 ≡ both_closed geometry (reads_of start)
            reads_three honest = written2 (honest_two honest) ∙ (λ i. overwrite (512 * at2 i) (is2 i) (reads_two honest i))

            over_two : IsHonest start → IsOver (both_closed geometry (reads_of start))
            over_two honest = over_put honest (512 * gate_at geometry Second) (replicate 1024 0) (first_closed geometry (reads_of start))
                (omega (arith, length-replicate {A = ℕ} 1024 0, gates_inside geometry Second some)) (over_one honest)

            module _ (b3 : List ℕ) (d4 : Disk) (is3 : b3 ≡ first_sector geometry) (torn3 : Stretch d3 d4 (IsTornAt (512 * 0) (length b3) (reads_of d3))) where
              size3 : length b3 ≡ 512
              size3 = ap length is3

              pub after_title : Stretch start d4 Meanwhile
              after_title = step_on d3 d4 (512 * 0) (length b3) (both_closed geometry (reads_of start)) (omega (arith, size3)) after_second reads_three over_two torn3
                  (λ blank honest bytes size. inl (titling geometry limits (reads_of start) (room honest) (reads_blank blank honest) bytes (size ∙ size3)))

              module _ (written3 : IsHonest d3 → reads_of d4 ≡ overwrite (512 * 0) b3 (reads_of d3)) where
                honest_three : IsHonest start → IsHonest d3
                honest_three honest = honest_after d2 d3 torn2.keeps (honest_two honest)

                reads_four : IsHonest start → reads_of d4 ≡ titled geometry (reads_of start)
                reads_four honest = written3 (honest_three honest) ∙ (λ i. overwrite (512 * 0) (is3 i) (reads_three honest i))

                over_three : IsHonest start → IsOver (titled geometry (reads_of start))
                over_three honest = over_put honest (512 * 0) (first_sector geometry) (both_closed geometry (reads_of start)) (omega arith) (over_two honest)

                module _ (s4 : ℕ) (b4 : List ℕ) (d5 : Disk) (at4 : s4 ≡ area_at geometry First) (fits : length b4 ≤ 512 * geometry.checkpoint)
                    (torn4 : Stretch d4 d5 (IsTornAt (512 * s4) (length b4) (reads_of d4))) where
                  pub after_rows : Stretch start d5 Meanwhile
                  after_rows = step_on d4 d5 (512 * s4) (length b4) (titled geometry (reads_of start)) (omega (arith, at4, fits)) after_title reads_four over_three torn4
                      (λ blank honest bytes size. subst (λ (n : ℕ). IsNoneOrWhole rows place (overwrite (512 * n) bytes (titled geometry (reads_of start)))) (sym at4)
                      (laying_either geometry (titled geometry (reads_of start)) rows place (closed_so honest) bytes (omega (arith, size, fits))))

                  module _ (written4 : IsHonest d4 → reads_of d5 ≡ overwrite (512 * s4) b4 (reads_of d4))
                      (spelled : b4 ≡ checkpoint_encoding rows_format (written_checkpoint 1 place rows)) (can : CanBeCheckpoint rows_format (written_checkpoint 1 place rows)) where
                    abbrev content : List ℕ
                    content = overwrite (512 * area_at geometry First) b4 (titled geometry (reads_of start))

                    honest_four : IsHonest start → IsHonest d4
                    honest_four honest = honest_after d3 d4 torn3.keeps (honest_three honest)

                    reads_five : IsHonest start → reads_of d5 ≡ content
                    reads_five honest = written4 (honest_four honest) ∙ (λ i. overwrite (512 * at4 i) b4 (reads_four honest i))

                    over_four : IsHonest start → IsOver content
                    over_four honest = over_put honest (512 * area_at geometry First) b4 (titled geometry (reads_of start)) (omega (arith, fits)) (over_three honest)

                    still_closed : IsHonest start → IsClosed geometry content
                    still_closed honest = rows_keep_closed geometry (titled geometry (reads_of start)) (closed_so honest) b4 fits

                    begins : IsHonest start → IsCheckpoint rows_format (area_of geometry First content) (written_checkpoint 1 place rows)
                    begins honest = rows_begin geometry (titled geometry (reads_of start)) (closed_so honest) (written_checkpoint 1 place rows) b4 spelled can fits

                    module _ (s5 : ℕ) (b5 : List ℕ) (d6 : Disk) (at5 : s5 ≡ gate_at geometry First) (is5 : b5 ≡ open_gate)
                        (torn5 : Stretch d5 d6 (IsTornAt (512 * s5) (length b5) (reads_of d5))) where
                      size5 : length b5 ≡ 512
                      size5 = ap length is5

                      inside5 : 512 * s5 + length b5 ≤ 512 * image_sectors geometry
                      inside5 = omega (arith, at5, size5, gates_inside geometry First some)

                      pub after_gate : Stretch start d6 Meanwhile
                      after_gate = step_on d5 d6 (512 * s5) (length b5) content inside5 after_rows reads_five over_four torn5
                          (λ blank honest bytes size. subst (λ (n : ℕ). IsNoneOrWhole rows place (overwrite (512 * n) bytes content)) (sym at5)
                          (gated_either geometry content (still_closed honest) (written_checkpoint 1 place rows) (begins honest) (omega arith) bytes (size ∙ size5)))

                      honest_five : IsHonest start → IsHonest d5
                      honest_five honest = honest_after d4 d5 torn4.keeps (honest_four honest)

                      whole_now : IsHonest start → reads_of d6 ≡ overwrite (512 * s5) b5 (reads_of d5) → IsStoreWith geometry rows place (reads_of d6)
                      whole_now honest is = subst (IsStoreWith geometry rows place) (sym (is ∙ (λ i. overwrite (512 * at5 i) (is5 i) (reads_five honest i))))
                          (gated_whole geometry content (still_closed honest) (written_checkpoint 1 place rows) (begins honest) (omega arith) open_gate refl refl)

                      pub all_written : {U F : Type 0} (last : Result U F) → OnOk last (IsHonest d5 → d6.history.now.dirty ≡ []) → OnOk last (IsHonest d5 → reads_of d6 ≡ overwrite (512 * s5) b5 (reads_of d5))
                          → OnOk last (IsHonest start → HoldsStoreWith geometry rows place d6)
                      all_written (Err _) settled written = tt
                      all_written (Ok _) settled written = λ honest.
                          let there = whole_now honest (written (honest_five honest)) in
                          record {
                            every = λ content image. subst (IsStoreWith geometry rows place) (sym (image_is_reads d6.history.now content (settled (honest_five honest)) image)) there;
                            reads = there;
                          }
