-- The smallest image that opens.
use Rattle.std.proofs.Common.{◌≡◌, ℕ, ◌+◌, ◌-◌, ◌<◌, List, ◌++◌, length, get_or, replicate, refl, sym, ◌∙◌, ap, arith, length-append}
use Rattle.std.proofs.lemmas.List.{length-replicate, get_or-replicate, get_or-append_right}
use Rattle.byte_lists.proofs.Contents.{get_or-part}
use Rattle.store_layout.specs.declared.half.Half.TheVariants.{First}
use Rattle.store_layout.specs.Layout.{journal_of}
use Rattle.store_layout.specs.FirstSector.{IsStore}
use Rattle.store_layout.specs.Opening.{OpensTo}
use Rattle.store_layout.specs.TakeOver.{IsFormatted}
use Rattle.store_layout.specs.Worked.{open_sector}
use Rattle.store_layout.specs.WorkedImages.{RawRows, raw_store, small, small_title, empty_area, small_image}
use Rattle.store_layout.proofs.Checkpoints.{first_can_be}
use Rattle.store_layout.proofs.TakeOver.{opens_empty}

four_long : (a b c d : List ℕ) → length (a ++ (b ++ (c ++ d))) ≡ length a + (length b + (length c + length d))
four_long a b c d =
    length-append a (b ++ (c ++ d)) ∙ ap (λ (n : ℕ). length a + n) (length-append b (c ++ d) ∙ ap (λ (n : ℕ). length b + n) (length-append c d))

-- the bytes after three parts
behind_three : (a b c d : List ℕ) (i : ℕ) → length a ≡ 512 → length b ≡ 1024 → length c ≡ 512 → get_or (a ++ (b ++ (c ++ d))) (2048 + i) 0 ≡ get_or d i 0
behind_three a b c d i first second third =
    get_or-append_right a (b ++ (c ++ d)) 512 (2048 + i) 0 first (omega arith)
    ∙ get_or-append_right b (c ++ d) 1024 (2048 + i - 512) 0 second (omega arith)
    ∙ get_or-append_right c d 512 (2048 + i - 512 - 1024) 0 third (omega arith)
    ∙ ap (λ (n : ℕ). get_or d n 0) left
  where
    left : 2048 + i - 512 - 1024 - 512 ≡ i
    left = omega arith

sector_0 : List ℕ
sector_0 = small_title ++ replicate 492 0

area : List ℕ
area = empty_area 2 1 0 ++ replicate 512 0

module _ (behind : List ℕ) (zeros : behind ≡ replicate 529920 0) where
  long : length (small_image behind) ≡ 531968
  unfolding sector_0 area
  long = four_long sector_0 area open_sector behind ∙ ap (λ (n : ℕ). 512 + (1024 + (512 + n))) (ap length zeros ∙ length-replicate {A = ℕ} 529920 0)

  byte_behind : (i : ℕ) → i < 529920 → get_or (small_image behind) (2048 + i) 0 ≡ 0
  unfolding sector_0 area
  byte_behind i below =
      behind_three sector_0 area open_sector behind i refl refl refl ∙ ap (λ (list : List ℕ). get_or list i 0) zeros ∙ get_or-replicate {A = ℕ} 529920 i 0 0 below

  store : IsStore small (small_image behind)
  store = record {
    title = refl;
    limits = record { least_checkpoint = omega arith; most_checkpoint = omega arith; least_journal = omega arith; most_journal = omega arith };
    room = omega (arith, long);
  }

  formatted : IsFormatted raw_store 2 small (small_image behind)
  formatted = record {
    store = store;
    gate = get_or-part 1536 512 (small_image behind) 0 (omega arith) ∙ refl;
    begins = record { can = first_can_be RawRows (List ℕ) raw_store 2 (omega arith) (omega arith); spelled = refl };
    journal = λ opened.
        let zero : 0 ≡ 0xA7 =
        sym (get_or-part 0 512 (journal_of small First (small_image behind)) 0 (omega arith) ∙ get_or-part 2048 264192 (small_image behind) 0 (omega arith) ∙ byte_behind 0 (omega arith)) ∙ opened in
        omega arith;
    second = λ opened.
        let zero : 0 ≡ 0xA7 = sym (get_or-part 267264 512 (small_image behind) 0 (omega arith) ∙ byte_behind 265216 (omega arith)) ∙ opened in
        omega arith;
  }

  pub small_opens : OpensTo raw_store 2 (small_image behind) (record { db = raw_store.empty; place = 0 })
  small_opens = opens_empty RawRows (List ℕ) raw_store 2 2 small (small_image behind) (omega arith) formatted
