-- What a stop may leave of a file is, in front, what a stop may leave of the device over it: at one
-- moment, and at each moment of a call.
use Rattle.std.proofs.Common.{◌≡◌, ℕ, ◌+◌, ◌*◌, ◌<◌, ◌≤◌, min, inl, inr, List, [], ◌∷◌, ◌++◌, length, get_or, drop, Any, refl, sym, ◌∙◌, ap, subst, arith, append_assoc, get_or-take, Result}
use Rattle.std.proofs.lemmas.Bool.{cases_lt}
use Rattle.std.proofs.lemmas.List.{drop_at, length-take, get_or_past}
use Rattle.byte_lists.specs.Content.{overwrite}
use Rattle.byte_lists.proofs.Contents.{length-overwrite}
use Rattle.sector_dev.specs.Disk.{ByteRange, Moment}
use Rattle.sector_dev.specs.Image.{IsClean, IsImage}
use Rattle.sector_dev.specs.PositionedFile.{FileState, CoversDirty, FileGoesOn, IsWriteMoment, IsSyncMoment}
use Rattle.sector_dev.specs.FileDevice.{LandsWhole, IsCoveredBy, front}
use Rattle.sector_dev.proofs.Images.{clean_before, image_of_other, overwrite_beside}
use Rattle.sector_dev.proofs.FileMoments.{goes_on_weaker}

-- the front of an image of a file is an image of the front, where no more is clean
pub image_front : (sectors : ℕ) (bytes content : List ℕ) (file dirty : List ByteRange) → ((i : ℕ) → IsClean dirty i → IsClean file i) → IsImage (record { reads = bytes; dirty = file }) content
    → IsImage (record { reads = front sectors bytes; dirty = dirty }) (front sectors content)
image_front sectors bytes content file dirty covers image = record {
  size = length-take (512 * sectors) content ∙ ap (λ (n : ℕ). min (512 * sectors) n) image.size ∙ sym (length-take (512 * sectors) bytes);
  bytes = λ i. byte i;
  clean = λ i clean. same i (image.clean i (covers i clean));
}
  where
    past : (list : List ℕ) (i : ℕ) → 512 * sectors ≤ i → get_or (front sectors list) i 0 ≡ 0
    past list i behind = get_or_past (front sectors list) i 0 (omega (arith, length-take (512 * sectors) list))

    byte : (i : ℕ) → get_or (front sectors content) i 0 < 256
    byte i = elim (cases_lt i (512 * sectors)) [
      | inl below ↦ omega (arith, get_or-take (512 * sectors) content i 0 below, image.bytes i)
      | inr behind ↦ omega (arith, past content i behind)
    ]

    same : (i : ℕ) → get_or content i 0 ≡ get_or bytes i 0 → get_or (front sectors content) i 0 ≡ get_or (front sectors bytes) i 0
    same i is = elim (cases_lt i (512 * sectors)) [
      | inl below ↦ get_or-take (512 * sectors) content i 0 below ∙ is ∙ sym (get_or-take (512 * sectors) bytes i 0 below)
      | inr behind ↦ past content i behind ∙ sym (past bytes i behind)
    ]

-- the moments of a device since an earlier one
moments_since : (past rest all : List Moment) (now : Moment) → all ≡ past ++ now ∷ rest → drop (length past) all ≡ now ∷ rest
moments_since past rest all now is = ap (λ (list : List Moment). drop (length past) list) is ∙ drop_at past (now ∷ rest) (length past) refl

-- an image of a file in the middle of a write is an image of it after the write
image_within : (at : ℕ) (bytes landed content : List ℕ) (old : FileState) (dirty : List ByteRange) (m : Moment) → length landed ≡ length bytes → at + length bytes ≤ length old.bytes → CoversDirty dirty old → IsWriteMoment at bytes old m
    → IsImage m content → IsImage (record { reads = overwrite at landed old.bytes; dirty = record { start = at; len = length bytes } ∷ dirty }) content
image_within at bytes landed content old dirty m size inside covers wrote image =
    image_of_other m (record { reads = overwrite at landed old.bytes; dirty = record { start = at; len = length bytes } ∷ dirty }) content
    (ap length wrote.lands.is ∙ length-overwrite at wrote.lands.landed old.bytes (omega (arith, wrote.lands.size)) ∙ sym (length-overwrite at landed old.bytes (omega (arith, size))))
    (λ i clean.
    let both = clean_before at (length bytes) dirty i clean in (
      wrote.dirty i (covers i both.1) both.0,
      ap (λ (list : List ℕ). get_or list i 0) wrote.lands.is ∙ beside wrote.lands.landed wrote.lands.size i both.0 ∙ sym (beside landed size i both.0),
    ))
    image
  where
    beside : (some : List ℕ) → length some ≡ length bytes → (i : ℕ) → (at ≤ i → at + length bytes ≤ i) → get_or (overwrite at some old.bytes) i 0 ≡ get_or old.bytes i 0
    beside some is i apart = overwrite_beside at some old.bytes i (omega (arith, is)) (λ from. omega (arith, is, apart from))

-- the moments of a file in a write of the device over it are covered by the moment after the write
module _ (sectors at : ℕ) (bytes : List ℕ) (old new : FileState) (past later : List Moment) (dirty dirtied : List ByteRange) where
  abbrev first : Moment
  first = record { reads = front sectors old.bytes; dirty = dirty }

  abbrev last : Moment
  last = record { reads = front sectors new.bytes; dirty = dirtied }

  pub write_covered : {T E : Type 0} (result : Result T E) → 512 * at + length bytes ≤ 512 * sectors → 512 * sectors ≤ length old.bytes → CoversDirty dirty old → LandsWhole (512 * at) bytes result old.bytes new.bytes
      → FileGoesOn old new (IsWriteMoment (512 * at) bytes old) → (later ≡ past ++ first ∷ []) × (dirtied ≡ record { start = 512 * at; len = length bytes } ∷ dirty)
      → FileGoesOn old new (IsCoveredBy sectors (drop (length past) (later ++ last ∷ [])))
  write_covered result inside covered covers lands moments trail = goes_on_weaker (IsWriteMoment (512 * at) bytes old) (IsCoveredBy sectors (drop (length past) (later ++ last ∷ []))) old new (λ m wrote content image. each m wrote content image) moments
    where
      range : ByteRange
      range = record { start = 512 * at; len = length bytes }

      all : later ++ last ∷ [] ≡ past ++ first ∷ last ∷ []
      all = ap (λ (list : List Moment). list ++ last ∷ []) trail.0 ∙ append_assoc past (first ∷ []) (last ∷ [])

      image_after : (content : List ℕ) → IsImage (record { reads = overwrite (512 * at) lands.landed old.bytes; dirty = range ∷ dirty }) content → IsImage last (front sectors content)
      image_after content image =
          subst {A = Moment} (λ (m : Moment). IsImage m (front sectors content)) (λ i. record { reads = front sectors (sym lands.is i); dirty = sym trail.1 i })
          (image_front sectors (overwrite (512 * at) lands.landed old.bytes) content (range ∷ dirty) (range ∷ dirty) (λ i clean. clean) image)

      each : (m : Moment) → IsWriteMoment (512 * at) bytes old m → (content : List ℕ) → IsImage m content → Any (λ (k : Moment). IsImage k (front sectors content)) (drop (length past) (later ++ last ∷ []))
      each m wrote content image =
          subst (λ (list : List Moment). Any (λ (k : Moment). IsImage k (front sectors content)) list) (sym (moments_since past (last ∷ []) (later ++ last ∷ []) first all))
          (1, last, omega arith, refl, image_after content (image_within (512 * at) bytes lands.landed content old dirty m lands.size (omega (arith, inside, covered)) covers wrote image))

-- the moments of a file in a sync of the device over it are covered by the moment before the sync
pub sync_covered : (sectors : ℕ) (old new : FileState) (past rest all : List Moment) (dirty : List ByteRange) (bytes : List ℕ) → CoversDirty dirty old → bytes ≡ old.bytes
    → all ≡ past ++ record { reads = front sectors bytes; dirty = dirty } ∷ rest → FileGoesOn old new (IsSyncMoment old) → FileGoesOn old new (IsCoveredBy sectors (drop (length past) all))
sync_covered sectors old new past rest all dirty bytes covers same is moments = goes_on_weaker (IsSyncMoment old) (IsCoveredBy sectors (drop (length past) all)) old new (λ m synced content image. each m synced content image) moments
  where
    before : Moment
    before = record { reads = front sectors bytes; dirty = dirty }

    each : (m : Moment) → IsSyncMoment old m → (content : List ℕ) → IsImage m content → Any (λ (k : Moment). IsImage k (front sectors content)) (drop (length past) all)
    each m synced content image =
        subst (λ (list : List Moment). Any (λ (k : Moment). IsImage k (front sectors content)) list) (sym (moments_since past rest all before is)) (
          0,
          before,
          omega arith,
          refl,
          image_front sectors bytes content m.dirty dirty (λ i clean. synced.clean i (covers i clean))
              (subst {A = Moment} (λ (k : Moment). IsImage k content) (λ i. record { reads = (synced.reads ∙ sym same) i; dirty = m.dirty }) image),
        )
