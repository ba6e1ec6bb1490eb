-- Sector 0: the sizes of a store are read, and sizes that are read are those of a store.
use Rattle.std.proofs.Common.{◌≡◌, ℕ, ◌+◌, ◌^◌, ◌<◌, ◌≤◌, ◌&&◌, Bool, true, false, cond, leb, eqb, List, ◌++◌, length, take, drop, Some, None, Option, refl, sym, ◌∙◌, ap, subst, arith, take-append-drop, eq-eqb, eqb-true, le-leb, leb-true}
use Rattle.std.proofs.lemmas.Bool.{and_from, and_parts}
use Rattle.std.proofs.lemmas.List.{drop-drop}
use Rattle.std.proofs.lemmas.Nat.{from_be_bytes-to_be_bytes_4, from_be_bytes-to_be_bytes_8}
use Rattle.std.proofs.Math.Seq.{take-add}
use Rattle.std.specs.Int.{w32, w64, to_be_bytes}
use Rattle.byte_lists.specs.Content.{AreBytes, part}
use Rattle.byte_lists.specs.Numbers.{four_at, eight_at}
use Rattle.byte_lists.specs.Sectors.{whole_sectors}
use Rattle.byte_lists.proofs.Contents.{length-overwrite}
use Rattle.byte_lists.proofs.BigEndian.{encoded-four_at, encoded-eight_at}
use Rattle.store_layout.specs.Layout.{Geometry, IsGeometry, image_sectors}
use Rattle.store_layout.specs.FirstSector.{store_magic, layout_number, title_encoding, first_sector, IsStore, sizes_in, is_geometry, is_store, geometry_in}
use Rattle.store_layout.specs.CheckpointLaws.{IsStoreReadSo, FirstSectorMakesStore}

-- a list that begins with a part
pub begins_with : (n : ℕ) (xs start : List ℕ) → take n xs ≡ start → xs ≡ start ++ drop n xs
begins_with n xs start is = sym (take-append-drop n xs) ∙ ap (λ (list : List ℕ). list ++ drop n xs) is

-- a part in two
pub split_part : (at n m : ℕ) (p : List ℕ) → part at (n + m) p ≡ part at n p ++ part (at + n) m p
split_part at n m p = take-add n m (drop at p) ∙ ap (λ (list : List ℕ). part at n p ++ take m list) (drop-drop n at p)

-- a test that was passed
pub some_if : {X : Type 0} (b : Bool) (found : Option X) (x : X) → cond b found None ≡ Some x → (b ≡ true) × (found ≡ Some x)
some_if true found x is = (refl, is)
some_if false found x is = cc

-- the test of the sizes
pub geometry_true : (g : Geometry) → IsGeometry g → is_geometry g ≡ true
geometry_true g is =
    and_from _ _ (and_from _ _ (and_from _ _ (le-leb _ _ is.least_checkpoint) (le-leb _ _ is.most_checkpoint)) (le-leb _ _ is.least_journal)) (le-leb _ _ is.most_journal)

pub geometry_from : (g : Geometry) → is_geometry g ≡ true → IsGeometry g
geometry_from g is =
    let three = and_parts _ _ is in
    let two = and_parts _ _ three.0 in
    let one = and_parts _ _ two.0 in
    record { least_checkpoint = leb-true _ _ one.0; most_checkpoint = leb-true _ _ one.1; least_journal = leb-true _ _ two.1; most_journal = leb-true _ _ three.1 }

-- the numbers of a title
module _ (g : Geometry) (rest : List ℕ) where
  magic_read : eight_at 0 (title_encoding g ++ rest) ≡ store_magic
  magic_read = from_be_bytes-to_be_bytes_8 store_magic (omega arith)

  number_read : four_at 8 (title_encoding g ++ rest) ≡ layout_number
  number_read = from_be_bytes-to_be_bytes_4 layout_number (omega arith)

  checkpoint_read : g.checkpoint < 2 ^ 32 → four_at 12 (title_encoding g ++ rest) ≡ g.checkpoint
  checkpoint_read small = from_be_bytes-to_be_bytes_4 g.checkpoint small

  journal_read : g.journal < 2 ^ 32 → four_at 16 (title_encoding g ++ rest) ≡ g.journal
  journal_read small = from_be_bytes-to_be_bytes_4 g.journal small

-- a store is read
pub store_read : (image : List ℕ) (g : Geometry) → IsStore g image → geometry_in image ≡ Some g
store_read image g is = ap (λ (b : Bool). cond b (Some (sizes_in image)) None) store ∙ ap Some sizes
  where
    begins : image ≡ title_encoding g ++ drop 20 image
    begins = begins_with 20 image (title_encoding g) is.title

    magic : eight_at 0 image ≡ store_magic
    magic = ap (eight_at 0) begins ∙ magic_read g (drop 20 image)

    number : four_at 8 image ≡ layout_number
    number = ap (four_at 8) begins ∙ number_read g (drop 20 image)

    checkpoint : four_at 12 image ≡ g.checkpoint
    checkpoint = ap (four_at 12) begins ∙ checkpoint_read g (drop 20 image) (omega (arith, is.limits))

    journal : four_at 16 image ≡ g.journal
    journal = ap (four_at 16) begins ∙ journal_read g (drop 20 image) (omega (arith, is.limits))

    sizes : sizes_in image ≡ g
    sizes = λ i. record { checkpoint = checkpoint i; journal = journal i }

    store : is_store image ≡ true
    store = and_from _ _ (and_from _ _ (and_from _ _ (eq-eqb _ _ magic) (eq-eqb _ _ number)) (ap is_geometry sizes ∙ geometry_true g is.limits))
        (ap (λ (s : Geometry). leb (image_sectors s) (whole_sectors image)) sizes ∙ le-leb _ _ is.room)

-- an image that is read as a store's is one
pub store_from : (image : List ℕ) (g : Geometry) → AreBytes image → geometry_in image ≡ Some g → IsStore g image
store_from image g each is = record {
  title = title;
  limits = subst IsGeometry sizes (geometry_from (sizes_in image) two.1);
  room = subst (λ (s : Geometry). image_sectors s ≤ whole_sectors image) sizes room;
}
  where
    found : (is_store image ≡ true) × (Some (sizes_in image) ≡ Some g)
    found = some_if (is_store image) (Some (sizes_in image)) g is

    sizes : sizes_in image ≡ g
    sizes = let same = found.1 in cc

    magic_so : Bool
    magic_so = eqb (eight_at 0 image) store_magic

    number_so : Bool
    number_so = eqb (four_at 8 image) layout_number

    limits_so : Bool
    limits_so = is_geometry (sizes_in image)

    room_so : Bool
    room_so = leb (image_sectors (sizes_in image)) (whole_sectors image)

    three : (magic_so && number_so && limits_so ≡ true) × (room_so ≡ true)
    three = and_parts (magic_so && number_so && limits_so) room_so found.0

    two : (magic_so && number_so ≡ true) × (limits_so ≡ true)
    two = and_parts (magic_so && number_so) limits_so three.0

    one : (magic_so ≡ true) × (number_so ≡ true)
    one = and_parts magic_so number_so two.0

    room : image_sectors (sizes_in image) ≤ whole_sectors image
    room = leb-true _ _ three.1

    title : take 20 image ≡ title_encoding g
    title =
        split_part 0 8 12 image ∙ ap (λ (list : List ℕ). part 0 8 image ++ list) (split_part 8 4 8 image ∙ ap (λ (list : List ℕ). part 8 4 image ++ list) (split_part 12 4 4 image))
        ∙ (λ i. magic i ++ (number i ++ (checkpoint i ++ journal i)))
      where
        magic : part 0 8 image ≡ to_be_bytes w64 store_magic
        magic = sym (encoded-eight_at 0 image each (omega (arith, room))) ∙ ap (to_be_bytes w64) (eqb-true _ _ one.0)

        number : part 8 4 image ≡ to_be_bytes w32 layout_number
        number = sym (encoded-four_at 8 image each (omega (arith, room))) ∙ ap (to_be_bytes w32) (eqb-true _ _ one.1)

        checkpoint : part 12 4 image ≡ to_be_bytes w32 g.checkpoint
        checkpoint = sym (encoded-four_at 12 image each (omega (arith, room))) ∙ ap (λ (s : Geometry). to_be_bytes w32 s.checkpoint) sizes

        journal : part 16 4 image ≡ to_be_bytes w32 g.journal
        journal = sym (encoded-four_at 16 image each (omega (arith, room))) ∙ ap (λ (s : Geometry). to_be_bytes w32 s.journal) sizes

pub is_store_read_so : IsStoreReadSo
is_store_read_so image g each = (store_from image g each, store_read image g)

pub first_sector_makes_store : FirstSectorMakesStore
first_sector_makes_store image g limits room = record {
  title = refl;
  limits = limits;
  room = omega (arith, length-overwrite 0 (first_sector g) image inside);
}
  where
    inside : 0 + length (first_sector g) ≤ length image
    inside = omega (arith, room)
