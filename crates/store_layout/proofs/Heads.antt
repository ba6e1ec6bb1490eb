-- Heads: a head at the front of an area is read, what is read is there, and each refusal of a head
-- means what is defined.
use Rattle.std.proofs.Common.{◌≡◌, ℕ, ◌+◌, ◌^◌, ◌<◌, ◌≤◌, zero, suc, Bool, true, false, leb, eqb, List, [], ◌∷◌, ◌++◌, length, take, drop, Ok, Err, Result, refl, sym, ◌∙◌, ap, arith, eq-eqb, eqb-true, le-leb, leb-true}
use Rattle.std.proofs.lemmas.Bool.{eqb-false, leb-false, lt-leb}
use Rattle.std.proofs.lemmas.Nat.{from_be_bytes-to_be_bytes_4, from_be_bytes-to_be_bytes_8}
use Rattle.std.specs.Int.{w32, w64, to_be_bytes, from_be_bytes}
use Rattle.byte_lists.specs.Content.{AreBytes, part}
use Rattle.byte_lists.specs.Numbers.{four_at, eight_at}
use Rattle.byte_lists.proofs.Contents.{bytes-part}
use Rattle.byte_lists.proofs.BigEndian.{encoded-four_at, encoded-eight_at}
use Rattle.store_layout.specs.GroupReading.{refuse_unless}
use Rattle.store_layout.specs.Checkpoint.{Head, checkpoint_magic, checkpoint_head_encoding, CanBeHead, IsHead}
use Rattle.store_layout.specs.CheckpointReading.{PairRefusal, NoHalf, SameEpoch, BadCheckpoint, SealedNewer, NewerFormat, version_in, numbers_in, head_in, IsHeadRefusal}
use Rattle.store_layout.specs.CheckpointLaws.{IsHeadReadSo, IsHeadRefusedSo, HeadGoesByItsFront}
use Rattle.store_layout.proofs.Titles.{begins_with, split_part}

-- the numbers of a head, whatever bytes come after it
module _ (head : Head) (can : CanBeHead head) (rest : List ℕ) where
  magic_read : four_at 0 (checkpoint_head_encoding head ++ rest) ≡ checkpoint_magic
  magic_read = from_be_bytes-to_be_bytes_4 checkpoint_magic (omega arith)

  version_read : four_at 4 (checkpoint_head_encoding head ++ rest) ≡ head.version
  version_read = from_be_bytes-to_be_bytes_4 head.version can.version

  epoch_read : eight_at 8 (checkpoint_head_encoding head ++ rest) ≡ head.epoch
  epoch_read = from_be_bytes-to_be_bytes_8 head.epoch can.epoch

  place_read : eight_at 16 (checkpoint_head_encoding head ++ rest) ≡ head.place
  place_read = from_be_bytes-to_be_bytes_8 head.place (omega (arith, can.place))

-- how an area that begins with a head is read
module _ (area : List ℕ) (head : Head) (is : IsHead area head) where
  area_begins : area ≡ checkpoint_head_encoding head ++ drop 24 area
  area_begins = begins_with 24 area (checkpoint_head_encoding head) is.spelled

  pub magic_is : four_at 0 area ≡ checkpoint_magic
  magic_is = ap (four_at 0) area_begins ∙ magic_read head is.can (drop 24 area)

  pub version_is : version_in area ≡ head.version
  version_is = ap (four_at 4) area_begins ∙ version_read head is.can (drop 24 area)

  pub numbers_are : numbers_in area ≡ head
  numbers_are = λ i. record {
    version = version_is i;
    epoch = (ap (eight_at 8) area_begins ∙ epoch_read head is.can (drop 24 area)) i;
    place = (ap (eight_at 16) area_begins ∙ place_read head is.can (drop 24 area)) i;
  }

  pub head_read : (latest : ℕ) → head.version ≤ latest → head_in latest area ≡ Ok head
  head_read latest known =
      ap (λ (b : Bool). refuse_unless b BadCheckpoint (refuse_unless (leb 1 (version_in area)) BadCheckpoint (refuse_unless (leb (version_in area) latest) (NewerFormat (version_in area)) (Ok (numbers_in area)))))
      (eq-eqb _ _ magic_is)
      ∙ ap (λ (b : Bool). refuse_unless b BadCheckpoint (refuse_unless (leb (version_in area) latest) (NewerFormat (version_in area)) (Ok (numbers_in area)))) (le-leb _ _ (omega (arith, version_is, is.can.some)))
      ∙ ap (λ (b : Bool). refuse_unless b (NewerFormat (version_in area)) (Ok (numbers_in area))) (le-leb _ _ (omega (arith, version_is)))
      ∙ ap (λ (h : Head). let r : Result Head PairRefusal = Ok h in r) numbers_are

pub passed : {X E : Type 0} (b : Bool) (refusal : E) (behind : Result X E) (x : X) → refuse_unless b refusal behind ≡ Ok x → (b ≡ true) × (behind ≡ Ok x)
passed true refusal behind x is = (refl, is)
passed false refusal behind x is = cc

-- what the tests decide
record HeadTests (latest : ℕ) (area : List ℕ) (head : Head) : Type 0 where
  magic : four_at 0 area ≡ checkpoint_magic
  some : 1 ≤ version_in area
  known : version_in area ≤ latest
  numbers : numbers_in area ≡ head

tests_from : (latest : ℕ) (area : List ℕ) (head : Head) → head_in latest area ≡ Ok head → HeadTests latest area head
tests_from latest area head is =
    let one = passed (eqb (four_at 0 area) checkpoint_magic) BadCheckpoint
    (refuse_unless (leb 1 (version_in area)) BadCheckpoint (refuse_unless (leb (version_in area) latest) (NewerFormat (version_in area)) (Ok (numbers_in area)))) head is in
    let two = passed (leb 1 (version_in area)) BadCheckpoint (refuse_unless (leb (version_in area) latest) (NewerFormat (version_in area)) (Ok (numbers_in area))) head one.1 in
    let three = passed (leb (version_in area) latest) (NewerFormat (version_in area)) (Ok (numbers_in area)) head two.1 in
    let same : Ok (numbers_in area) ≡ Ok head = three.1 in
    record { magic = eqb-true _ _ one.0; some = leb-true _ _ two.0; known = leb-true _ _ three.0; numbers = cc }

pub four_small : (at : ℕ) (area : List ℕ) → AreBytes area → at + 4 ≤ length area → four_at at area < 2 ^ 32
four_small at area each inside = let b = bytes-part at 4 area each in omega (arith, b 0, b 1, b 2, b 3)

pub eight_small : (at : ℕ) (area : List ℕ) → AreBytes area → at + 8 ≤ length area → eight_at at area < 2 ^ 64
eight_small at area each inside = let b = bytes-part at 8 area each in omega (arith, b 0, b 1, b 2, b 3, b 4, b 5, b 6, b 7)

-- a head that was read
pub head_from : (latest : ℕ) (area : List ℕ) (head : Head) → AreBytes area → 24 ≤ length area → head_in latest area ≡ Ok head → IsHead area head × (head.version ≤ latest)
head_from latest area head each long is = (record { can = can; spelled = spelled }, omega (arith, tests.known, version))
  where
    tests : HeadTests latest area head
    tests = tests_from latest area head is

    version : version_in area ≡ head.version
    version = ap (λ (h : Head). h.version) tests.numbers

    epoch : eight_at 8 area ≡ head.epoch
    epoch = ap (λ (h : Head). h.epoch) tests.numbers

    place : eight_at 16 area ≡ head.place
    place = ap (λ (h : Head). h.place) tests.numbers

    can : CanBeHead head
    can = record {
      some = omega (arith, tests.some, version);
      version = omega (arith, four_small 4 area each (omega arith), version);
      epoch = omega (arith, eight_small 8 area each (omega arith), epoch);
      place = omega (arith, eight_small 16 area each (omega arith), place);
    }

    spelled : take 24 area ≡ checkpoint_head_encoding head
    spelled =
        split_part 0 4 20 area ∙ ap (λ (list : List ℕ). part 0 4 area ++ list) (split_part 4 4 16 area ∙ ap (λ (list : List ℕ). part 4 4 area ++ list) (split_part 8 8 8 area))
        ∙ (λ i. one i ++ (two i ++ (three i ++ four i)))
      where
        one : part 0 4 area ≡ to_be_bytes w32 checkpoint_magic
        one = sym (encoded-four_at 0 area each (omega arith)) ∙ ap (to_be_bytes w32) tests.magic

        two : part 4 4 area ≡ to_be_bytes w32 head.version
        two = sym (encoded-four_at 4 area each (omega arith)) ∙ ap (to_be_bytes w32) version

        three : part 8 8 area ≡ to_be_bytes w64 head.epoch
        three = sym (encoded-eight_at 8 area each (omega arith)) ∙ ap (to_be_bytes w64) epoch

        four : part 16 8 area ≡ to_be_bytes w64 head.place
        four = sym (encoded-eight_at 16 area each (omega arith)) ∙ ap (to_be_bytes w64) place

pub is_head_read_so : IsHeadReadSo
is_head_read_so latest area head each long = (head_from latest area head each long, λ so. head_read area head so.0 latest so.1)

-- a head that is refused: by the magic, the version, and whether it is known
module _ (latest : ℕ) (area : List ℕ) where
  abbrev by_known : Bool → Result Head PairRefusal
  by_known known = refuse_unless known (NewerFormat (version_in area)) (Ok (numbers_in area))

  abbrev by_some : Bool → Result Head PairRefusal
  by_some some = refuse_unless some BadCheckpoint (by_known (leb (version_in area) latest))

  abbrev by_magic : Bool → Result Head PairRefusal
  by_magic magic = refuse_unless magic BadCheckpoint (by_some (leb 1 (version_in area)))

  refused_from_known : (magic : four_at 0 area ≡ checkpoint_magic) → (version_in area ≡ 0 → ⊥) → (b : Bool) → leb (version_in area) latest ≡ b → (refusal : PairRefusal) → by_known b ≡ Err refusal → IsHeadRefusal refusal latest area
  refused_from_known magic some true known refusal is = cc
  refused_from_known magic some false newer (NewerFormat version) is = let same : version_in area ≡ version = cc in (magic, some, same, omega (arith, leb-false (version_in area) latest newer))
  refused_from_known magic some false newer NoHalf is = cc
  refused_from_known magic some false newer SameEpoch is = cc
  refused_from_known magic some false newer BadCheckpoint is = cc
  refused_from_known magic some false newer SealedNewer is = cc

  refused_from_some : (magic : four_at 0 area ≡ checkpoint_magic) → (b : Bool) → leb 1 (version_in area) ≡ b → (refusal : PairRefusal) → by_some b ≡ Err refusal → IsHeadRefusal refusal latest area
  refused_from_some magic true some refusal is = refused_from_known magic (λ none. omega (arith, leb-true 1 (version_in area) some)) (leb (version_in area) latest) refl refusal is
  refused_from_some magic false none BadCheckpoint is = λ _. omega (arith, leb-false 1 (version_in area) none)
  refused_from_some magic false none NoHalf is = cc
  refused_from_some magic false none SameEpoch is = cc
  refused_from_some magic false none SealedNewer is = cc
  refused_from_some magic false none (NewerFormat version) is = cc

  pub refused_from_magic : (b : Bool) → eqb (four_at 0 area) checkpoint_magic ≡ b → (refusal : PairRefusal) → by_magic b ≡ Err refusal → IsHeadRefusal refusal latest area
  refused_from_magic true magic refusal is = refused_from_some (eqb-true _ _ magic) (leb 1 (version_in area)) refl refusal is
  refused_from_magic false other BadCheckpoint is = λ magic. absurd (eqb-false _ _ other magic)
  refused_from_magic false other NoHalf is = cc
  refused_from_magic false other SameEpoch is = cc
  refused_from_magic false other SealedNewer is = cc
  refused_from_magic false other (NewerFormat version) is = cc

  -- an area is refused where the definition of the refusal holds
  pub refused_head : (refusal : PairRefusal) → IsHeadRefusal refusal latest area → head_in latest area ≡ Err refusal
  refused_head NoHalf never = absurd never
  refused_head SameEpoch never = absurd never
  refused_head SealedNewer never = absurd never
  refused_head BadCheckpoint bad = by_test (eqb (four_at 0 area) checkpoint_magic) refl
    where
      by_test : (b : Bool) → eqb (four_at 0 area) checkpoint_magic ≡ b → by_magic b ≡ Err BadCheckpoint
      by_test false other = refl
      by_test true magic = ap by_some none
        where
          none : leb 1 (version_in area) ≡ false
          none = lt-leb 1 (version_in area) (omega (arith, bad (eqb-true _ _ magic)))
  refused_head (NewerFormat version) newer =
      ap by_magic (eq-eqb _ _ newer.0) ∙ ap by_some (le-leb 1 (version_in area) (omega (arith, newer.1))) ∙ ap by_known above
      ∙ ap (λ (n : ℕ). let r : Result Head PairRefusal = Err (NewerFormat n) in r) newer.2
    where
      above : leb (version_in area) latest ≡ false
      above = lt-leb (version_in area) latest (omega (arith, newer.2, newer.3))

pub is_head_refused_so : IsHeadRefusedSo
is_head_refused_so latest area refusal =
    (refused_from_magic latest area (eqb (four_at 0 area) checkpoint_magic) refl refusal, refused_head latest area refusal)

-- a head depends on the front of its area
pub take_take : (n m : ℕ) (xs : List ℕ) → n ≤ m → take n (take m xs) ≡ take n xs
take_take zero m xs few = refl
take_take (suc n) zero xs few = absurd (omega arith)
take_take (suc n) (suc m) [] few = refl
take_take (suc n) (suc m) (x ∷ xs) few = ap (λ (list : List ℕ). x ∷ list) (take_take n m xs (omega arith))

pub part_take : (at n m : ℕ) (xs : List ℕ) → at + n ≤ m → part at n (take m xs) ≡ part at n xs
part_take zero n m xs few = take_take n m xs (omega arith)
part_take (suc at) n zero xs few = absurd (omega arith)
part_take (suc at) n (suc m) [] few = refl
part_take (suc at) n (suc m) (x ∷ xs) few = part_take at n m xs (omega arith)

pub head_goes_by_its_front : HeadGoesByItsFront
head_goes_by_its_front latest area n enough = λ i.
    refuse_unless (eqb (magic i) checkpoint_magic) BadCheckpoint
    (refuse_unless (leb 1 (version i)) BadCheckpoint
    (refuse_unless (leb (version i) latest) (NewerFormat (version i)) (Ok (record { version = version i; epoch = epoch i; place = place i }))))
  where
    magic : four_at 0 (take n area) ≡ four_at 0 area
    magic = ap (from_be_bytes w32) (part_take 0 4 n area (omega arith))

    version : four_at 4 (take n area) ≡ four_at 4 area
    version = ap (from_be_bytes w32) (part_take 4 4 n area (omega arith))

    epoch : eight_at 8 (take n area) ≡ eight_at 8 area
    epoch = ap (from_be_bytes w64) (part_take 8 8 n area (omega arith))

    place : eight_at 16 (take n area) ≡ eight_at 16 area
    place = ap (from_be_bytes w64) (part_take 16 8 n area (omega arith))
