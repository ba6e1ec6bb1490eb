-- Heads and fronts of areas, read from the first bytes of the areas.
use Rattle.std.proofs.Common.{◌≡◌, ◌≢◌, ℕ, ◌*◌, ◌≤◌, eqb, leb, List, take, drop, Result, Ok, Err, refl, sym, ◌∙◌, ap, arith}
use Rattle.std.specs.Int.{w32, w64, from_be_bytes}
use Rattle.byte_lists.specs.Numbers.{four_at, eight_at}
use Rattle.byte_lists.specs.Sectors.{sector_at, is_open_gate}
use Rattle.store_layout.specs.declared.half.Half.{Half}
use Rattle.store_layout.specs.GroupReading.{refuse_unless}
use Rattle.store_layout.specs.Checkpoint.{checkpoint_magic}
use Rattle.store_layout.specs.CheckpointReading.{PairRefusal, BadCheckpoint, NewerFormat, head_in}
use Rattle.store_layout.specs.Layout.{Geometry, IsGeometry, area_at, gate_at, area_of, gate_of}
use Rattle.store_layout.specs.OpeningReading.{head_behind, head_of}
use Rattle.ckpt_pair.specs.declared.error.PairError.{PairError}
use Rattle.ckpt_pair.specs.declared.error.PairError.TheVariants as pair
use Rattle.ckpt_pair.specs.Refusals.{ReadsPair}
use Rattle.store_open.specs.Refusals.{error_of_pair, PairSo}
use Rattle.store_open.proofs.FirstSectors.{part_in_front}

-- a head is read from the first 24 bytes
pub head_of_front : (latest size : ℕ) (xs : List ℕ) → 24 ≤ size → head_in latest (take size xs) ≡ head_in latest xs
head_of_front latest size xs long = λ i.
    refuse_unless (eqb (magic i) checkpoint_magic) BadCheckpoint
    (refuse_unless (leb 1 (version i)) BadCheckpoint
    (refuse_unless (leb (version i) latest) (NewerFormat (version i)) (Ok (record { version = version i; epoch = epoch i; place = place i }))))
  where
    magic : four_at 0 (take size xs) ≡ four_at 0 xs
    magic = ap (from_be_bytes w32) (part_in_front 0 4 size xs (omega (arith, long)))

    version : four_at 4 (take size xs) ≡ four_at 4 xs
    version = ap (from_be_bytes w32) (part_in_front 4 4 size xs (omega (arith, long)))

    epoch : eight_at 8 (take size xs) ≡ eight_at 8 xs
    epoch = ap (from_be_bytes w64) (part_in_front 8 8 size xs (omega (arith, long)))

    place : eight_at 16 (take size xs) ≡ eight_at 16 xs
    place = ap (from_be_bytes w64) (part_in_front 16 8 size xs (omega (arith, long)))

-- the head of an area, read from its first sector
pub head_of_sector : (latest : ℕ) (geometry : Geometry) (half : Half) (reads : List ℕ) → IsGeometry geometry → head_in latest (sector_at (area_at geometry half) reads) ≡ head_in latest (area_of geometry half reads)
head_of_sector latest geometry half reads allowed =
    head_of_front latest 512 (drop (512 * area_at geometry half) reads) (omega arith)
    ∙ sym (head_of_front latest (512 * geometry.checkpoint) (drop (512 * area_at geometry half) reads) (omega (arith, allowed)))

-- the result of a call that takes no memory is the reading
pub pair_told : {X Y : Type 0} (view : X → Y) (x : X) (reading : Result Y PairRefusal) → ReadsPair view (Ok x) reading → reading ≡ Ok (view x)
pair_told {X} {Y} view x (Ok y) so = ap (λ (z : Y). let r : Result Y PairRefusal = Ok z in r) so
pair_told view x (Err refusal) so = absurd so

pub pair_refused : {X Y : Type 0} (view : X → Y) (e : PairError) (reading : Result Y PairRefusal) → ReadsPair view (Err e) reading → PairSo view (Err (error_of_pair e)) reading
pair_refused view pair.NoMemory (Err refusal) so = tt
pair_refused view pair.NoHalf (Err refusal) so = (λ same. cc, record { refusal = refusal; is = refl; told = so })
pair_refused view pair.SameEpoch (Err refusal) so = (λ same. cc, record { refusal = refusal; is = refl; told = so })
pair_refused view pair.BadCheckpoint (Err refusal) so = (λ same. cc, record { refusal = refusal; is = refl; told = so })
pair_refused view pair.SealedNewer (Err refusal) so = (λ same. cc, record { refusal = refusal; is = refl; told = so })
pair_refused view (pair.NewerFormat version) (Err refusal) so = (λ same. cc, record { refusal = refusal; is = refl; told = so })
pair_refused view e (Ok y) so = absurd so

-- `NoMemory` from a call that takes memory does not depend on the reading, and any other result is
-- the reading
pub pair_given : {X Y : Type 0} (view : X → Y) (e : PairError) (reading : Result Y PairRefusal) → (e ≢ pair.NoMemory → ReadsPair view (Err e) reading)
    → PairSo view (Err (error_of_pair e)) reading
pair_given view pair.NoMemory reading so = tt
pair_given view pair.NoHalf reading so = pair_refused view pair.NoHalf reading (so (λ same. cc))
pair_given view pair.SameEpoch reading so = pair_refused view pair.SameEpoch reading (so (λ same. cc))
pair_given view pair.BadCheckpoint reading so = pair_refused view pair.BadCheckpoint reading (so (λ same. cc))
pair_given view pair.SealedNewer reading so = pair_refused view pair.SealedNewer reading (so (λ same. cc))
pair_given view (pair.NewerFormat version) reading so = pair_refused view (pair.NewerFormat version) reading (so (λ same. cc))

-- the result of reading a half's gate and its area's first sector
pub head_told : (latest : ℕ) (geometry : Geometry) (half : Half) (reads now gate area : List ℕ) (gate_sector area_sector : ℕ) → IsGeometry geometry → gate_sector ≡ gate_at geometry half → area_sector ≡ area_at geometry half
    → now ≡ reads → gate ≡ sector_at gate_sector reads → area ≡ sector_at area_sector now → head_behind (is_open_gate gate) (head_in latest area) ≡ head_of latest geometry half reads
head_told latest geometry half reads now gate area gate_sector area_sector allowed place there same gate_is area_is =
    (λ i. head_behind (is_open_gate ((gate_is ∙ (λ j. sector_at (place j) reads)) i)) (head_in latest ((area_is ∙ (λ j. sector_at (there j) (same j))) i)))
    ∙ ap (head_behind (is_open_gate (gate_of geometry half reads))) (head_of_sector latest geometry half reads allowed)
