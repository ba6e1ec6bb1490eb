-- Several transfers, one after another, for `read_whole` and `write_whole`, and their effect on a
-- device over the file, for `FileDevice::write`.
use Rattle.std.proofs.Common.{◌≡◌, ◌≢◌, ℕ, ◌+◌, ◌-◌, ◌*◌, ◌<◌, ◌≤◌, inl, inr, List, [], ◌∷◌, ◌++◌, length, get_or, take, drop, refl, sym, ◌∙◌, ap, subst, arith, length-append, length-drop, get_or-take, Result, Ok, Err, IfOk, OnOk, Bool, IsTrue, add-zero}
use Rattle.std.proofs.lemmas.Bool.{cases_lt}
use Rattle.std.proofs.lemmas.Bool.Decides.{nat_tests}
use Rattle.std.proofs.lemmas.List.{take_at, drop_at, drop-drop, drop-take, take-take, take-append-drop, take-append-le, length-take-le, get_or_append_left, get_or-append_right}
use borrow.Rule.Slice.PartMut.{put_mid, post_of}
use Rattle.byte_lists.specs.Content.{part, overwrite}
use Rattle.sector_dev.specs.Disk.{ByteRange, Moment, History}
use Rattle.sector_dev.specs.Calls.{Lands, one_more}
use Rattle.sector_dev.specs.PositionedFile.{FileState, IsHonestFile, DirtiesOnly, CoversDirty, TransfersIn, LandsAny, LandsTransfer, FileGoesOn, IsWriteMoment, failures_after_transfer}
use Rattle.sector_dev.specs.FileDevice.{LandsWhole, WritesWhole, front}
use Rattle.sector_dev.specs.Image.{IsClean}
use Rattle.sector_dev.proofs.Images.{clean_before}
use Rattle.sector_dev.proofs.Results.{success, failure}
use Rattle.sector_dev.proofs.FileMoments.{goes_on_then, goes_on_weaker}
use Rattle.byte_lists.proofs.Contents.{length-overwrite, overwrite_before, overwrite_within, overwrite_behind, length-part, part_above, same_content, overwrite_same}

-- the first m, and then the next n
pub take_join : (m n : ℕ) (bytes : List ℕ) → take m bytes ++ take n (drop m bytes) ≡ take (m + n) bytes
take_join m n bytes =
    ap (λ (list : List ℕ). list ++ take n (drop m bytes)) (sym (take-take m (m + n) bytes (omega arith)))
    ∙ ap (λ (list : List ℕ). take m (take (m + n) bytes) ++ list) (sym (drop-take m n bytes))
    ∙ take-append-drop m (take (m + n) bytes)

-- two parts, one after the other
pub part_more : (at m n : ℕ) (bytes : List ℕ) → part at m bytes ++ part (at + m) n bytes ≡ part at (m + n) bytes
part_more at m n bytes =
    ap (λ (list : List ℕ). part at m bytes ++ take n list) (sym (drop-drop m at bytes)) ∙ take_join m n (drop at bytes)

-- to take as many as the first list has and n more gives the first list and n of the second
pub take_past : (xs ys : List ℕ) (m n : ℕ) → m ≡ length xs → take (m + n) (xs ++ ys) ≡ xs ++ take n ys
take_past xs ys m n is =
    let whole : take m (xs ++ ys) ≡ xs = take_at xs ys m (sym is) in
    let rest : drop m (xs ++ ys) ≡ ys = drop_at xs ys m (sym is) in
    sym (take_join m n (xs ++ ys)) ∙ (λ i. whole i ++ take n (rest i))

-- one more transfer of a read
pub read_more : (done n offset : ℕ) (into rest bytes : List ℕ) → done ≤ length into → n ≤ length rest → take done into ≡ part offset done bytes → take n rest ≡ part (offset + done) n bytes
    → take (done + n) (put_mid done (length into - done) into rest) ≡ part offset (done + n) bytes
read_more done n offset into rest bytes below most so_far next =
    take_past (take done into) (rest ++ post_of done (length into - done) into) done n (sym (length-take-le done into below))
    ∙ ap (λ (list : List ℕ). take done into ++ list) (take-append-le n rest (post_of done (length into - done) into) most)
    ∙ (λ i. so_far i ++ next i) ∙ part_more offset done n bytes

-- two writes, one after the other
pub overwrite_more : (at : ℕ) (first second content : List ℕ) → at + (length first + length second) ≤ length content → overwrite (at + length first) second (overwrite at first content) ≡ overwrite at (first ++ second) content
overwrite_more at first second content inside =
    same_content twice once
    (length-overwrite (at + length first) second one (omega (arith, long)) ∙ long ∙ sym (length-overwrite at (first ++ second) content (omega (arith, both))))
    (λ i below. entry i)
  where
    one : List ℕ
    one = overwrite at first content

    twice : List ℕ
    twice = overwrite (at + length first) second one

    once : List ℕ
    once = overwrite at (first ++ second) content

    long : length one ≡ length content
    long = length-overwrite at first content (omega arith)

    both : length (first ++ second) ≡ length first + length second
    both = length-append first second

    entry : (i : ℕ) → get_or twice i 0 ≡ get_or once i 0
    entry i = elim (cases_lt i (at + length first)) [
      | inl early ↦
          overwrite_before (at + length first) second one i (omega (arith, long)) early ∙ elim (cases_lt i at) [
            | inl before ↦ overwrite_before at first content i (omega arith) before ∙ sym (overwrite_before at (first ++ second) content i (omega arith) before)
            | inr from ↦
                overwrite_within at first content i (omega arith) from early
                ∙ sym (get_or_append_left first second 0 (i - at) (omega arith))
                ∙ sym (overwrite_within at (first ++ second) content i (omega arith) from (omega (arith, both)))
          ]
      | inr late ↦ elim (cases_lt i (at + length first + length second)) [
        | inl within ↦
            let index : i - (at + length first) ≡ i - at - length first = omega arith in
            overwrite_within (at + length first) second one i (omega (arith, long)) late within
            ∙ ap (λ (j : ℕ). get_or second j 0) index
            ∙ sym (get_or-append_right first second (length first) (i - at) 0 refl (omega arith))
            ∙ sym (overwrite_within at (first ++ second) content i (omega arith) (omega arith) (omega (arith, both)))
        | inr behind ↦
            overwrite_behind (at + length first) second one i (omega (arith, long)) behind
            ∙ overwrite_behind at first content i (omega arith) (omega arith)
            ∙ sym (overwrite_behind at (first ++ second) content i (omega (arith, both)) (omega (arith, both)))
      ]
    ]

-- how a write within the front changes the front
pub front_overwrite : (size at : ℕ) (landed content : List ℕ) → at + length landed ≤ size → size ≤ length content → take size (overwrite at landed content) ≡ overwrite at landed (take size content)
front_overwrite size at landed content inside covered =
    same_content (take size (overwrite at landed content)) (overwrite at landed (take size content)) (one ∙ sym two) (λ i below. entry i (omega (arith, one)))
  where
    long : length (overwrite at landed content) ≡ length content
    long = length-overwrite at landed content (omega arith)

    cut : length (take size content) ≡ size
    cut = length-take-le size content covered

    one : length (take size (overwrite at landed content)) ≡ size
    one = length-take-le size (overwrite at landed content) (omega (arith, long))

    two : length (overwrite at landed (take size content)) ≡ size
    two = length-overwrite at landed (take size content) (omega (arith, cut)) ∙ cut

    entry : (i : ℕ) → i < size → get_or (take size (overwrite at landed content)) i 0 ≡ get_or (overwrite at landed (take size content)) i 0
    entry i below =
        get_or-take size (overwrite at landed content) i 0 below ∙ elim (cases_lt i at) [
          | inl before ↦
              overwrite_before at landed content i (omega arith) before ∙ sym (get_or-take size content i 0 below)
              ∙ sym (overwrite_before at landed (take size content) i (omega (arith, cut)) before)
          | inr from ↦ elim (cases_lt i (at + length landed)) [
            | inl to ↦ overwrite_within at landed content i (omega arith) from to ∙ sym (overwrite_within at landed (take size content) i (omega (arith, cut)) from to)
            | inr behind ↦
                overwrite_behind at landed content i (omega arith) behind ∙ sym (get_or-take size content i 0 below)
                ∙ sym (overwrite_behind at landed (take size content) i (omega (arith, cut)) behind)
          ]
        ]

-- a part within the front is a part of the content
pub part-front : (size at n : ℕ) (content : List ℕ) → at + n ≤ size → part at n (take size content) ≡ part at n content
part-front size at n content inside =
    let split : at + (size - at) ≡ size = omega arith in
    ap (λ (k : ℕ). take n (drop at (take k content))) (sym split)
    ∙ ap (λ (list : List ℕ). take n list) (drop-take at (size - at) content) ∙ take-take n (size - at) (drop at content) (omega arith)

-- one more transfer of a write
pub write_more : (done n offset : ℕ) (bytes content new : List ℕ) → done + n ≤ length bytes → offset + length bytes ≤ length content → new ≡ overwrite offset (take done bytes) content
    → overwrite (offset + done) (take n (drop done bytes)) new ≡ overwrite offset (take (done + n) bytes) content
write_more done n offset bytes content new below inside so_far =
    let first : length (take done bytes) ≡ done = length-take-le done bytes (omega arith) in
    let second : length (take n (drop done bytes)) ≡ n = length-take-le n (drop done bytes) (omega (arith, length-drop done bytes)) in
    (λ i. overwrite (offset + sym first i) (take n (drop done bytes)) (so_far i))
    ∙ overwrite_more offset (take done bytes) (take n (drop done bytes)) content (omega (arith, first, second))
    ∙ ap (λ (list : List ℕ). overwrite offset list content) (take_join done n bytes)

-- a write that ends early, after a last transfer that may have written any bytes
pub ended_early : (done offset : ℕ) (bytes landed content new later : List ℕ) → done ≤ length bytes → offset + length bytes ≤ length content → length landed ≡ length bytes - done
    → new ≡ overwrite offset (take done bytes) content → later ≡ overwrite (offset + done) landed new → later ≡ overwrite offset (take done bytes ++ landed) content
ended_early done offset bytes landed content new later below inside size so_far last =
    let first : length (take done bytes) ≡ done = length-take-le done bytes below in
    last ∙ (λ i. overwrite (offset + sym first i) landed (so_far i))
    ∙ overwrite_more offset (take done bytes) landed content (omega (arith, first))

-- the bytes after a write are unchanged, as if they had been written again
pub overwrite_and_rest : (at : ℕ) (first content : List ℕ) (n : ℕ) → at + length first + n ≤ length content → overwrite at (first ++ part (at + length first) n content) content ≡ overwrite at first content
overwrite_and_rest at first content n inside =
    let there = part (at + length first) n content in
    let one = overwrite at first content in
    let size : length there ≡ n = length-part (at + length first) n content (omega arith) in
    let long : length one ≡ length content = length-overwrite at first content (omega arith) in
    let same : there ≡ part (at + length first) n one = sym (part_above at first content (at + length first) n (omega arith) (omega arith)) in
    sym (overwrite_more at first there content (omega (arith, size)))
    ∙ ap (λ (list : List ℕ). overwrite (at + length first) list one) same
    ∙ overwrite_same (at + length first) n one (omega (arith, long))

overwrite_and_rest_at : (done at : ℕ) (bytes content : List ℕ) → done ≤ length bytes → at + length bytes ≤ length content → overwrite at (take done bytes ++ part (at + done) (length bytes - done) content) content ≡ overwrite at (take done bytes) content
overwrite_and_rest_at done at bytes content below inside =
    let first : length (take done bytes) ≡ done = length-take-le done bytes below in
    ap (λ (k : ℕ). overwrite at (take done bytes ++ part (at + k) (length bytes - done) content) content) (sym first)
    ∙ overwrite_and_rest at (take done bytes) content (length bytes - done) (omega (arith, first))

-- one transfer leaves some bytes in the range
pub transfer_lands : {E : Type 0} (offset : ℕ) (bytes : List ℕ) (result : Result ℕ E) (old new : List ℕ) → IfOk result (λ n. n ≤ length bytes) → offset + length bytes ≤ length old → LandsTransfer offset bytes result old new → LandsAny offset bytes old new
transfer_lands offset bytes (Err _) old new most inside lands = lands
transfer_lands offset bytes (Ok n) old new most inside lands =
    let there = part (offset + n) (length bytes - n) old in
    let first : length (take n bytes) ≡ n = length-take-le n bytes most in
    let size : length there ≡ length bytes - n = length-part (offset + n) (length bytes - n) old (omega (arith, most)) in
    record {
      landed = take n bytes ++ there;
      size = length-append (take n bytes) there ∙ omega (arith, first, size, most);
      is = lands ∙ sym (overwrite_and_rest_at n offset bytes old most inside);
    }

-- a transfer that moved some bytes is no failure, and one that moved none of some bytes is
pub failures_moved : (asked n failures : ℕ) → n ≢ 0 → failures_after_transfer asked (success (Unit {0}) n) failures ≡ failures
failures_moved asked n failures some = grind (arith, nat_tests)

pub failures_stuck : (asked n failures : ℕ) → 0 < asked → n ≡ 0 → failures_after_transfer asked (success (Unit {0}) n) failures ≡ one_more failures
failures_stuck asked n failures some none = grind (arith, nat_tests)

-- a file that is honest before is honest after, where this stays
pub honest_file : (old new : FileState) → new.is_honest ≡ old.is_honest → IsHonestFile old → IsHonestFile new
honest_file old new same honest = subst (λ (b : Bool). IsTrue b) (sym same) honest

module _ (offset done : ℕ) (bytes : List ℕ) (start mid later : FileState) (below : done ≤ length bytes) (same : mid.is_honest ≡ start.is_honest)
    (so_far : IsHonestFile start → offset + length bytes ≤ length start.bytes → mid.bytes ≡ overwrite offset (take done bytes) start.bytes) (dirtied : IsHonestFile start → DirtiesOnly offset (length bytes) start.dirty mid.dirty)
    (moments : IsHonestFile start → offset + length bytes ≤ length start.bytes → FileGoesOn start mid (IsWriteMoment offset bytes start)) where
  abbrev rest : List ℕ
  rest = take (length bytes - done) (drop done bytes)

  rest_size : length rest ≡ length bytes - done
  rest_size = length-take-le (length bytes - done) (drop done bytes) (omega (arith, length-drop done bytes))

  first_size : length (take done bytes) ≡ done
  first_size = length-take-le done bytes below

  mid_size : IsHonestFile start → offset + length bytes ≤ length start.bytes → length mid.bytes ≡ length start.bytes
  mid_size honest inside = ap length (so_far honest inside) ∙ length-overwrite offset (take done bytes) start.bytes (omega (arith, first_size))

  -- a transfer that moved some bytes
  pub write_step : {E : Type 0} (n : ℕ) → TransfersIn (offset + done) rest (success E n) mid later → IsHonestFile start → offset + length bytes ≤ length start.bytes → later.bytes ≡ overwrite offset (take (done + n) bytes) start.bytes
  write_step n call honest inside =
      let most : n ≤ length rest = call.most in
      let lands = call.lands (honest_file start mid same honest) (omega (arith, rest_size, mid_size honest inside)) in
      lands
      ∙ ap (λ (list : List ℕ). overwrite (offset + done) list mid.bytes) (take-take n (length bytes - done) (drop done bytes) (omega (arith, rest_size, most)))
      ∙ write_more done n offset bytes start.bytes mid.bytes (omega (arith, rest_size, most)) inside (so_far honest inside)

  -- a transfer with any effect
  pub write_dirties : {E : Type 0} (result : Result ℕ E) → TransfersIn (offset + done) rest result mid later → IsHonestFile start → DirtiesOnly offset (length bytes) start.dirty later.dirty
  write_dirties result call honest i clean beside =
      call.dirty (honest_file start mid same honest) i (dirtied honest i clean beside) (λ from. omega (arith, beside (omega arith), rest_size))

  -- a moment of the next transfer is one of the write
  pub write_moments : {E : Type 0} (result : Result ℕ E) → TransfersIn (offset + done) rest result mid later → IsHonestFile start → offset + length bytes ≤ length start.bytes → FileGoesOn start later (IsWriteMoment offset bytes start)
  write_moments result call honest inside =
      goes_on_then (IsWriteMoment offset bytes start) start mid later (moments honest inside)
      (goes_on_weaker (IsWriteMoment (offset + done) rest mid) (IsWriteMoment offset bytes start) mid later (λ m w. each m w)
      (call.moments (honest_file start mid same honest) (omega (arith, rest_size, mid_size honest inside))))
    where
      each : (m : Moment) → IsWriteMoment (offset + done) rest mid m → IsWriteMoment offset bytes start m
      each m w = record {
        lands = record {
          landed = take done bytes ++ w.lands.landed;
          size = length-append (take done bytes) w.lands.landed ∙ omega (arith, first_size, w.lands.size, rest_size);
          is = ended_early done offset bytes w.lands.landed start.bytes mid.bytes m.reads below inside (w.lands.size ∙ rest_size) (so_far honest inside) w.lands.is;
        };
        dirty = λ i clean beside. w.dirty i (dirtied honest i clean beside) (λ from. omega (arith, beside (omega arith), rest_size));
      }

  -- a transfer that moved no bytes
  pub write_stuck : {T E F : Type 0} (e : F) (n : ℕ) → n ≡ 0 → TransfersIn (offset + done) rest (success E n) mid later → WritesWhole offset bytes (failure T e) start later
  write_stuck {T} {E} {F} e n none call = record {
    is_honest = call.is_honest ∙ same;
    dirty = write_dirties (success E n) call;
    moments = write_moments (success E n) call;
    lands = λ honest inside.
        let there = part (offset + done) (length bytes - done) start.bytes in
        let size : length there ≡ length bytes - done = length-part (offset + done) (length bytes - done) start.bytes (omega arith) in
        let now = write_step n call honest inside ∙ ap (λ (k : ℕ). overwrite offset (take k bytes) start.bytes) (ap (λ (k : ℕ). done + k) none ∙ add-zero done) in
        record {
          landed = take done bytes ++ there;
          size = length-append (take done bytes) there ∙ omega (arith, first_size, size);
          done = tt;
          is = now ∙ sym (overwrite_and_rest_at done offset bytes start.bytes below inside);
        };
  }

  -- a transfer that failed
  pub write_failed : {T E F : Type 0} (e : F) (error : E) → TransfersIn (offset + done) rest (failure ℕ error) mid later → WritesWhole offset bytes (failure T e) start later
  write_failed e error call = record {
    is_honest = call.is_honest ∙ same;
    dirty = write_dirties (failure ℕ error) call;
    moments = write_moments (failure ℕ error) call;
    lands = λ honest inside.
        let last = call.lands (honest_file start mid same honest) (omega (arith, rest_size, mid_size honest inside)) in
        record {
          landed = take done bytes ++ last.landed;
          size = length-append (take done bytes) last.landed ∙ omega (arith, first_size, last.size, rest_size);
          done = tt;
          is = ended_early done offset bytes last.landed start.bytes mid.bytes later.bytes below inside (last.size ∙ rest_size) (so_far honest inside) last.is;
        };
  }

-- the effect of a write of a file on the device over the file
module _ (sectors at : ℕ) (bytes : List ℕ) (old new : FileState) (past later : List Moment) (dirty dirtied : List ByteRange) where
  abbrev before : History
  before = record { past = past; now = record { reads = front sectors old.bytes; dirty = dirty } }

  abbrev after : History
  after = record { past = later; now = record { reads = front sectors new.bytes; dirty = dirtied } }

  pub file_lands : {T E S F : Type 0} (told : Result T E) (result : Result S F) → 512 * at + length bytes ≤ 512 * sectors → 512 * sectors ≤ length old.bytes
      → LandsWhole (512 * at) bytes told old.bytes new.bytes → ((landed : List ℕ) → OnOk told (landed ≡ bytes) → OnOk result (landed ≡ bytes))
      → (later ≡ past ++ before.now ∷ []) × (dirtied ≡ record { start = 512 * at; len = length bytes } ∷ dirty) → Lands at bytes result before after
  file_lands told result inside covered lands answer trail =
      let reads : front sectors new.bytes ≡ overwrite (512 * at) lands.landed (front sectors old.bytes) =
      ap (λ (list : List ℕ). front sectors list) lands.is ∙ front_overwrite (512 * sectors) (512 * at) lands.landed old.bytes (omega (arith, lands.size)) covered in
      let spans : dirtied ≡ record { start = 512 * at; len = length lands.landed } ∷ dirty =
      trail.1 ∙ ap (λ (n : ℕ). span n ∷ dirty) (sym lands.size) in
      record {
        landed = lands.landed;
        size = lands.size;
        done = answer lands.landed lands.done;
        history = λ i. record { past = trail.0 i; now = record { reads = reads i; dirty = spans i } };
      }
    where
      span : ℕ → ByteRange
      span n = record { start = 512 * at; len = n }

-- what was covered is covered after a write that the device has noted
pub covers_written : (at n : ℕ) (dirty dirtied : List ByteRange) (old new : FileState) → CoversDirty dirty old → DirtiesOnly at n old.dirty new.dirty → dirtied ≡ record { start = at; len = n } ∷ dirty → CoversDirty dirtied new
covers_written at n dirty dirtied old new covers after_write is i clean =
    let both = clean_before at n dirty i (subst (λ (spans : List ByteRange). IsClean spans i) is clean) in
    after_write i (covers i both.1) both.0

-- a write within the front does not change the length of the file
pub covered_after : {T E : Type 0} (size at : ℕ) (bytes : List ℕ) (told : Result T E) (old new : List ℕ) → at + length bytes ≤ size → size ≤ length old → LandsWhole at bytes told old new → size ≤ length new
covered_after size at bytes told old new inside covered lands =
    omega (arith, ap length lands.is, length-overwrite at lands.landed old (omega (arith, lands.size)))
