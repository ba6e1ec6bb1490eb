-- Bytes that are written piece by piece: what a stop leaves in between, and how much is written.
use Rattle.std.proofs.Common.{◌≡◌, inl, inr, ℕ, ◌+◌, ◌-◌, ◌*◌, ◌≤◌, List, [], ◌++◌, length, length-drop, get_or, take, drop, replicate, refl, sym, ◌∙◌, ap, subst, arith, append_assoc, length-append, Result, OnOk}
use Rattle.std.specs.List.{copy_within}
use Rattle.std.proofs.lemmas.Bool.{cases_lt}
use Rattle.std.proofs.lemmas.List.{length-take-le}
use Rattle.std.proofs.Math.Seq.{paste, take-add}
use Rattle.std.proofs.lemmas.List.Edits.{take-paste, paste_all, paste-paste}
use Rattle.byte_lists.specs.Content.{part, overwrite}
use Rattle.byte_lists.specs.Sectors.{sectors_of, padded}
use Rattle.byte_lists.proofs.Contents.{length-overwrite, overwrite_before, overwrite_within, overwrite_behind, length-part, get_or-part, same_content, overwrite_same, part_new}
use Rattle.row_map.specs.Database.{RowView}
use Rattle.path_records.specs.RowRecord.{rows_encoding}
use Rattle.sector_dev.specs.Disk.{History, Disk, IsHonest, IsWhole, reads_of}
use Rattle.sector_dev.specs.Calls.{Keeps, WriteCall}
use Rattle.sector_dev.specs.Stretch.{Stretch}
use Rattle.sector_dev.proofs.Images.{every_written, image_is_reads}
use Rattle.sector_dev.proofs.Stretches.{honest_before, honest_after, at_exit, stretch_here, stretch_write}
use Rattle.store_open.specs.RowWrites.{IsWrittenUpTo}
use Rattle.store_open.specs.TakingOver.{IsTornAt}
use Rattle.store_open.proofs.TakingOver.{torn_nowhere}

-- a content that is torn in a range, and then torn within that range, is torn in the range
torn_within : (at n from : ℕ) (old content piece : List ℕ) → at ≤ from → from + length piece ≤ at + n → at + n ≤ length old → IsTornAt at n old content → IsTornAt at n old (overwrite from piece content)
torn_within at n from old content piece low high inside tear = record {
  torn = part at n new;
  size = size;
  is = same_content new (overwrite at (part at n new) old) (long ∙ sym (length-overwrite at (part at n new) old (omega (arith, size)))) (λ i below. entry i);
}
  where
    new : List ℕ
    new = overwrite from piece content

    content_long : length content ≡ length old
    content_long = ap length tear.is ∙ length-overwrite at tear.torn old (omega (arith, tear.size, inside))

    long : length new ≡ length old
    long = length-overwrite from piece content (omega (arith, content_long, inside)) ∙ content_long

    size : length (part at n new) ≡ n
    size = length-part at n new (omega (arith, long))

    beside : (i : ℕ) → get_or content i 0 ≡ get_or (overwrite at tear.torn old) i 0
    beside i = ap (λ (list : List ℕ). get_or list i 0) tear.is

    entry : (i : ℕ) → get_or new i 0 ≡ get_or (overwrite at (part at n new) old) i 0
    entry i = elim (cases_lt i at) [
      | inl before ↦
          overwrite_before from piece content i (omega (arith, content_long)) (omega arith) ∙ beside i
          ∙ overwrite_before at tear.torn old i (omega arith) before ∙ sym (overwrite_before at (part at n new) old i (omega arith) before)
      | inr past ↦ elim (cases_lt i (at + n)) [
        | inl to ↦
            let index : at + (i - at) ≡ i = omega arith in
            sym (overwrite_within at (part at n new) old i (omega arith) past (omega (arith, size))
            ∙ get_or-part at n new (i - at) (omega arith) ∙ ap (λ (j : ℕ). get_or new j 0) index)
        | inr behind ↦
            overwrite_behind from piece content i (omega (arith, content_long)) (omega arith) ∙ beside i
            ∙ overwrite_behind at tear.torn old i (omega (arith, tear.size)) (omega (arith, tear.size))
            ∙ sym (overwrite_behind at (part at n new) old i (omega (arith, size)) (omega (arith, size)))
      ]
    ]

module _ (at n : ℕ) (start : Disk) (whole : IsHonest start → IsWhole start) (inside : at + n ≤ 512 * start.sectors) where
  abbrev Torn : List ℕ → Type 0
  Torn = IsTornAt at n (reads_of start)

  -- nothing is torn yet
  pub torn_here : (IsHonest start → start.history.now.dirty ≡ []) → Stretch start start (IsTornAt at n (reads_of start))
  torn_here clean = stretch_here Torn start (λ honest content image.
      subst Torn (sym (image_is_reads start.history.now content (clean honest) image)) (torn_nowhere at n (reads_of start) (omega (arith, (whole honest).size, inside))))

  -- a write within the range, whatever bytes land
  pub torn_on : {T E : Type 0} (sector : ℕ) (piece : List ℕ) (answer : Result T E) (now later : Disk) → (IsHonest now → IsWhole now) → at ≤ 512 * sector → 512 * sector + length piece ≤ at + n
      → Stretch start now (IsTornAt at n (reads_of start)) → WriteCall sector piece answer now later → Stretch start later (IsTornAt at n (reads_of start))
  torn_on sector piece answer now later whole_now low high so_far call =
      stretch_write Torn start now later sector piece answer so_far call
      (λ honest landed size.
      let honest_start = honest_before start now so_far.keeps honest in
      every_written Torn Torn now.history (512 * sector) landed (omega (arith, size, inside, high, (whole_now honest).size, so_far.keeps.sectors)) (whole_now honest).bytes
      (at_exit Torn start now so_far honest_start)
      (λ content torn same_size torn_size tear.
      torn_within at n (512 * sector) (reads_of start) content torn low (omega (arith, torn_size, size, high)) (omega (arith, (whole honest_start).size, inside)) tear))

-- two writes, one after the other
is_pasted : (at : ℕ) (bytes content : List ℕ) → overwrite at bytes content ≡ paste content at bytes (length bytes)
is_pasted at bytes content =
    append_assoc (take at content) bytes (drop (at + length bytes) content) ∙ sym (paste_all content at bytes (length bytes) refl)

overwrite_more : (at : ℕ) (first second content : List ℕ) → at ≤ length content → overwrite (at + length first) second (overwrite at first content) ≡ overwrite at (first ++ second) content
overwrite_more at first second content inside =
    is_pasted (at + length first) second (overwrite at first content)
    ∙ ap (λ (list : List ℕ). paste list (at + length first) second (length second)) (is_pasted at first content)
    ∙ paste-paste content at first second (length first) (length second) refl refl inside
    ∙ ap (λ (n : ℕ). paste content at (first ++ second) n) (sym (length-append first second))
    ∙ sym (is_pasted at (first ++ second) content)

-- nothing is written yet
pub rewritten_none : (at : ℕ) (bytes : List ℕ) (start : Disk) → (IsHonest start → IsWhole start) → 512 * at ≤ 512 * start.sectors → IsWrittenUpTo start start at at bytes bytes
rewritten_none at bytes start whole inside = record {
  front = [];
  parts = refl;
  reached = omega arith;
  written = λ honest. sym (overwrite_same (512 * at) 0 (reads_of start) (omega (arith, (whole honest).size, inside)));
}

-- the same with some more rows after the used part of the buffer, which has room for them
pub record HasRowMore (start now : Disk) (at sector used : ℕ) (buffer : List ℕ) (left : List RowView) (bytes : List ℕ) : Type 0 where
  pub rewritten : IsWrittenUpTo start now at sector (take used buffer ++ rows_encoding left) bytes
  pub size : length (take used buffer) ≡ used
  pub room : 512 * sector + used ≤ 512 * at + length (padded bytes)
  pub since : 512 * at ≤ 512 * sector

pub row_more : (start now : Disk) (at sector used more : ℕ) (before after : List ℕ) (rows all left : List RowView) (bytes : List ℕ) → IsWrittenUpTo start now at sector (take used before ++ rows_encoding rows) bytes
    → rows ≡ all → take more after ++ rows_encoding left ≡ take used before ++ rows_encoding all → more ≤ length after → HasRowMore start now at sector more after left bytes
row_more start now at sector used more before after rows all left bytes so_far next put fits = record {
  rewritten = rewritten;
  size = size;
  room = omega (
    arith,
    size,
    rewritten.reached,
    ap length rewritten.parts,
    length-append rewritten.front (take more after ++ rows_encoding left),
    length-append (take more after) (rows_encoding left),
    length-append bytes (replicate (512 * sectors_of (length bytes) - length bytes) 0),
  );
  since = omega (arith, rewritten.reached);
}
  where
    rewritten : IsWrittenUpTo start now at sector (take more after ++ rows_encoding left) bytes
    rewritten = subst (λ (rest : List ℕ). IsWrittenUpTo start now at sector rest bytes) (ap (λ (list : List RowView). take used before ++ rows_encoding list) next ∙ sym put) so_far

    size : length (take more after) ≡ more
    size = length-take-le more after fits

-- bytes that were left are put after other bytes
pub put_next : (before after bytes left rest : List ℕ) → after ≡ before ++ bytes → left ≡ bytes ++ rest → after ++ rest ≡ before ++ left
put_next before after bytes left rest put is =
    ap (λ (list : List ℕ). list ++ rest) put ∙ append_assoc before bytes rest ∙ ap (λ (list : List ℕ). before ++ list) (sym is)

-- a piece that is written, and the bytes after it are the rest
pub rewritten_piece : {T E : Type 0} (at sector count : ℕ) (held piece rest left bytes : List ℕ) (answer : Result T E) (start now later : Disk) → IsWrittenUpTo start now at sector (held ++ left) bytes → Keeps start now
    → piece ++ rest ≡ held → WriteCall sector piece answer now later → ((landed : List ℕ) → OnOk answer (landed ≡ piece) → landed ≡ piece) → length piece ≡ 512 * count
    → (IsHonest start → IsWhole start) → 512 * at ≤ 512 * start.sectors → IsWrittenUpTo start later at (sector + count) (rest ++ left) bytes
rewritten_piece at sector count held piece rest left bytes answer start now later so_far keeps parts call done size whole inside = record {
  front = so_far.front ++ piece;
  parts = append_assoc so_far.front piece (rest ++ left) ∙ ap (λ (list : List ℕ). so_far.front ++ list) (sym (append_assoc piece rest left) ∙ ap (λ (list : List ℕ). list ++ left) parts) ∙ so_far.parts;
  reached = ap (λ (n : ℕ). 512 * at + n) (length-append so_far.front piece) ∙ omega (arith, so_far.reached, size);
  written = λ honest.
      let lands = call.lands (honest_after start now keeps honest) in
      ap (λ (h : History). h.now.reads) lands.history
      ∙ ap (λ (list : List ℕ). overwrite (512 * sector) list (reads_of now)) (done lands.landed lands.done)
      ∙ (λ i. overwrite (sym so_far.reached i) piece (so_far.written honest i))
      ∙ overwrite_more (512 * at) so_far.front piece (reads_of start) (omega (arith, inside, (whole honest).size));
}

-- the bytes after a piece are moved to the front
pub moved_behind : (piece used : ℕ) (old new : List ℕ) → piece ≤ used → used ≤ length old → new ≡ copy_within old piece used 0 → take piece old ++ take (used - piece) new ≡ take used old
moved_behind piece used old new low high moved =
    let split : piece + (used - piece) ≡ used = omega arith in
    let none_more : used - piece ≡ 0 + (used - piece) = omega arith in
    (λ i. take piece old ++ take (none_more i) (moved i))
    ∙ ap (λ (list : List ℕ). take piece old ++ list) (take-paste old 0 (drop piece old) (used - piece) (omega arith) (omega (arith, length-drop piece old)))
    ∙ sym (take-add piece (used - piece) old) ∙ ap (λ (k : ℕ). take k old) split

-- the bytes that were put to the front of the buffer are there
pub put_first : (n : ℕ) (bytes content new : List ℕ) → length bytes ≡ n → n ≤ length content → new ≡ overwrite 0 bytes content → take n new ≡ bytes
put_first n bytes content new size fits put = (λ i. take (sym size i) (put i)) ∙ part_new 0 bytes content (omega (arith, size, fits))

-- the rest, padded with zeros, is the end of all bytes, padded with zeros
module _ (start now : Disk) (at sector : ℕ) (rest bytes : List ℕ) (so_far : IsWrittenUpTo start now at sector rest bytes) where
  rest_padded : so_far.front ++ padded rest ≡ padded bytes
  rest_padded =
      sym (append_assoc so_far.front rest (replicate (512 * sectors_of (length rest) - length rest) 0))
      ∙ ap (λ (n : ℕ). (so_far.front ++ rest) ++ replicate n 0) zeros
      ∙ ap padded so_far.parts
    where
      zeros : 512 * sectors_of (length rest) - length rest ≡ 512 * sectors_of (length (so_far.front ++ rest)) - length (so_far.front ++ rest)
      zeros = omega (arith, so_far.reached, length-append so_far.front rest)

  pub rest_room : 512 * sector + length (padded rest) ≡ 512 * at + length (padded bytes)
  rest_room = omega (arith, so_far.reached, ap length rest_padded, length-append so_far.front (padded rest))

  pub rest_since : 512 * at ≤ 512 * sector
  rest_since = omega (arith, so_far.reached)

  pub rest_written : {T E : Type 0} (answer : Result T E) (later : Disk) → Keeps start now → WriteCall sector (padded rest) answer now later → ((landed : List ℕ) → OnOk answer (landed ≡ padded rest) → landed ≡ padded rest)
      → (IsHonest start → IsWhole start) → 512 * at ≤ 512 * start.sectors → IsHonest start → reads_of later ≡ overwrite (512 * at) (padded bytes) (reads_of start)
  rest_written answer later keeps call done whole inside honest =
      let lands = call.lands (honest_after start now keeps honest) in
      ap (λ (h : History). h.now.reads) lands.history
      ∙ ap (λ (list : List ℕ). overwrite (512 * sector) list (reads_of now)) (done lands.landed lands.done)
      ∙ (λ i. overwrite (sym so_far.reached i) (padded rest) (so_far.written honest i))
      ∙ overwrite_more (512 * at) so_far.front (padded rest) (reads_of start) (omega (arith, inside, (whole honest).size))
      ∙ ap (λ (list : List ℕ). overwrite (512 * at) list (reads_of start)) rest_padded
