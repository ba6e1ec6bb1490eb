-- What rewriting keeps: for `rewriting`.
use Rattle.std.proofs.Common.{◌≡◌, ℕ, suc, ◌+◌, ◌-◌, ◌<◌, ◌≤◌, List, [], ◌∷◌, ◌++◌, length, take, drop, refl, sym, ap, ◌∙◌, append_assoc, arith}
use Rattle.std.specs.Prelude.{Option, Some, None}
use Rattle.std.proofs.lemmas.List.{length-append, length-drop, length-take-le, take-take, drop-take, drop-drop, take-append-drop}
use Rattle.std.specs.Int.{w32, to_be_bytes}
use Rattle.std.specs.List.{copy_within}
use Rattle.std.proofs.lemmas.List.Edits.{take-paste}
use Rattle.seg_core.specs.Encoding.{segment_encoding}
use Rattle.row_map.specs.Database.{RowView, row_len}
use Rattle.path_records.specs.RowRecord.{row_record}
use Rattle.ckpt_stream.specs.declared.plan.Edit.{Edit}
use Rattle.ckpt_stream.specs.declared.plan.Edit.TheVariants.{Keep, Pass, Put}
use Rattle.ckpt_stream.specs.Edits.{record_if_any, len_if_any, edited, bytes_in, bytes_out}
use Rattle.ckpt_stream.specs.Rewriting.{RewriteView, Rewrites, untaken_len, with_edit, with_next_row, steps_left}

-- more bytes of a list
pub take_more_bytes : (a b : ℕ) (l : List ℕ) → take (a + b) l ≡ take a l ++ take b (drop a l)
take_more_bytes a b l =
    sym (take-append-drop a (take (a + b) l)) ∙ ap (λ (t : List ℕ). t ++ drop a (take (a + b) l)) (take-take a (a + b) l (omega arith))
    ∙ ap (λ (t : List ℕ). take a l ++ t) (drop-take a b l)

-- bytes of a window are those from its place on
seen : (bytes window : List ℕ) (from d count : ℕ) → take (length window) (drop from bytes) ≡ window → d + count ≤ length window
    → take count (drop d window) ≡ take count (drop (from + d) bytes)
seen bytes window from d count reads inside =
    ap (λ (w : List ℕ). take count (drop d w)) (sym reads)
    ∙ ap (λ (n : ℕ). take count (drop d (take n (drop from bytes)))) (omega (arith, inside))
    ∙ ap (take count) (drop-take d (length window - d) (drop from bytes))
    ∙ take-take count (length window - d) (drop d (drop from bytes)) (omega (arith, inside))
    ∙ ap (take count) (drop-drop d from bytes)

-- some bytes of the edit under way are kept
kept_on : (edits : List Edit) (rows : List (Option RowView)) (bytes : List ℕ) (position kept count : ℕ) → count ≤ kept
    → edited (Keep kept ∷ edits) rows (drop position bytes)
    ≡ take count (drop position bytes) ++ edited (Keep (kept - count) ∷ edits) rows (drop (position + count) bytes)
kept_on edits rows bytes position kept count le =
    ap (λ (n : ℕ). take n (drop position bytes) ++ edited edits rows (drop kept (drop position bytes))) (omega (arith, le))
    ∙ ap (λ (t : List ℕ). t ++ edited edits rows (drop kept (drop position bytes))) (take_more_bytes count (kept - count) (drop position bytes))
    ∙ append_assoc (take count (drop position bytes)) (take (kept - count) (drop count (drop position bytes))) (edited edits rows (drop kept (drop position bytes)))
    ∙ ap (λ (t : List ℕ). take count (drop position bytes) ++ (take (kept - count) (drop count (drop position bytes)) ++ edited edits rows t)) passed
    ∙ ap (λ (t : List ℕ). take count (drop position bytes) ++ (take (kept - count) t ++ edited edits rows (drop (kept - count) t))) (drop-drop count position bytes)
  where
    passed : drop kept (drop position bytes) ≡ drop (kept - count) (drop count (drop position bytes))
    passed = ap (λ (n : ℕ). drop n (drop position bytes)) (omega (arith, le)) ∙ sym (drop-drop (kept - count) count (drop position bytes))

pub keeps : (out out_after window : List ℕ) (edits : List Edit) (rows : List (Option RowView)) (position kept count from : ℕ)
    → from ≤ position → count ≤ kept → (position - from) + count ≤ length window → out_after ≡ out ++ take count (drop (position - from) window)
    → Rewrites from window (record { out = out; edits = Keep kept ∷ edits; rows = rows; position = position })
    (record { out = out_after; edits = Keep (kept - count) ∷ edits; rows = rows; position = position + count })
keeps out out_after window edits rows position kept count from lo le inside is = record {
  same = λ bytes reads.
      ap (λ (t : List ℕ). t ++ edited (Keep (kept - count) ∷ edits) rows (drop (position + count) bytes))
      (is ∙ ap (λ (t : List ℕ). out ++ t) (seen bytes window from (position - from) count reads inside ∙ ap (λ (n : ℕ). take count (drop n bytes)) (omega (arith, lo))))
      ∙ append_assoc out (take count (drop position bytes)) (edited (Keep (kept - count) ∷ edits) rows (drop (position + count) bytes))
      ∙ ap (λ (t : List ℕ). out ++ t) (sym (kept_on edits rows bytes position kept count le));
  len = omega (arith, le, long);
  end = omega (arith, le);
  forward = omega arith;
}
  where
    long : length out_after ≡ length out + count
    long =
        ap length is ∙ length-append out (take count (drop (position - from) window))
        ∙ ap (λ (n : ℕ). length out + n) (length-take-le count (drop (position - from) window) (omega (arith, inside, length-drop (position - from) window)))

pub kept_smaller : (out out_after window : List ℕ) (edits : List Edit) (rows : List (Option RowView)) (position kept count d : ℕ)
    → length out < 131072 → 0 < count → d + count ≤ length window → out_after ≡ out ++ take count (drop d window)
    → steps_left (record { out = out_after; edits = Keep (kept - count) ∷ edits; rows = rows; position = position + count })
    < steps_left (record { out = out; edits = Keep kept ∷ edits; rows = rows; position = position })
kept_smaller out out_after window edits rows position kept count d room some inside is = omega (arith, room, some, long)
  where
    long : length out_after ≡ length out + count
    long =
        ap length is ∙ length-append out (take count (drop d window))
        ∙ ap (λ (n : ℕ). length out + n) (length-take-le count (drop d window) (omega (arith, inside, length-drop d window)))

-- an edit that is begun
pub begun : (edit : Edit) (edits : List Edit) (rows : List (Option RowView)) (bytes : List ℕ) → edited (edit ∷ Keep 0 ∷ edits) rows bytes ≡ edited (edit ∷ edits) rows bytes
begun (Keep n) edits rows bytes = refl
begun (Pass n) edits rows bytes = refl
begun Put edits [] bytes = refl
begun Put edits (row ∷ rows) bytes = refl

pub begun_len : (edit : Edit) (edits : List Edit) (rows : List (Option RowView)) → bytes_out (edit ∷ Keep 0 ∷ edits) rows ≡ bytes_out (edit ∷ edits) rows
begun_len (Keep n) edits rows = omega arith
begun_len (Pass n) edits rows = omega arith
begun_len Put edits [] = omega arith
begun_len Put edits (row ∷ rows) = omega arith

pub begun_end : (edit : Edit) (edits : List Edit) → bytes_in (edit ∷ Keep 0 ∷ edits) ≡ bytes_in (edit ∷ edits)
begun_end (Keep n) edits = omega arith
begun_end (Pass n) edits = omega arith
begun_end Put edits = omega arith

pub record_len : (row : RowView) → length (row_record row) ≡ row_len row
unfolding row_record
record_len row = ap suc (length-append (to_be_bytes w32 (length (segment_encoding row.1))) (segment_encoding row.1)) ∙ omega arith

pub some_len : (row : Option RowView) → length (record_if_any row) ≡ len_if_any row
some_len None = refl
some_len (Some row) = record_len row

pub put_len : (rows : List (Option RowView)) (view : RewriteView) → view.rows ≡ rows → untaken_len (with_next_row rows view) ≡ untaken_len (with_edit Put view)
put_len [] view is =
    ap (λ (l : List (Option RowView)). length view.out + bytes_out view.edits l) is ∙ ap (λ (l : List (Option RowView)). length view.out + bytes_out (Put ∷ view.edits) l) (sym is)
put_len (row ∷ rows) view is =
    omega (arith, length-append view.out (record_if_any row), some_len row) ∙ ap (λ (l : List (Option RowView)). length view.out + bytes_out (Put ∷ view.edits) l) (sym is)

pub step_same : (edits : List Edit) (edit : Edit) (rest : List Edit) (rows : List (Option RowView)) (bytes : List ℕ) → edits ≡ Keep 0 ∷ edit ∷ rest
    → edited (edit ∷ Keep 0 ∷ rest) rows bytes ≡ edited edits rows bytes
step_same edits edit rest rows bytes is = begun edit rest rows bytes ∙ ap (λ (l : List Edit). edited l rows bytes) (sym is)

-- the front of the buffer is taken
pub cut_moved : (count used : ℕ) (old new : List ℕ) → count ≤ used → used ≤ length old → new ≡ copy_within old count used 0
    → take (used - count) new ≡ drop count (take used old)
cut_moved count used old new low high moved =
    ap (take (used - count)) moved
    ∙ ap (λ (n : ℕ). take n (copy_within old count used 0)) (omega arith)
    ∙ take-paste old 0 (drop count old) (used - count) (omega arith) (omega (arith, length-drop count old))
    ∙ sym (drop-take count (used - count) old)
    ∙ ap (λ (k : ℕ). drop count (take k old)) (omega arith)
