-- What planning makes: for `putting` and `planner`.
use Rattle.std.proofs.Common.{◌≡◌, ℕ, suc, ◌+◌, ◌<◌, ◌≤◌, Bool, true, false, List, [], ◌∷◌, ◌++◌, length, take, drop, get_or, refl, sym, ap, ◌∙◌, subst, append_assoc, append-nil, arith, if◌then◌else◌}
use Rattle.std.specs.Prelude.{Option, Some, None, map}
use Rattle.std.specs.Option.{option_to_list}
use Rattle.std.specs.declared.cmp.Ordering.{Ordering}
use Rattle.std.specs.declared.cmp.Ordering.TheVariants.{Less, Equal, Greater}
use Rattle.std.specs.Ordering.{ordering_index}
use Rattle.std.specs.Bool.{◌==◌}
use Rattle.std.proofs.lemmas.List.{length-append, length-drop, length-take-le, length-map, take-append-le, drop-append-le, map-append, take_more}
use Rattle.std.proofs.Math.Seq.{drop-cons, take-append_seam}
use Rattle.std.proofs.lemmas.Grind.{flat_map-append}
use Rattle.std.proofs.lemmas.List.Concat.{flat_map-cons}
use Rattle.std.proofs.lemmas.List.Sums.{sum_by-cons}
use Rattle.row_map.specs.Database.{RowView, key_of, row_len, rows_len}
use Rattle.path_records.specs.declared.key.Key.{Key}
use Rattle.path_records.specs.Key.{key_bytes}
use Rattle.path_records.specs.RowRecord.{row_record, rows_encoding}
use Rattle.ckpt_stream.specs.declared.plan.Edit.{Edit}
use Rattle.ckpt_stream.specs.declared.plan.Edit.TheVariants.{Keep, Pass, Put}
use Rattle.ckpt_stream.specs.Merging.{order_of, one_if, by_order, rows_left, merged}
use Rattle.ckpt_stream.specs.Found.{found_by_order, rows_found}
use Rattle.ckpt_stream.specs.Edits.{record_if_any, edited, bytes_in, puts_in, count_rows}
use Rattle.ckpt_stream.specs.Planning.{keys_done, keys_left, IsPlanned, IsBeforeRowEdit, IsAfterKeyPuts, IsEnding, MakesAll, rows_unless, rows_when, SameEdits}
use Rattle.ckpt_stream.proofs.RewriteSteps.{record_len}

-- ---- edits after others

pub bytes_behind : (es fs : List Edit) → bytes_in (es ++ fs) ≡ bytes_in es + bytes_in fs
bytes_behind [] fs = omega arith
bytes_behind (Keep n ∷ es) fs = omega (arith, bytes_behind es fs)
bytes_behind (Pass n ∷ es) fs = omega (arith, bytes_behind es fs)
bytes_behind (Put ∷ es) fs = bytes_behind es fs

pub puts_behind : (es fs : List Edit) → puts_in (es ++ fs) ≡ puts_in es + puts_in fs
puts_behind [] fs = omega arith
puts_behind (Keep n ∷ es) fs = puts_behind es fs
puts_behind (Pass n ∷ es) fs = puts_behind es fs
puts_behind (Put ∷ es) fs = omega (arith, puts_behind es fs)

-- they make their part of what comes after
pub edited_behind : (es fs : List Edit) (rows more : List (Option RowView)) (bytes behind : List ℕ) → puts_in es ≡ length rows → bytes_in es ≡ length bytes
    → edited (es ++ fs) (rows ++ more) (bytes ++ behind) ≡ edited es rows bytes ++ edited fs more behind
edited_behind [] fs [] more [] behind puts len = refl
edited_behind [] fs (r ∷ rows) more bytes behind puts len = absurd (omega (arith, puts))
edited_behind [] fs [] more (b ∷ bytes) behind puts len = absurd (omega (arith, len))
edited_behind (Keep n ∷ es) fs rows more bytes behind puts len =
    ap (λ (l : List ℕ). l ++ edited (es ++ fs) (rows ++ more) (drop n (bytes ++ behind))) (take-append-le n bytes behind (omega (arith, len)))
    ∙ ap (λ (l : List ℕ). take n bytes ++ edited (es ++ fs) (rows ++ more) l) (drop-append-le n bytes behind (omega (arith, len)))
    ∙ ap (λ (l : List ℕ). take n bytes ++ l) (edited_behind es fs rows more (drop n bytes) behind puts (omega (arith, len, length-drop n bytes)))
    ∙ sym (append_assoc (take n bytes) (edited es rows (drop n bytes)) (edited fs more behind))
edited_behind (Pass n ∷ es) fs rows more bytes behind puts len =
    ap (λ (l : List ℕ). edited (es ++ fs) (rows ++ more) l) (drop-append-le n bytes behind (omega (arith, len)))
    ∙ edited_behind es fs rows more (drop n bytes) behind puts (omega (arith, len, length-drop n bytes))
edited_behind (Put ∷ es) fs [] more bytes behind puts len = absurd (omega (arith, puts))
edited_behind (Put ∷ es) fs (row ∷ rows) more bytes behind puts len =
    ap (λ (l : List ℕ). record_if_any row ++ l) (edited_behind es fs rows more bytes behind (omega (arith, puts)) len)
    ∙ sym (append_assoc (record_if_any row) (edited es rows bytes) (edited fs more behind))

-- after the same edits
under_same : (es fs gs : List Edit) → ((rows : List (Option RowView)) (bytes : List ℕ) → edited fs rows bytes ≡ edited gs rows bytes)
    → (rows : List (Option RowView)) (bytes : List ℕ) → edited (es ++ fs) rows bytes ≡ edited (es ++ gs) rows bytes
under_same [] fs gs same rows bytes = same rows bytes
under_same (Keep n ∷ es) fs gs same rows bytes = ap (λ (l : List ℕ). take n bytes ++ l) (under_same es fs gs same rows (drop n bytes))
under_same (Pass n ∷ es) fs gs same rows bytes = under_same es fs gs same rows (drop n bytes)
under_same (Put ∷ es) fs gs same [] bytes = under_same es fs gs same [] bytes
under_same (Put ∷ es) fs gs same (row ∷ rows) bytes = ap (λ (l : List ℕ). record_if_any row ++ l) (under_same es fs gs same rows bytes)

-- after other edits, two that make the same make the same
pub same_behind : (es fs gs : List Edit) → SameEdits gs fs → SameEdits (es ++ gs) (es ++ fs)
same_behind es fs gs same = record {
  makes = under_same es fs gs same.makes;
  bytes = omega (arith, bytes_behind es fs, bytes_behind es gs, same.bytes);
  puts = omega (arith, puts_behind es fs, puts_behind es gs, same.puts);
}

pub joined : (old es new : List Edit) (last next both : Edit) → old ≡ es ++ last ∷ [] → new ≡ es ++ both ∷ [] → SameEdits (last ∷ next ∷ []) (both ∷ [])
    → SameEdits (old ++ next ∷ []) new
joined old es new last next both was is same =
    subst (λ (l : List Edit). SameEdits l new) (sym (ap (λ (l : List Edit). l ++ next ∷ []) was ∙ append_assoc es (last ∷ []) (next ∷ [])))
    (subst (λ (l : List Edit). SameEdits (es ++ last ∷ next ∷ []) l) (sym is) (same_behind es (both ∷ []) (last ∷ next ∷ []) same))

pub same_edits : (es fs : List Edit) → fs ≡ es → SameEdits es fs
same_edits es fs is = subst (λ (l : List Edit). SameEdits es l) (sym is) (record { makes = λ rows bytes. refl; bytes = refl; puts = refl })

-- ---- rows put under keys

-- the record of what is left under a key
left_record : (found : Option RowView) → rows_encoding (option_to_list found) ≡ record_if_any found
left_record None = refl
left_record (Some row) = flat_map-cons row_record row [] ∙ append-nil (row_record row)

pub one_record : (row : RowView) → rows_encoding (row ∷ []) ≡ row_record row
one_record row = flat_map-cons row_record row [] ∙ append-nil (row_record row)

pub counted_rows : (rows : List RowView) → length (rows_encoding rows) ≡ rows_len rows
counted_rows [] = refl
counted_rows (row ∷ rows) =
    omega (arith, ap length (flat_map-cons row_record row rows), length-append (row_record row) (rows_encoding rows), record_len row, counted_rows rows, sum_by-cons row_len row rows)

counts_behind : (rows more : List (Option RowView)) → count_rows (rows ++ more) ≡ count_rows rows + count_rows more
counts_behind [] more = omega arith
counts_behind (found ∷ rows) more = omega (arith, counts_behind rows more)

module _ (keys : List Key) (at : ℕ) (d : Key) (lt : at < length keys) where
  abbrev k : Key
  k = get_or keys at d

  left_first : keys_left keys at ≡ key_bytes k ∷ keys_left keys (at + 1)
  left_first =
      let more : suc at ≡ at + 1 = omega arith in
      ap (λ (l : List Key). map key_bytes l) (drop-cons keys at d lt)
      ∙ ap (λ (n : ℕ). key_bytes k ∷ map key_bytes (drop n keys)) more

  done_more : keys_done keys (at + 1) ≡ keys_done keys at ++ key_bytes k ∷ []
  done_more = ap (λ (l : List Key). map key_bytes l) (take_more keys at d lt) ∙ map-append key_bytes (take at keys) (get_or keys at d ∷ [])

  -- a row was put under the next key
  put_one : (p : RowView → Bool) (seen : List RowView) (edits : List Edit) (left : List ℕ → Option RowView) → puts_in edits ≡ at → bytes_in edits ≡ rows_len seen → length (rows_encoding seen) ≡ rows_len seen
      → edited (edits ++ Put ∷ []) (map left (keys_done keys (at + 1))) (rows_encoding seen)
      ≡ edited edits (map left (keys_done keys at)) (rows_encoding seen) ++ record_if_any (left (key_bytes k))
  put_one p seen edits left puts len counted =
      ap (λ (l : List (List ℕ)). edited (edits ++ Put ∷ []) (map left l) (rows_encoding seen)) done_more
      ∙ ap (λ (l : List (Option RowView)). edited (edits ++ Put ∷ []) l (rows_encoding seen)) (map-append left (keys_done keys at) (key_bytes k ∷ []))
      ∙ ap (λ (l : List ℕ). edited (edits ++ Put ∷ []) (map left (keys_done keys at) ++ left (key_bytes k) ∷ []) l) (sym (append-nil (rows_encoding seen)))
      ∙ edited_behind edits (Put ∷ []) (map left (keys_done keys at)) (left (key_bytes k) ∷ []) (rows_encoding seen) []
      (omega (arith, puts, length-map (keys_done keys at) left, length-map (take at keys) key_bytes, length-take-le at keys (omega (arith, lt)))) (omega (arith, len, counted))
      ∙ ap (λ (l : List ℕ). edited edits (map left (keys_done keys at)) (rows_encoding seen) ++ l) (append-nil (record_if_any (left (key_bytes k))))

  put_count : (left : List ℕ → Option RowView)
      → count_rows (map left (keys_done keys (at + 1))) ≡ count_rows (map left (keys_done keys at)) + length (option_to_list (left (key_bytes k)))
  put_count left =
      ap (λ (l : List (List ℕ)). count_rows (map left l)) done_more
      ∙ ap count_rows (map-append left (keys_done keys at) (key_bytes k ∷ []))
      ∙ counts_behind (map left (keys_done keys at)) (left (key_bytes k) ∷ [])
      ∙ omega arith

  module _ (row : RowView) (p : RowView → Bool) (seen : List RowView) (edits : List Edit) (kept : ℕ) (olds : List RowView)
      (before : IsBeforeRowEdit row keys p seen at edits kept olds) where
    counted : length (rows_encoding seen) ≡ rows_len seen
    counted = counted_rows seen

    more_of : (left : List ℕ → Option RowView) (o : Ordering) (rows : List RowView) → order_of (key_bytes k) (key_of row) ≡ o
        → merged left p (keys_left keys at) (row ∷ rows)
        ≡ by_order o left p row (λ ks. merged left p ks rows) (key_bytes k) (keys_left keys (at + 1)) (merged left p (keys_left keys (at + 1)) (row ∷ rows))
    more_of left o rows order =
        ap (λ (ks : List (List ℕ)). merged left p ks (row ∷ rows)) left_first
        ∙ ap (λ (x : Ordering). by_order x left p row (λ ks. merged left p ks rows) (key_bytes k) (keys_left keys (at + 1)) (merged left p (keys_left keys (at + 1)) (row ∷ rows))) order

    -- by what comes after the row that is put
    put_on : (left : List ℕ → Option RowView) (rows rest : List RowView) → merged left p (keys_left keys at) (row ∷ rows) ≡ option_to_list (left (key_bytes k)) ++ rest
        → rows_encoding (merged left p (map key_bytes keys) (seen ++ row ∷ rows))
        ≡ edited (edits ++ Put ∷ []) (map left (keys_done keys (at + 1))) (rows_encoding seen) ++ rows_encoding rest
    put_on left rows rest is_so =
        before.makes left rows
        ∙ ap (λ (l : List RowView). edited edits (map left (keys_done keys at)) (rows_encoding seen) ++ rows_encoding l) is_so
        ∙ ap (λ (l : List ℕ). edited edits (map left (keys_done keys at)) (rows_encoding seen) ++ l)
        (flat_map-append row_record (option_to_list (left (key_bytes k))) rest ∙ ap (λ (l : List ℕ). l ++ rows_encoding rest) (left_record (left (key_bytes k))))
        ∙ sym (append_assoc (edited edits (map left (keys_done keys at)) (rows_encoding seen)) (record_if_any (left (key_bytes k))) (rows_encoding rest))
        ∙ ap (λ (l : List ℕ). l ++ rows_encoding rest) (sym (put_one p seen edits left before.puts before.bytes counted))

    counts_on : (left : List ℕ → Option RowView) (rows rest : List RowView) → merged left p (keys_left keys at) (row ∷ rows) ≡ option_to_list (left (key_bytes k)) ++ rest
        → length (merged left p (map key_bytes keys) (seen ++ row ∷ rows)) ≡ kept + count_rows (map left (keys_done keys (at + 1))) + length rest
    counts_on left rows rest is_so =
        let all = before.counts left rows in
        let here : length (merged left p (keys_left keys at) (row ∷ rows)) ≡ length (option_to_list (left (key_bytes k))) + length rest =
        ap length is_so ∙ length-append (option_to_list (left (key_bytes k))) rest in
        let done = put_count left in
        omega (arith, all, here, done)

    found_on : (o : Ordering) (rows : List RowView) → order_of (key_bytes k) (key_of row) ≡ o
        → rows_found (keys_left keys at) (row ∷ rows)
        ≡ found_by_order o row (λ ks. rows_found ks rows) (key_bytes k) (keys_left keys (at + 1)) (rows_found (keys_left keys (at + 1)) (row ∷ rows))
    found_on o rows order =
        ap (λ (ks : List (List ℕ)). rows_found ks (row ∷ rows)) left_first
        ∙ ap (λ (x : Ordering). found_by_order x row (λ ks. rows_found ks rows) (key_bytes k) (keys_left keys (at + 1)) (rows_found (keys_left keys (at + 1)) (row ∷ rows))) order

    put_puts : puts_in (edits ++ Put ∷ []) ≡ at + 1
    put_puts = omega (arith, puts_behind edits (Put ∷ []), before.puts)

    put_bytes : bytes_in (edits ++ Put ∷ []) ≡ rows_len seen
    put_bytes = omega (arith, bytes_behind edits (Put ∷ []), before.bytes)

    pub put_below : order_of (key_bytes k) (key_of row) ≡ Less → IsBeforeRowEdit row keys p seen (at + 1) (edits ++ Put ∷ []) kept olds
    put_below order = record {
      inside = omega (arith, lt);
      puts = put_puts;
      bytes = put_bytes;
      makes = λ left rows. put_on left rows (merged left p (keys_left keys (at + 1)) (row ∷ rows)) (more_of left Less rows order);
      counts = λ left rows. counts_on left rows (merged left p (keys_left keys (at + 1)) (row ∷ rows)) (more_of left Less rows order);
      finds = λ rows. before.finds rows ∙ ap (λ (l : List RowView). olds ++ l) (found_on Less rows order);
    }

    pub put_same : order_of (key_bytes k) (key_of row) ≡ Equal → IsAfterKeyPuts true row keys p seen (at + 1) (edits ++ Put ∷ []) kept olds
    put_same order = record {
      inside = omega (arith, lt);
      puts = put_puts;
      bytes = put_bytes;
      makes = λ left rows. put_on left rows (merged left p (keys_left keys (at + 1)) rows) (more_of left Equal rows order);
      counts = λ left rows. counts_on left rows (merged left p (keys_left keys (at + 1)) rows) (more_of left Equal rows order);
      finds = λ rows. before.finds rows ∙ ap (λ (l : List RowView). olds ++ l) (found_on Equal rows order);
    }

    pub none_same : order_of (key_bytes k) (key_of row) ≡ Greater → IsAfterKeyPuts false row keys p seen at edits kept olds
    none_same order = record {
      inside = before.inside;
      puts = before.puts;
      bytes = before.bytes;
      makes = λ left rows.
          before.makes left rows
          ∙ ap (λ (l : List RowView). edited edits (map left (keys_done keys at)) (rows_encoding seen) ++ rows_encoding l)
          (more_of left Greater rows order ∙ ap (λ (ks : List (List ℕ)). one_if p row ++ merged left p ks rows) (sym left_first));
      counts = λ left rows.
          before.counts left rows
          ∙ ap (λ (l : List RowView). kept + count_rows (map left (keys_done keys at)) + length l)
          (more_of left Greater rows order ∙ ap (λ (ks : List (List ℕ)). one_if p row ++ merged left p ks rows) (sym left_first));
      finds = λ rows.
          before.finds rows
          ∙ ap (λ (l : List RowView). olds ++ l) (found_on Greater rows order ∙ ap (λ (ks : List (List ℕ)). rows_found ks rows) (sym left_first));
    }

-- no key is left
empty_map : (l : List Key) → length l ≡ 0 → map key_bytes l ≡ []
empty_map [] e = refl
empty_map (x ∷ l) e = absurd (omega (arith, e))

pub none_left : (keys : List Key) (at : ℕ) (row : RowView) (p : RowView → Bool) (seen : List RowView) (edits : List Edit) (kept : ℕ) (olds : List RowView) → length keys ≤ at
    → IsBeforeRowEdit row keys p seen at edits kept olds → IsAfterKeyPuts false row keys p seen at edits kept olds
none_left keys at row p seen edits kept olds end before = record {
  inside = before.inside;
  puts = before.puts;
  bytes = before.bytes;
  makes = λ left rows.
      before.makes left rows
      ∙ ap (λ (l : List RowView). edited edits (map left (keys_done keys at)) (rows_encoding seen) ++ rows_encoding l) (none left rows (keys_left keys at) over);
  counts = λ left rows.
      before.counts left rows
      ∙ ap (λ (l : List RowView). kept + count_rows (map left (keys_done keys at)) + length l) (none left rows (keys_left keys at) over);
  finds = λ rows. before.finds rows ∙ ap (λ (l : List RowView). olds ++ l) (none_found rows (keys_left keys at) over);
}
  where
    over : keys_left keys at ≡ []
    over = empty_map (drop at keys) (omega (arith, end, length-drop at keys))

    none : (left : List ℕ → Option RowView) (rows : List RowView) (ks : List (List ℕ)) → ks ≡ [] → merged left p ks (row ∷ rows) ≡ one_if p row ++ merged left p ks rows
    none left rows [] e = refl
    none left rows (x ∷ ks) e = absurd cc

    none_found : (rows : List RowView) (ks : List (List ℕ)) → ks ≡ [] → rows_found ks (row ∷ rows) ≡ rows_found ks rows
    none_found rows [] e = refl
    none_found rows (x ∷ ks) e = absurd cc

-- ---- the row itself

module _ (keys : List Key) (at : ℕ) (row : RowView) (p : RowView → Bool) (seen : List RowView) (edits after : List Edit) (kept : ℕ) (olds : List RowView) where
  counted_seen : length (rows_encoding seen) ≡ rows_len seen
  counted_seen = counted_rows seen

  seen_more : rows_encoding (seen ++ row ∷ []) ≡ rows_encoding seen ++ row_record row
  seen_more = flat_map-append row_record seen (row ∷ []) ∙ ap (λ (l : List ℕ). rows_encoding seen ++ l) (one_record row)

  len_more : rows_len (seen ++ row ∷ []) ≡ rows_len seen + row_len row
  len_more = len_of seen
    where
      len_of : (l : List RowView) → rows_len (l ++ row ∷ []) ≡ rows_len l + row_len row
      len_of [] = sum_by-cons row_len row [] ∙ omega arith
      len_of (first ∷ l) = omega (arith, sum_by-cons row_len first (l ++ row ∷ []), sum_by-cons row_len first l, len_of l)

  -- by the last edit and what becomes of the row's record
  ends : (found : Bool) (last : Edit) (made : List ℕ) (kept_now : ℕ) (olds_now : List RowView) → IsAfterKeyPuts found row keys p seen at edits kept olds → SameEdits (edits ++ last ∷ []) after
      → bytes_in (last ∷ []) ≡ row_len row → puts_in (last ∷ []) ≡ 0 → edited (last ∷ []) [] (row_record row) ≡ made → rows_encoding (rows_unless found (one_if p row)) ≡ made
      → kept + length (rows_unless found (one_if p row)) ≡ kept_now → olds ++ rows_when found (row ∷ []) ≡ olds_now
      → IsPlanned keys p (seen ++ row ∷ []) at after kept_now olds_now
  ends found last made kept_now olds_now is same len none makes_it made_is more_kept more_olds = record {
    inside = is.inside;
    puts = omega (arith, same.puts, puts_behind edits (last ∷ []), is.puts, none);
    bytes = omega (arith, same.bytes, bytes_behind edits (last ∷ []), is.bytes, len, len_more);
    makes = λ left rows.
        ap (λ (l : List RowView). rows_encoding (merged left p (map key_bytes keys) l)) (append_assoc seen (row ∷ []) rows)
        ∙ is.makes left rows
        ∙ ap (λ (l : List ℕ). edited edits (map left (keys_done keys at)) (rows_encoding seen) ++ l)
        (flat_map-append row_record (rows_unless found (one_if p row)) (merged left p (keys_left keys at) rows) ∙ ap (λ (l : List ℕ). l ++ rows_encoding (merged left p (keys_left keys at) rows)) (made_is ∙ sym makes_it))
        ∙ sym (append_assoc (edited edits (map left (keys_done keys at)) (rows_encoding seen)) (edited (last ∷ []) [] (row_record row)) (rows_encoding (merged left p (keys_left keys at) rows)))
        ∙ ap (λ (l : List ℕ). l ++ rows_encoding (merged left p (keys_left keys at) rows)) (sym (whole left));
    counts = λ left rows.
        let all : length (merged left p (map key_bytes keys) ((seen ++ row ∷ []) ++ rows)) ≡ length (merged left p (map key_bytes keys) (seen ++ row ∷ rows)) =
        ap (λ (l : List RowView). length (merged left p (map key_bytes keys) l)) (append_assoc seen (row ∷ []) rows) in
        omega (arith, all, is.counts left rows, length-append (rows_unless found (one_if p row)) (merged left p (keys_left keys at) rows), more_kept);
    finds = λ rows.
        ap (rows_found (map key_bytes keys)) (append_assoc seen (row ∷ []) rows) ∙ is.finds rows
        ∙ sym (append_assoc olds (rows_when found (row ∷ [])) (rows_found (keys_left keys at) rows))
        ∙ ap (λ (l : List RowView). l ++ rows_found (keys_left keys at) rows) more_olds;
  }
    where
      whole : (left : List ℕ → Option RowView) → edited after (map left (keys_done keys at)) (rows_encoding (seen ++ row ∷ []))
          ≡ edited edits (map left (keys_done keys at)) (rows_encoding seen) ++ edited (last ∷ []) [] (row_record row)
      whole left =
          same.makes (map left (keys_done keys at)) (rows_encoding (seen ++ row ∷ []))
          ∙ ap (λ (l : List ℕ). edited (edits ++ last ∷ []) (map left (keys_done keys at)) l) seen_more
          ∙ ap (λ (l : List (Option RowView)). edited (edits ++ last ∷ []) l (rows_encoding seen ++ row_record row)) (sym (append-nil (map left (keys_done keys at))))
          ∙ edited_behind edits (last ∷ []) (map left (keys_done keys at)) [] (rows_encoding seen) (row_record row)
          (omega (arith, is.puts, is.inside, length-map (keys_done keys at) left, length-map (take at keys) key_bytes, length-take-le at keys is.inside)) (omega (arith, is.bytes, counted_seen))

  all_taken : take (row_len row) (row_record row) ++ [] ≡ row_record row
  all_taken =
      append-nil (take (row_len row) (row_record row)) ∙ ap (λ (n : ℕ). take n (row_record row)) (sym (record_len row))
      ∙ ap (take (length (row_record row))) (sym (append-nil (row_record row))) ∙ take-append_seam (row_record row) []

  pub ends_kept : (size : ℕ) → size ≡ row_len row → p row ≡ true → IsAfterKeyPuts false row keys p seen at edits kept olds → SameEdits (edits ++ Keep size ∷ []) after
      → IsPlanned keys p (seen ++ row ∷ []) at after (kept + 1) olds
  ends_kept size sized passes is same =
      let one : length (one_if p row) ≡ 1 = ap (λ (b : Bool). length (if b then row ∷ [] else [])) passes in
      ends false (Keep size) (row_record row) (kept + 1) olds is same (omega (arith, sized)) refl
      (ap (λ (n : ℕ). take n (row_record row) ++ []) sized ∙ all_taken)
      (ap (λ (b : Bool). rows_encoding (if b then row ∷ [] else [])) passes ∙ one_record row)
      (omega (arith, one)) (append-nil olds)

  pub ends_dropped : (size : ℕ) → size ≡ row_len row → p row ≡ false → IsAfterKeyPuts false row keys p seen at edits kept olds → SameEdits (edits ++ Pass size ∷ []) after
      → IsPlanned keys p (seen ++ row ∷ []) at after kept olds
  ends_dropped size sized fails is same =
      let none : length (one_if p row) ≡ 0 = ap (λ (b : Bool). length (if b then row ∷ [] else [])) fails in
      ends false (Pass size) [] kept olds is same (omega (arith, sized)) refl refl (ap (λ (b : Bool). rows_encoding (if b then row ∷ [] else [])) fails)
      (omega (arith, none)) (append-nil olds)

  pub ends_touched : (size : ℕ) → size ≡ row_len row → IsAfterKeyPuts true row keys p seen at edits kept olds → SameEdits (edits ++ Pass size ∷ []) after
      → IsPlanned keys p (seen ++ row ∷ []) at after kept (olds ++ row ∷ [])
  ends_touched size sized is same = ends true (Pass size) [] kept (olds ++ row ∷ []) is same (omega (arith, sized)) refl refl refl (omega arith) refl

-- before the next row
pub before_next : (keys : List Key) (at : ℕ) (row : RowView) (p : RowView → Bool) (seen : List RowView) (edits : List Edit) (kept : ℕ) (olds : List RowView)
    → IsPlanned keys p seen at edits kept olds → IsBeforeRowEdit row keys p seen at edits kept olds
before_next keys at row p seen edits kept olds is = record {
  inside = is.inside;
  puts = is.puts;
  bytes = is.bytes;
  makes = λ left rows. is.makes left (row ∷ rows);
  counts = λ left rows. is.counts left (row ∷ rows);
  finds = λ rows. is.finds (row ∷ rows);
}

-- ---- the tests of an order

pub is_greater : (o : Ordering) → true ≡ (ordering_index o == 2) → o ≡ Greater
is_greater Less e = absurd cc
is_greater Equal e = absurd cc
is_greater Greater e = refl

pub is_equal : (o : Ordering) → true ≡ (ordering_index o == 1) → o ≡ Equal
is_equal Less e = absurd cc
is_equal Equal e = refl
is_equal Greater e = absurd cc

pub is_less : (o : Ordering) → false ≡ (ordering_index o == 2) → false ≡ (ordering_index o == 1) → o ≡ Less
is_less Less e f = refl
is_less Equal e f = absurd cc
is_less Greater e f = absurd cc

-- ---- the end

pub ending_from : (keys : List Key) (at : ℕ) (p : RowView → Bool) (seen : List RowView) (edits : List Edit) (kept : ℕ) (olds : List RowView)
    → IsPlanned keys p seen at edits kept olds → IsEnding keys p seen at edits kept olds
ending_from keys at p seen edits kept olds is = record {
  inside = is.inside;
  puts = is.puts;
  bytes = is.bytes;
  makes = λ left rows. is.makes left [];
  counts = λ left rows. is.counts left [];
  finds = λ rows. is.finds [];
}

pub put_end : (keys : List Key) (at : ℕ) (d : Key) → at < length keys → (p : RowView → Bool) (seen : List RowView) (edits : List Edit) (kept : ℕ) (olds : List RowView)
    → IsEnding keys p seen at edits kept olds → IsEnding keys p seen (at + 1) (edits ++ Put ∷ []) kept olds
put_end keys at d lt p seen edits kept olds is = record {
  inside = omega (arith, lt);
  puts = omega (arith, puts_behind edits (Put ∷ []), is.puts);
  bytes = omega (arith, bytes_behind edits (Put ∷ []), is.bytes);
  makes = λ left rows.
      let k = get_or keys at d in
      let rest = rows_left left (keys_left keys (at + 1)) in
      let made = edited edits (map left (keys_done keys at)) (rows_encoding seen) in
      is.makes left rows
      ∙ ap (λ (ks : List (List ℕ)). made ++ rows_encoding (rows_left left ks)) (left_first keys at d lt)
      ∙ ap (λ (l : List ℕ). made ++ l)
      (flat_map-append row_record (option_to_list (left (key_bytes k))) rest ∙ ap (λ (l : List ℕ). l ++ rows_encoding rest) (left_record (left (key_bytes k))))
      ∙ sym (append_assoc made (record_if_any (left (key_bytes k))) (rows_encoding rest))
      ∙ ap (λ (l : List ℕ). l ++ rows_encoding rest) (sym (put_one keys at d lt p seen edits left is.puts is.bytes (counted_rows seen)));
  counts = λ left rows.
      let k = get_or keys at d in
      let rest = rows_left left (keys_left keys (at + 1)) in
      let here : length (rows_left left (keys_left keys at)) ≡ length (option_to_list (left (key_bytes k))) + length rest =
      ap (λ (ks : List (List ℕ)). length (rows_left left ks)) (left_first keys at d lt) ∙ length-append (option_to_list (left (key_bytes k))) rest in
      omega (arith, is.counts left rows, here, put_count keys at d lt left);
  finds = is.finds;
}

pub all_made : (keys : List Key) (at : ℕ) (p : RowView → Bool) (seen : List RowView) (edits : List Edit) (kept : ℕ) (olds : List RowView) → length keys ≤ at
    → IsEnding keys p seen at edits kept olds → MakesAll keys p seen edits kept olds
all_made keys at p seen edits kept olds end is = record {
  puts = omega (arith, is.puts, is.inside, end);
  bytes = is.bytes;
  makes = λ left.
      ap (λ (l : List Key). edited edits (map left (map key_bytes l)) (rows_encoding seen)) (sym all)
      ∙ sym (append-nil (edited edits (map left (keys_done keys at)) (rows_encoding seen)))
      ∙ ap (λ (ks : List (List ℕ)). edited edits (map left (keys_done keys at)) (rows_encoding seen) ++ rows_encoding (rows_left left ks)) (sym over)
      ∙ sym (is.makes left [])
      ∙ ap (λ (l : List RowView). rows_encoding (merged left p (map key_bytes keys) l)) (append-nil seen);
  counts = λ left.
      let whole : length (merged left p (map key_bytes keys) (seen ++ [])) ≡ length (merged left p (map key_bytes keys) seen) =
      ap (λ (l : List RowView). length (merged left p (map key_bytes keys) l)) (append-nil seen) in
      let none : length (rows_left left (keys_left keys at)) ≡ 0 = ap (λ (ks : List (List ℕ)). length (rows_left left ks)) over in
      let done : count_rows (map left (keys_done keys at)) ≡ count_rows (map left (map key_bytes keys)) =
      ap (λ (l : List Key). count_rows (map left (map key_bytes l))) all in
      omega (arith, whole, none, done, is.counts left []);
  finds = ap (rows_found (map key_bytes keys)) (sym (append-nil seen)) ∙ is.finds [] ∙ append-nil olds;
}
  where
    over : keys_left keys at ≡ []
    over = empty_map (drop at keys) (omega (arith, end, length-drop at keys))

    all : take at keys ≡ keys
    all =
        ap (λ (n : ℕ). take n keys) (omega (arith, is.inside, end))
        ∙ ap (take (length keys)) (sym (append-nil keys)) ∙ take-append_seam keys []
