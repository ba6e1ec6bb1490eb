-- Rows after other rows: for `in_threads`.
use Rattle.std.proofs.Common.{◌≡◌, ◌+◌, ◌≤◌, ℕ, Bool, true, List, [], ◌∷◌, ◌++◌, length, drop, refl, sym, ap, subst, ◌∙◌, arith, append_assoc, append-nil, Some, None, Bor}
use Rattle.std.specs.Prelude.{Option}
use Rattle.std.specs.List.{slice_get, AllByRecursion}
use Rattle.std.specs.Option.{option_copied}
use Rattle.std.specs.Ordering.{is_lt}
use Rattle.std.specs.declared.cmp.Ordering.TheVariants.{Less}
use Rattle.seg_core.specs.Message.{last_of}
use Rattle.row_map.specs.declared.row.Row.{Row}
use Rattle.row_map.specs.Database.{RowView, key_order, IsDatabase}
use Rattle.row_map.specs.Row.{row_view, row_views}
use Rattle.std.proofs.lemmas.List.{length-append, map-append, drop-drop, drop_at, drop_all}
use Rattle.std.proofs.lemmas.Grind.{flat_map-append}
use Rattle.path_records.specs.RowRecord.{row_record, rows_encoding, has_row, is_row_above}
use Rattle.path_records.specs.DatabaseReader.{AreRowsOf, AreReadOn}
use Rattle.path_records.proofs.RowPieces.{database_more}
use Rattle.path_records.proofs.RowsRead.{last_behind}

-- ---- two lists of rows

-- there is no later row, or the first of them is above the last of the rows
abbrev pub IsFirstAbove : List RowView → List RowView → Type 0
IsFirstAbove rows [] = Unit {0}
IsFirstAbove rows (row ∷ more) = is_row_above (last_of rows) row ≡ true

-- the next row is above the first one
next_above : (rows : List RowView) (row : RowView) (more : List RowView) → AllByRecursion (λ later. key_order row later ≡ Less) more → IsFirstAbove (rows ++ row ∷ []) more
next_above rows row [] all = tt
next_above rows row (next ∷ more) all = ap (λ (o : Option RowView). is_row_above o next) (last_behind rows row) ∙ ap is_lt all.0

-- all rows are a database
pub database_behind : (rows more : List RowView) → IsDatabase rows → IsDatabase more → IsFirstAbove rows more → IsDatabase (rows ++ more)
database_behind rows [] is more above = subst IsDatabase (sym (append-nil rows)) is
database_behind rows (row ∷ rest) is more above =
    subst IsDatabase (append_assoc rows (row ∷ []) rest)
    (database_behind (rows ++ row ∷ []) rest (database_more rows row is more.whole.0 above) (record { rising = more.rising.1; whole = more.whole.1 }) (next_above rows row rest more.rising.0))

-- the first of the later rows was found, and it is above
pub found_above : (rows : List RowView) (more : List Row) (found : Option (Bor Row)) (first : Bor Row) → found ≡ Some first → option_copied found ≡ slice_get more 0
    → is_row_above (last_of rows) (row_view first.now) ≡ true → IsFirstAbove rows (row_views more)
found_above rows [] found first is there above = tt
found_above rows (row ∷ more) found first is there above =
    ap seen_above (sym there ∙ ap option_copied is) ∙ above
  where
    seen_above : Option Row → Bool
    seen_above None = true
    seen_above (Some r) = is_row_above (last_of rows) (row_view r)

-- ---- rows that were read behind others

-- the bytes after the first ones
dropped_behind : (low high : List ℕ) (taken : ℕ) → drop (length low + taken) (low ++ high) ≡ drop taken high
dropped_behind low high taken = sym (drop-drop taken (length low) (low ++ high)) ∙ ap (drop taken) (drop_at low high (length low) refl)

-- the views of two lists of rows
views_behind : (front back all : List Row) → all ≡ front ++ back → row_views all ≡ row_views front ++ row_views back
views_behind front back all same = ap row_views same ∙ map-append row_view front back

-- all of the first bytes are rows, and at the front of the others there are rows
pub read_behind : (front back all : List Row) (low high : List ℕ) (taken : ℕ) → all ≡ front ++ back → IsDatabase (row_views all)
    → AreRowsOf (row_views front) low → AreReadOn [] (row_views back) high taken → AreReadOn [] (row_views all) (low ++ high) (length low + taken)
read_behind front back all low high taken joined is first read = record {
  within = omega (arith, read.within, length-append low high);
  same =
      let behind = drop (length low + taken) (low ++ high) in
      ap (λ (rows : List RowView). rows_encoding rows ++ behind) (views_behind front back all joined)
      ∙ ap (λ (t : List ℕ). t ++ behind) (flat_map-append row_record (row_views front) (row_views back))
      ∙ append_assoc (rows_encoding (row_views front)) (rows_encoding (row_views back)) behind
      ∙ ap (λ (t : List ℕ). rows_encoding (row_views front) ++ (rows_encoding (row_views back) ++ t)) (dropped_behind low high taken)
      ∙ ap (λ (t : List ℕ). rows_encoding (row_views front) ++ t) read.same
      ∙ ap (λ (t : List ℕ). t ++ high) first.records;
  database = is;
  rest = ap has_row (dropped_behind low high taken) ∙ read.rest;
}

-- all bytes were read
read_whole : (rows : List RowView) (bytes : List ℕ) (taken : ℕ) → AreReadOn [] rows bytes taken → length bytes ≤ taken → AreRowsOf rows bytes
read_whole rows bytes taken read all = record {
  database = read.database;
  records = sym (append-nil (rows_encoding rows)) ∙ ap (λ (t : List ℕ). rows_encoding rows ++ t) (sym (drop_all taken bytes all)) ∙ read.same;
}

-- bytes in four parts are two halves
pub halves : (bytes first second third last behind rest : List ℕ) → bytes ≡ first ++ behind → behind ≡ second ++ rest → rest ≡ third ++ last
    → bytes ≡ (first ++ second) ++ (third ++ last)
halves bytes first second third last behind rest one two three =
    one ∙ ap (λ (t : List ℕ). first ++ t) two ∙ ap (λ (t : List ℕ). first ++ (second ++ t)) three ∙ sym (append_assoc first second (third ++ last))

-- the same of halves, where the first one was read as far as it goes
pub read_halves : (front back all : List Row) (bytes low high : List ℕ) (whole taken : ℕ) → bytes ≡ low ++ high → length low ≤ whole → all ≡ front ++ back → IsDatabase (row_views all)
    → AreReadOn [] (row_views front) low whole → AreReadOn [] (row_views back) high taken → AreReadOn [] (row_views all) bytes (whole + taken)
read_halves front back all bytes low high whole taken same long joined is first read =
    subst (λ (l : List ℕ). AreReadOn [] (row_views all) l (whole + taken)) (sym same)
    (subst (λ (n : ℕ). AreReadOn [] (row_views all) (low ++ high) n) (ends whole long first.within)
    (read_behind front back all low high taken joined is (read_whole (row_views front) low whole first long) read))
  where
    ends : (n : ℕ) → length low ≤ n → n ≤ length low → length low + taken ≡ n + taken
    ends n least most = omega (arith, least, most)
