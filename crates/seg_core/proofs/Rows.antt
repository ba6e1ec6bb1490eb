-- A scan of the entries of a map, which finds their segments with their types. For `read_map`,
-- and for reading a response back as its rows.
use Rattle.std.proofs.Common.{◌≡◌, ◌≢◌, ℕ, List, [], ◌∷◌, ◌++◌, Result, Ok, Err, refl, sym, ap, subst, ◌∙◌, append-nil}
use Rattle.std.proofs.lemmas.Grind.{flat_map-append}
use Rattle.seg_core.specs.declared.error.SegError.{SegError}
use Rattle.seg_core.specs.declared.error.SegError.TheVariants.{NoMemory}
use Rattle.seg_core.specs.declared.earlier.Earlier.{Earlier}
use Rattle.seg_core.specs.declared.seg_type.SegType.{SegType}
use Rattle.seg_core.specs.SegmentView.{SegmentView}
use Rattle.seg_core.specs.Steps.{◌>>=◌, result_map}
use Rattle.seg_core.specs.Registration.{typed_segments, MapEntry, entry_rows, map_entry_decoding, map_decoding}
use Rattle.seg_core.specs.Earlier.{with_type, AreIn}
use Rattle.seg_core.proofs.Types.{AreIn-with}

abbrev Rows : Type 0
Rows = List (SegType × SegmentView)

-- the type of an entry, and its rows after the rows found before
abbrev behind : Rows → MapEntry → SegType × Rows
behind found entry = (entry.0, found ++ typed_segments entry.0 entry.1)

-- What was found are the rows of entries, and with these the messages that are left give the rows
-- of all entries.
pub record Found (all left : List (List ℕ)) (found : Rows) (seen : Earlier) : Type 0 where
  pub entries : List MapEntry
  pub are_in : AreIn entries seen
  pub rows : entry_rows entries ≡ found
  pub gives : map_decoding [] all ≡ map_decoding entries left

pub Found-end : (all left : List (List ℕ)) (found : Rows) (seen : Earlier) → Found all left found seen → left ≡ [] → result_map entry_rows (map_decoding [] all) ≡ Ok found
unfolding map_decoding
Found-end all left found seen f none =
    ap (result_map entry_rows) (f.gives ∙ ap (map_decoding f.entries) none) ∙ ap Ok f.rows

-- one more entry
pub entry_rows-push : (entries : List MapEntry) (entry : MapEntry) → entry_rows (entries ++ entry ∷ []) ≡ entry_rows entries ++ typed_segments entry.0 entry.1
entry_rows-push entries entry =
    flat_map-append (λ entry. typed_segments entry.0 entry.1) entries (entry ∷ []) ∙ ap (λ rows. entry_rows entries ++ rows) (append-nil (typed_segments entry.0 entry.1))

-- the entry that was read
record WasRead (found found' : Rows) (kind : SegType) (r : Result MapEntry SegError) : Type 0 where
  entry : MapEntry
  is : r ≡ Ok entry
  kind_is : entry.0 ≡ kind
  found_is : found ++ typed_segments entry.0 entry.1 ≡ found'

was_read : (found found' : Rows) (kind : SegType) (r : Result MapEntry SegError) → result_map (behind found) r ≡ Ok (kind, found') → WasRead found found' kind r
was_read found found' kind (Ok entry) e =
    let same : behind found entry ≡ (kind, found') = cc in
    record { entry = entry; is = refl; kind_is = ap (λ entry. entry.0) same; found_is = ap (λ entry. entry.1) same }
was_read found found' kind (Err x) e = absurd cc

pub Found-step : (all left : List (List ℕ)) (found found' : Rows) (seen seen' : Earlier) (kind : SegType) (m : List ℕ) (ms : List (List ℕ))
    → Found all left found seen → left ≡ m ∷ ms
    → ((entries : List MapEntry) → AreIn entries seen → entry_rows entries ≡ found → result_map (behind found) (map_entry_decoding entries m) ≡ Ok (kind, found'))
    → seen' ≡ with_type seen kind
    → Found all ms found' seen'
unfolding map_decoding
Found-step all left found found' seen seen' kind m ms f is read insert =
    let was = was_read found found' kind (map_entry_decoding f.entries m) (read f.entries f.are_in f.rows) in
    record {
      entries = f.entries ++ was.entry ∷ [];
      are_in = subst (AreIn (f.entries ++ was.entry ∷ [])) (ap (with_type seen) was.kind_is ∙ sym insert) (AreIn-with f.entries seen was.entry.0 was.entry.1 f.are_in);
      rows = entry_rows-push f.entries was.entry ∙ ap (λ rows. rows ++ typed_segments was.entry.0 was.entry.1) f.rows ∙ was.found_is;
      gives = f.gives ∙ ap (map_decoding f.entries) is ∙ ap (λ r. r >>= λ entry. map_decoding (f.entries ++ entry ∷ []) ms) was.is;
    }

refused : (found : Rows) (e : SegError) (r : Result MapEntry SegError) → result_map (behind found) r ≡ Err e → r ≡ Err e
refused found e (Ok entry) is = absurd cc
refused found e (Err x) is = cc

pub Found-err : (all left : List (List ℕ)) (found : Rows) (seen : Earlier) (e : SegError) (m : List ℕ) (ms : List (List ℕ))
    → Found all left found seen → left ≡ m ∷ ms
    → ((entries : List MapEntry) → AreIn entries seen → entry_rows entries ≡ found → e ≢ NoMemory → result_map (behind found) (map_entry_decoding entries m) ≡ Err e)
    → e ≢ NoMemory → result_map entry_rows (map_decoding [] all) ≡ Err e
unfolding map_decoding
Found-err all left found seen e m ms f is read memory =
    let was = refused found e (map_entry_decoding f.entries m) (read f.entries f.are_in f.rows memory) in
    ap (result_map entry_rows)
    (f.gives ∙ ap (map_decoding f.entries) is ∙ ap (λ r. r >>= λ entry. map_decoding (f.entries ++ entry ∷ []) ms) was)
