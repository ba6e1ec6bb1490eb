-- The rows that a lookup asks for, and where they are: for `ways` and `matching`.
use Rattle.std.proofs.Common.{◌≡◌, ◌+◌, ◌*◌, ◌/◌, ◌%◌, ◌^◌, ◌<◌, ◌≤◌, ◌==◌, nat_lt, nat_le, ℕ, suc, take, arith, inl, inr, Bool, true, false, ◌&&◌, ◌||◌, List, Option, Some, None, refl, sym, ap, ◌∙◌, subst}
use Rattle.std.specs.List.{AllByRecursion, filter}
use Rattle.std.specs.List.Sorted.{IsStrictlySortedBy}
use Rattle.std.proofs.lemmas.Bool.{false≢true}
use Rattle.std.proofs.lemmas.Bool.Decides.{leb_tells}
use Rattle.std.proofs.lemmas.List.Elements.{filter_agree}
use Rattle.isd_as.specs.IsdAs.{isd_as_number, part_covers, covers_number}
use Rattle.seg_core.specs.declared.seg_type.SegType.{SegType}
use Rattle.seg_core.specs.declared.seg_type.SegType.TheVariants.{Up, Core, Down}
use Rattle.seg_core.specs.SegmentView.{EntryView, SegmentView}
use Rattle.seg_core.specs.Message.{last_of}
use Rattle.seg_core.specs.Registration.{type_number}
use Rattle.seg_core.specs.Digest.{segment_digest}
use Rattle.row_map.specs.IndexKey.{IndexKey, index_key_cmp, stands_at, stands_between}
use Rattle.row_map.specs.declared.end.End.{End}
use Rattle.row_map.specs.declared.end.End.TheVariants.{First, Last}
use Rattle.row_map.specs.declared.end.By.{By}
use Rattle.row_map.specs.declared.end.By.TheVariants.{OneEnd, BothEnds}
use Rattle.std.specs.Option.{option_map}
use Rattle.path_db.specs.declared.answers.Wanted.{Wanted}
use Rattle.row_map.specs.Database.{RowView, key_of, IsRising, row_under}
use Rattle.row_map.specs.Drops.{is_valid_beyond}
use Rattle.path_db.specs.Answer.{covers_entry, matches, is_shown, answer_of, answer_above}
use Rattle.row_map.specs.EndKeys.{entry_at_end, index_number, isds_number, isds_of, is_of, ends_at, IsRowIndex, IsCurrent}
use Rattle.row_map.specs.Ends.{first_entry_of}
use Rattle.row_map.specs.Ranges.{is_of_type, is_after}
use Rattle.path_db.specs.Wanted.{AllHave, is_past, is_wanted, pattern_at}
use Rattle.path_db.specs.Walk.{IsExact, IsWildcard, HasKeysOf, is_past_id, rows_at, rows_in, has_key}
use Rattle.row_map.specs.Saved.{is_key}
use Rattle.row_map.proofs.Exports.{AreSame, both_from, first_from, second_from, number_itself, its_key, found_is_under, is_key_itself, and_true, both_kept}
use Rattle.path_db.proofs.Walked.{walked, implied_kept, exact_entry, part_exact, key_there}
use Rattle.path_db.proofs.After.{walked_past}
use Rattle.path_db.proofs.Current.{rows_are, current_filtered}

-- ---- what holds for a row that a lookup asks for

module _ (wanted : Wanted) (row : RowView) (asked : is_wanted wanted row ≡ true) where
  abbrev start : ℕ
  start = isd_as_number wanted.start

  abbrev end : ℕ
  end = isd_as_number wanted.end

  shown : is_shown wanted.kind start end wanted.moment row ≡ true
  shown = first_from (is_shown wanted.kind start end wanted.moment row) (is_past wanted.kind wanted.after row) asked

  pub asked_past : is_past wanted.kind wanted.after row ≡ true
  asked_past = second_from (is_shown wanted.kind start end wanted.moment row) (is_past wanted.kind wanted.after row) asked

  matched : matches wanted.kind start end row ≡ true
  matched = first_from (matches wanted.kind start end row) (is_valid_beyond wanted.moment row) shown

  pub asked_typed : (type_number row.0 == type_number wanted.kind) ≡ true
  asked_typed = first_from (type_number row.0 == type_number wanted.kind) (covers_entry start (first_entry_of row.1.entries) && covers_entry end (last_of row.1.entries)) matched

  covered : (covers_entry start (first_entry_of row.1.entries) && covers_entry end (last_of row.1.entries)) ≡ true
  covered = second_from (type_number row.0 == type_number wanted.kind) (covers_entry start (first_entry_of row.1.entries) && covers_entry end (last_of row.1.entries)) matched

  pub asked_at : (e : End) → covers_entry (pattern_at e wanted) (entry_at_end e row.1.entries) ≡ true
  asked_at First = first_from (covers_entry start (first_entry_of row.1.entries)) (covers_entry end (last_of row.1.entries)) covered
  asked_at Last = second_from (covers_entry start (first_entry_of row.1.entries)) (covers_entry end (last_of row.1.entries)) covered

-- types with the same number are the same
same_type : (a b : SegType) → (type_number a == type_number b) ≡ true → a ≡ b
same_type Up Up e = refl
same_type Up Core e = absurd (false≢true e)
same_type Up Down e = absurd (false≢true e)
same_type Core Up e = absurd (false≢true e)
same_type Core Core e = refl
same_type Core Down e = absurd (false≢true e)
same_type Down Up e = absurd (false≢true e)
same_type Down Core e = absurd (false≢true e)
same_type Down Down e = refl

-- a row that a lookup asks for is that of the type and its segment
pub asked_row : (wanted : Wanted) (row : RowView) (segment : SegmentView) → is_wanted wanted row ≡ true → row.1 ≡ segment → (wanted.kind, segment) ≡ row
asked_row wanted row segment asked same =
    ap (λ s. (wanted.kind, s)) (sym same) ∙ ap (λ k. (k, row.1)) (sym (same_type row.0 wanted.kind (asked_typed wanted row asked)))

-- ---- the rows of the type

pub kept_typed : (wanted : Wanted) (rows : List RowView) → filter (is_wanted wanted) (filter (is_of_type wanted.kind) (filter (is_past wanted.kind wanted.after) rows)) ≡ filter (is_wanted wanted) rows
kept_typed wanted rows =
    implied_kept (is_wanted wanted) (is_of_type wanted.kind) (λ row asked. asked_typed wanted row asked) (filter (is_past wanted.kind wanted.after) rows)
    ∙ implied_kept (is_wanted wanted) (is_past wanted.kind wanted.after) (λ row asked. asked_past wanted row asked) rows

pub kept_again : (wanted : Wanted) (rows : List RowView) → filter (is_wanted wanted) (filter (is_wanted wanted) rows) ≡ filter (is_wanted wanted) rows
kept_again wanted rows = implied_kept (is_wanted wanted) (is_wanted wanted) (λ row asked. asked) rows

-- ---- the rows at the index keys of one number

module _ (by : By) (wanted : Wanted) (rows : List RowView) (index_keys walk : List IndexKey) (number : ℕ) (index : IsRowIndex (index_number by) rows index_keys) (all : AllHave by wanted number) where
  pub kept_along : IsRising rows → IsStrictlySortedBy index_key_cmp index_keys
      → walk ≡ filter (λ q. stands_at (type_number wanted.kind) number q && is_past_id wanted.after q) index_keys
      → filter (is_wanted wanted) (rows_in walk) ≡ filter (is_wanted wanted) rows
  kept_along rising sorted is =
      let is_there : RowView → Bool = λ row. (type_number row.0 == type_number wanted.kind) && is_of (index_number by row.1.entries) number in
      let there : rows_at rows walk ≡ filter (is_past wanted.kind wanted.after) (filter is_there rows) =
      ap (rows_at rows) is ∙ walked_past rows wanted.kind number wanted.after index_keys
      ∙ ap (filter (is_past wanted.kind wanted.after)) (walked (index_number by) rows index_keys (type_number wanted.kind) number index.keys rising sorted) in
      let current = subst (AllByRecursion (IsCurrent rows)) (sym is) (current_filtered rows (λ q. stands_at (type_number wanted.kind) number q && is_past_id wanted.after q) index_keys index.current) in
      ap (filter (is_wanted wanted)) (rows_are rows walk current ∙ there)
      ∙ implied_kept (is_wanted wanted) (is_past wanted.kind wanted.after) (λ row asked. asked_past wanted row asked) (filter is_there rows)
      ∙ implied_kept (is_wanted wanted) is_there (λ row asked. both_from (type_number row.0 == type_number wanted.kind) (is_of (index_number by row.1.entries) number) (asked_typed wanted row asked) (all.each row asked)) rows

-- the ISD-AS of a pattern for an end
pub one_end : (e : End) (wanted : Wanted) → IsExact (pattern_at e wanted) → AllHave (OneEnd e) wanted (pattern_at e wanted)
one_end e wanted exact = record {
  each = λ row asked. exact_entry (pattern_at e wanted) (entry_at_end e row.1.entries) exact (asked_at wanted row asked e);
  next = exact.next;
}

-- the ISD of a pattern that is not 0
isd_is : (pattern number : ℕ) → (pattern / 2 ^ 48 == 0) ≡ false → covers_number pattern number ≡ true → pattern / 2 ^ 48 ≡ number / 2 ^ 48
isd_is pattern number isd covers =
    part_exact (pattern / 2 ^ 48) (number / 2 ^ 48) (pattern / 2 ^ 48 == 0) refl isd (first_from (part_covers (pattern / 2 ^ 48) (number / 2 ^ 48)) (part_covers (pattern % 2 ^ 48) (number % 2 ^ 48)) covers)

isds_are : (a b : ℕ) (first last : Option EntryView) → (a / 2 ^ 48 == 0) ≡ false → (b / 2 ^ 48 == 0) ≡ false → covers_entry a first ≡ true → covers_entry b last ≡ true → is_of (isds_of first last) (isds_number a b) ≡ true
isds_are a b None last s e f g = absurd (false≢true f)
isds_are a b (Some x) None s e f g = absurd (false≢true g)
isds_are a b (Some x) (Some y) s e f g =
    ap (λ n. n * 2 ^ 16 + y.ia / 2 ^ 48 == isds_number a b) (sym (isd_is a x.ia s f))
    ∙ ap (λ n. a / 2 ^ 48 * 2 ^ 16 + n == isds_number a b) (sym (isd_is b y.ia e g))
    ∙ number_itself (isds_number a b)

-- the ISDs of both patterns
pub both_ends : (wanted : Wanted) → (isd_as_number wanted.start / 2 ^ 48 == 0) ≡ false → (isd_as_number wanted.end / 2 ^ 48 == 0) ≡ false → isds_number (isd_as_number wanted.start) (isd_as_number wanted.end) + 1 < 2 ^ 64
    → AllHave BothEnds wanted (isds_number (isd_as_number wanted.start) (isd_as_number wanted.end))
both_ends wanted s e next = record {
  each = λ row asked. isds_are (isd_as_number wanted.start) (isd_as_number wanted.end) (first_entry_of row.1.entries) (last_of row.1.entries) s e (asked_at wanted row asked First) (asked_at wanted row asked Last);
  next = next;
}

-- ---- the rows at the index keys of one ISD

at_least : (a b : ℕ) → a ≤ b → nat_le a b ≡ true
at_least a b fits = elim (leb_tells a b) [
  | inl so ↦ so.0
  | inr other ↦ absurd (omega (arith, other.1))
]

below : (a b : ℕ) → a < b → nat_lt a b ≡ true
below a b fits = elim (leb_tells (suc a) b) [
  | inl so ↦ so.0
  | inr other ↦ absurd (omega (arith, other.1))
]

part_of : (a b : Bool) → a ≡ false → (a || b) ≡ true → b ≡ true
part_of true b none e = absurd (false≢true (sym none))
part_of false b none e = e

-- the numbers that a wildcard covers
module _ (pattern number : ℕ) (wildcard : IsWildcard pattern) (covers : covers_number pattern number ≡ true) where
  one_isd : pattern / 2 ^ 48 ≡ number / 2 ^ 48
  one_isd = part_exact (pattern / 2 ^ 48) (number / 2 ^ 48) (pattern / 2 ^ 48 == 0) refl wildcard.isd (first_from (part_covers (pattern / 2 ^ 48) (number / 2 ^ 48)) (part_covers (pattern % 2 ^ 48) (number % 2 ^ 48)) covers)

  pub number_between : (nat_le pattern number && nat_lt number (pattern + 2 ^ 48)) ≡ true
  number_between =
      both_from (nat_le pattern number) (nat_lt number (pattern + 2 ^ 48)) (at_least pattern number (omega (arith, one_isd, wildcard.asn))) (below number (pattern + 2 ^ 48) (omega (arith, one_isd, wildcard.asn)))

module _ (e : End) (wanted : Wanted) (rows : List RowView) (index_keys walk : List IndexKey) (index : IsRowIndex (index_number (OneEnd e)) rows index_keys) (wildcard : IsWildcard (pattern_at e wanted)) where
  abbrev low : ℕ
  low = pattern_at e wanted

  abbrev is_between : IndexKey → Bool
  is_between = stands_between (type_number wanted.kind) low (low + 2 ^ 48)

  moved : (q x : IndexKey) → AreSame q x → is_between q ≡ true → is_between x ≡ true
  moved q x same at = rw (← same.kind, ← same.isd_as) at

  module _ (k : List ℕ) (row : RowView) (there : row_under k rows ≡ Some row) (asked : is_wanted wanted row ≡ true) where
    its_index_key : ℕ → IndexKey
    its_index_key number = record { kind = type_number row.0; isd_as = number; id = segment_digest row.1; row = Some row }

    at_entry : (o : Option EntryView) → entry_at_end e row.1.entries ≡ o → covers_entry low o ≡ true → has_key k (filter is_between index_keys) ≡ true
    unfolding key_of its_index_key
    at_entry None is covers = absurd (false≢true covers)
    at_entry (Some entry) is covers =
        let key_is_its : k ≡ key_of row = its_key k row (found_is_under k rows row there) in
        let found = subst (λ l. row_under l rows ≡ Some row) key_is_its there in
        let of : is_of (index_number (OneEnd e) row.1.entries) entry.ia ≡ true = ap (λ o. is_of (option_map (λ x. x.ia) o) entry.ia) is ∙ number_itself entry.ia in
        key_there k is_between moved (its_index_key entry.ia) index_keys (index.keys (its_index_key entry.ia) ∙ ap (ends_at (index_number (OneEnd e)) entry.ia) found ∙ of)
        (both_from (type_number row.0 == type_number wanted.kind) (nat_le low entry.ia && nat_lt entry.ia (low + 2 ^ 48)) (asked_typed wanted row asked) (number_between low entry.ia wildcard covers))
        (subst (λ l. is_key k l ≡ true) key_is_its (is_key_itself k))

  pub keys_between : walk ≡ filter is_between index_keys → HasKeysOf (is_wanted wanted) rows walk
  keys_between is =
      λ k row there asked. subst (λ l. has_key k l ≡ true) (sym is) (at_entry k row there asked (entry_at_end e row.1.entries) refl (asked_at wanted row asked e))

  pub current_between : walk ≡ filter is_between index_keys → AllByRecursion (IsCurrent rows) walk
  current_between is = subst (AllByRecursion (IsCurrent rows)) (sym is) (current_filtered rows is_between index_keys index.current)

-- ---- the answer, with no id and after an id

module _ (limit : ℕ) (rows : List RowView) (kind : SegType) (start end now : ℕ) where
  pub asked_first : take limit (filter (λ row. is_shown kind start end now row && true) rows) ≡ answer_of limit rows kind start end now
  unfolding answer_of
  asked_first = ap (take limit) (filter_agree (λ row. is_shown kind start end now row && true) (is_shown kind start end now) (λ row. and_true (is_shown kind start end now row)) rows)

  pub asked_after : (id : List ℕ) → take limit (filter (λ row. is_shown kind start end now row && is_after kind id row) rows) ≡ answer_above limit rows kind id start end now
  unfolding answer_of
  asked_after id = ap (take limit) (sym (both_kept (is_shown kind start end now) (is_after kind id) rows))
