-- The index keys after puts: for `register`.
use Rattle.std.proofs.Common.{◌≡◌, ◌⊎◌, inl, inr, ℕ, Bool, true, false, not, ◌&&◌, List, [], ◌∷◌, map, if◌then◌else◌, Option, Some, None, Result, Ok, Err, IsOk, OnOk, OnErr, refl, sym, ap, ◌∙◌, subst}
use Rattle.std.specs.List.{AllByRecursion}
use Rattle.std.proofs.lemmas.Bool.{false≢true}
use Rattle.row_map.specs.IndexKey.{IndexKey, has, is_same, AreKnown}
use Rattle.row_map.specs.Database.{RowView, key_of, IsRising, AreWhole, IsDatabase, is_under, row_under}
use Rattle.row_map.specs.declared.change.Change.TheVariants.{Updated, Kept}
use Rattle.row_map.specs.Put.{is_newer, database_after_put, database_after_puts, change_of}
use Rattle.row_map.specs.Saved.{wins}
use Rattle.row_map.specs.Left.{winner, left_by_put, left_by_puts}
use Rattle.row_map.specs.RowMap.{indexed_key}
use Rattle.row_map.specs.EndKeys.{is_of, is_index_key, ends_at, stands, row_of_key, IsSeenTo, AreSeenTo, IsAlike, IsRowOf, IsRowIndex, IsCurrent, IsCovered, IsIndexGrown, IsTouched, HasAll}
use Rattle.row_map.proofs.Exports.{its_key, puts_leave, found_is_under, is_key_itself, kept_rows, kept_change, updated_change, settled_new, database_puts, EndOf, same_if, same_from, one_index_key, both_from, first_from, second_from, either_from, or_first}
use Rattle.path_db.proofs.Current.{known_from, current_from}
use Rattle.path_db.proofs.Walked.{equal_number, all_there}
use Rattle.path_db.proofs.Steps.{one_put}
use Rattle.path_db.proofs.Restored.{stood_under}

-- the index keys of each new row, and of the row that was under its key, are touched
abbrev AreSeenIn : EndOf → List RowView → List IndexKey → List RowView → Type 0
AreSeenIn end old touched new = AllByRecursion (λ row. IsSeenTo end touched row (row_under (key_of row) old)) new

module _ (end : EndOf) (old : List RowView) (touched : List IndexKey) where
  -- a row is under this key, whose index keys are touched
  abbrev IsPut : List ℕ → Option RowView → Type 0
  IsPut k found = (new : RowView) × (found ≡ Some new) × IsSeenTo end touched new (row_under k old)

  put_first : (k : List ℕ) (row : RowView) (found : Option RowView) → IsSeenTo end touched row (row_under k old) → (Some (winner row found) ≡ found) ⊎ IsPut k (Some (winner row found))
  put_first k row None seen = inr (row, refl, seen)
  put_first k row (Some r) seen = won (is_newer row r)
    where
      won : (b : Bool) → (Some (if b then row else r) ≡ Some r) ⊎ IsPut k (Some (if b then row else r))
      won true = inr (row, refl, seen)
      won false = inl refl

  put_one : (k : List ℕ) (row : RowView) (found : Option RowView) (b : Bool) → is_under k row ≡ b → IsSeenTo end touched row (row_under (key_of row) old)
      → ((if b then Some (winner row found) else found) ≡ found) ⊎ IsPut k (if b then Some (winner row found) else found)
  put_one k row found true under seen = put_first k row found (subst (λ l. IsSeenTo end touched row (row_under l old)) (sym (its_key k row under)) seen)
  put_one k row found false under seen = inl refl

  from_puts : (k : List ℕ) (found : Option RowView) (new : List RowView) → AreSeenIn end old touched new → (left_by_puts k found new ≡ found) ⊎ IsPut k (left_by_puts k found new)
  from_puts k found [] all = inl refl
  from_puts k found (row ∷ new) all = elim (from_puts k (left_by_put k found row) new all.1) [
    | inr put ↦ inr put
    | inl same ↦ elim (put_one k row found (is_under k row) refl all.0) [
      | inl first ↦ inl (same ∙ first)
      | inr put ↦ inr (put.0, same ∙ put.1, put.2)
    ]
  ]

-- ---- an index key that has a row

pub stands_by : (end : EndOf) (number : ℕ) (found : Option RowView) → ends_at end number found ≡ true → (r : RowView) × (found ≡ Some r) × (is_of (end r.1.entries) number ≡ true)
stands_by end number None e = absurd (false≢true e)
stands_by end number (Some r) e = (r, refl, e)

-- a row that is found at an index key has this index key
pub has_index_key : (end : EndOf) (rows : List RowView) (q : IndexKey) (r : RowView) → row_under (indexed_key q) rows ≡ Some r → is_of (end r.1.entries) q.isd_as ≡ true → is_index_key end q r ≡ true
has_index_key end rows q r found of = both_from (is_under (indexed_key q) r) (is_of (end r.1.entries) q.isd_as) (found_is_under (indexed_key q) rows r found) of

-- ---- after puts

module _ (end : EndOf) (old new : List RowView) (rising : IsRising old) (touched before after : List IndexKey) (all : AreSeenIn end old touched new)
    (index : IsRowIndex end old before) (grown : IsIndexGrown touched before after) (added : HasAll touched after) where
  at_key : (q : IndexKey) → (row_under (indexed_key q) (database_after_puts old new) ≡ row_under (indexed_key q) old) ⊎ IsPut end old touched (indexed_key q) (row_under (indexed_key q) (database_after_puts old new))
  at_key q = subst (λ found. (found ≡ row_under (indexed_key q) old) ⊎ IsPut end old touched (indexed_key q) found) (sym (puts_leave (indexed_key q) old new rising)) (from_puts end old touched (indexed_key q) (row_under (indexed_key q) old) new all)

  covers_kept : (q : IndexKey) → stands end (database_after_puts old new) q ≡ true → has after q ≡ true
  covers_kept q so = elim (at_key q) [
    | inl same ↦ grown.kept q (index.keys q ∙ ap (ends_at end q.isd_as) (sym same) ∙ so)
    | inr put ↦ added q (put.2.0 q (has_index_key end (database_after_puts old new) q put.0 put.1 (subst (λ found. ends_at end q.isd_as found ≡ true) put.1 so)))
  ]

  -- the index keys of a row that a put replaced are touched
  replaced : (q : IndexKey) → has before q ≡ true → (new : RowView) → IsSeenTo end touched new (row_under (indexed_key q) old) → has touched q ≡ true
  replaced q there new seen =
      let by = stands_by end q.isd_as (row_under (indexed_key q) old) (sym (index.keys q) ∙ there) in
      seen.1 by.0 by.1 q (has_index_key end old q by.0 by.1 by.2)

  covers_within : (q : IndexKey) → has after q ≡ true → (stands end (database_after_puts old new) q ≡ true) ⊎ (has touched q ≡ true)
  covers_within q there = elim (grown.within q there) [
    | inr so ↦ inr so
    | inl first ↦ elim (at_key q) [
      | inl same ↦ inl (ap (ends_at end q.isd_as) same ∙ sym (index.keys q) ∙ first)
      | inr put ↦ inr (replaced q first put.0 put.2)
    ]
  ]

  known_one : (q : IndexKey) → has before q ≡ true → IsCurrent old q → (has touched q ≡ true) ⊎ (q.row ≡ row_of_key (database_after_puts old new) q)
  known_one q there is = elim (at_key q) [
    | inl same ↦ inr (is ∙ sym same)
    | inr put ↦ inl (replaced q there put.0 put.2)
  ]

  known_each : (xs : List IndexKey) → AllByRecursion (λ x. has before x ≡ true) xs → AllByRecursion (IsCurrent old) xs → AreKnown (has touched) (row_of_key (database_after_puts old new)) xs
  known_each [] there current = tt
  known_each (q ∷ xs) there current = (known_one q there.0 current.0, known_each xs there.1 current.1)

  pub covers_puts : IsCovered end (database_after_puts old new) touched after
  covers_puts = record {
    kept = covers_kept;
    within = covers_within;
    current = grown.rows (has touched) (row_of_key (database_after_puts old new)) (λ q e. e) (known_each before (all_there before) index.current);
  }

-- where no index key is touched, the index has exactly the rows
pub covered_index : (end : EndOf) (rows : List RowView) (index_keys : List IndexKey) → IsCovered end rows [] index_keys → IsRowIndex end rows index_keys
covered_index end rows index_keys covered = record {
  keys = λ q. both (has index_keys q) (stands end rows q) (covered.within q) (covered.kept q);
  current = current_from rows (λ q. false) (λ q. refl) index_keys covered.current;
}
  where
    both : (a b : Bool) → (a ≡ true → (b ≡ true) ⊎ (false ≡ true)) → (b ≡ true → a ≡ true) → a ≡ b
    both true b within kept = elim (within refl) [
      | inl e ↦ sym e
      | inr f ↦ absurd (false≢true f)
    ]
    both false true within kept = kept refl
    both false false within kept = refl

pub covers_same : (end : EndOf) (rows : List RowView) (touched before after : List IndexKey) → IsRowIndex end rows before → IsIndexGrown touched before after → IsCovered end rows touched after
covers_same end rows touched before after index grown = record {
  kept = λ q so. grown.kept q (index.keys q ∙ so);
  within = λ q there. within_same q (grown.within q there);
  current = grown.rows (has touched) (row_of_key rows) (λ q e. e) (known_from rows (has touched) before index.current);
}
  where
    within_same : (q : IndexKey) → (has before q ≡ true) ⊎ (has touched q ≡ true) → (stands end rows q ≡ true) ⊎ (has touched q ≡ true)
    within_same q (inl first) = inl (sym (index.keys q) ∙ first)
    within_same q (inr so) = inr so

-- ---- a row that replaces one with the same index key

module _ (end : EndOf) (old : List RowView) (row : RowView) (q : IndexKey) (its : IsRowOf end q row) (index_keys : List IndexKey) (index : IsRowIndex end old index_keys) (alike : IsAlike end row (row_under (key_of row) old)) where
  -- an index key of the new row or of the old one is the index key
  one_alone : (r : RowView) → is_index_key end q r ≡ true → IsTouched end (q ∷ []) r
  one_alone r ours x e = or_first (is_same x q) false (same_if x q (one_index_key end x q r e ours))

  same_entry : (o : Option ℕ) (m n : ℕ) → is_of o m ≡ true → is_of o n ≡ true → m ≡ n
  same_entry None m n e f = absurd (false≢true e)
  same_entry (Some x) m n e f = sym (equal_number x m e) ∙ equal_number x n f

  key_is : indexed_key q ≡ key_of row
  key_is = its_key (indexed_key q) row (first_from (is_under (indexed_key q) row) (is_of (end row.1.entries) q.isd_as) its.0)

  stood_here : (r : RowView) → row_under (key_of row) old ≡ Some r → row_under (indexed_key q) old ≡ Some r
  stood_here r stood = ap (λ k. row_under k old) key_is ∙ stood

  old_number : is_of (end alike.0.1.entries) q.isd_as ≡ true
  old_number =
      subst (λ n. is_of (end alike.0.1.entries) n ≡ true) (same_entry (end row.1.entries) alike.2.0 q.isd_as alike.2.1 (second_from (is_under (indexed_key q) row) (is_of (end row.1.entries) q.isd_as) its.0)) alike.2.2

  old_its : is_index_key end q alike.0 ≡ true
  old_its = has_index_key end old q alike.0 (stood_here alike.0 alike.1) old_number

  old_seen : (r : RowView) → row_under (key_of row) old ≡ Some r → IsTouched end (q ∷ []) r
  old_seen r stood = one_alone r (let same : alike.0 ≡ r = some_same alike.0 r (sym alike.1 ∙ stood) in subst (λ x. is_index_key end q x ≡ true) same old_its)
    where
      some_same : (a b : RowView) → Some a ≡ Some b → a ≡ b
      some_same a b e = cc

  among : (x : IndexKey) → has (q ∷ []) x ≡ true → has index_keys x ≡ true
  among x e = elim (either_from (is_same x q) false e) [
    | inl so ↦
        let same = same_from x q so in
        let here : stands end old q ≡ true = ap (ends_at end q.isd_as) (stood_here alike.0 alike.1) ∙ old_number in
        index.keys x ∙ rw (same.kind, same.isd_as, same.id) here
    | inr never ↦ absurd (false≢true never)
  ]

  pub covers_renewed : IsRising old → IsCovered end (database_after_puts old (row ∷ [])) (q ∷ []) index_keys
  covers_renewed rising =
      covers_puts end old (row ∷ []) rising (q ∷ []) index_keys index_keys ((one_alone row its.0, old_seen), tt) index
      (record { kept = λ x e. e; within = λ x e. inl e; rows = λ known row_at all are. are }) among

pub index_renewed : (end : EndOf) (old now : List RowView) (row : RowView) (q : IndexKey) (before after : List IndexKey) → IsRising old → now ≡ database_after_put old row → IsAlike end row (row_under (key_of row) old) → IsRowOf end q row → IsRowIndex end old before
    → ((rest : List IndexKey) → IsCovered end now (q ∷ rest) before → IsCovered end now rest after) → IsRowIndex end now after
index_renewed end old now row q before after rising put alike its index settles =
    covered_index end now after (settles [] (subst (λ l. IsCovered end l (q ∷ []) before) (one_put old row ∙ sym put) (covers_renewed end old row q its before index alike rising)))

-- ---- the index after a row was renewed, or kept

module _ (end : EndOf) (old : List RowView) (row : RowView) (before : List IndexKey) (rising : IsRising old) (index : IsRowIndex end old before) (alike : IsAlike end row (row_under (key_of row) old)) (now : List RowView) (put : now ≡ database_after_put old row) where
  -- the new row is put where it is newer
  wins_if : wins row (row_under (key_of row) old) ≡ is_newer row alike.0
  wins_if = ap (wins row) alike.1

  pub index_left : (Updated ≡ change_of old row → ⊥) → IsRowIndex end now before
  index_left other = by (is_newer row alike.0) refl
    where
      by : (b : Bool) → is_newer row alike.0 ≡ b → IsRowIndex end now before
      by true e = absurd (other (updated_change old row alike.0 rising (wins_if ∙ e) (sym alike.1)))
      by false e = subst (λ l. IsRowIndex end l before) (kept_rows old row rising (wins_if ∙ e) ∙ sym put) index

  module _ (q : IndexKey) (its : IsRowOf end q row) (change : Updated ≡ change_of old row) where
    newer : is_newer row alike.0 ≡ true
    newer = by (is_newer row alike.0) refl
      where
        by : (b : Bool) → is_newer row alike.0 ≡ b → b ≡ true
        by true e = refl
        by false e = let kept : Kept ≡ Updated = kept_change old row rising (wins_if ∙ e) ∙ sym change in absurd cc

    under_first_part : is_under (indexed_key q) row ≡ true
    under_first_part = first_from (is_under (indexed_key q) row) (is_of (end row.1.entries) q.isd_as) its.0

    leaves : left_by_puts (key_of row) (row_under (key_of row) old) (row ∷ []) ≡ Some row
    leaves =
        ap (λ b. if b then Some (winner row (row_under (key_of row) old)) else row_under (key_of row) old) (is_key_itself (key_of row))
        ∙ ap (λ found. Some (winner row found)) alike.1
        ∙ ap (λ b. Some (if b then row else alike.0)) newer

    found : row_under (indexed_key q) now ≡ Some row
    found =
        ap (λ k. row_under k now) (its_key (indexed_key q) row under_first_part)
        ∙ ap (row_under (key_of row)) (put ∙ sym (one_put old row))
        ∙ puts_leave (key_of row) old (row ∷ []) rising
        ∙ leaves

    standing : stands end now q ≡ true
    standing = ap (ends_at end q.isd_as) found ∙ second_from (is_under (indexed_key q) row) (is_of (end row.1.entries) q.isd_as) its.0

    pub index_replaced : (after : List IndexKey) → (has before q ≡ true → (x : IndexKey) → has after x ≡ has before x)
        → (has before q ≡ true → (known : IndexKey → Bool) (row_at : IndexKey → Option RowView) → AreKnown known row_at before → q.row ≡ row_at q → AreKnown (λ x. known x && not (is_same x q)) row_at after) → IsRowIndex end now after
    index_replaced after kept known =
        index_renewed end old now row q before after rising put alike its index (λ rest all. settled_new end now before rest q all q row found standing its after kept known)

-- ---- whether the puts were refused or not

pub seen_from : (end : EndOf) (rows : List RowView) (index_keys : List IndexKey) (new : List RowView) → AreSeenTo end index_keys new (map (stood_under rows) new) → AreSeenIn end rows index_keys new
seen_from end rows index_keys [] all = tt
seen_from end rows index_keys (row ∷ new) all = (all.0, seen_from end rows index_keys new all.1)

module _ {A B E F : Type 0} where
  pub covers_either : (end : EndOf) (old new now : List RowView) (touched before after : List IndexKey) (added : Result A E) (r : Result B F) → IsRising old → AreSeenIn end old touched new
      → IsRowIndex end old before → IsIndexGrown touched before after → OnOk added (HasAll touched after) → OnOk r (IsOk added) → OnOk r (now ≡ database_after_puts old new) → OnErr r (now ≡ old) → IsCovered end now touched after
  covers_either end old new now touched before after (Ok x) (Ok y) rising all index grown added ok put same =
      subst (λ l. IsCovered end l touched after) (sym put) (covers_puts end old new rising touched before after all index grown added)
  covers_either end old new now touched before after (Err e) (Ok y) rising all index grown added ok put same = absurd (false≢true ok)
  covers_either end old new now touched before after added (Err f) rising all index grown done ok put same =
      subst (λ l. IsCovered end l touched after) (sym same) (covers_same end old touched before after index grown)

pub database_either : {B F : Type 0} (old new now : List RowView) (r : Result B F) → IsDatabase old → AreWhole new → OnOk r (now ≡ database_after_puts old new) → OnErr r (now ≡ old) → IsDatabase now
database_either old new now (Ok y) all whole put same = subst IsDatabase (sym put) (database_puts old new all whole)
database_either old new now (Err f) all whole put same = subst IsDatabase (sym same) all
