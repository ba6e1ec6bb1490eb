-- The newest row of a list, by the list's members.
use Rattle.std.proofs.Common.{◌≡◌, ◌<◌, ◌≤◌, List, [], ◌∷◌, ◌++◌, Option, Some, None, MatchOption, refl, sym, ap, subst, arith, ⊎_elim}
use Rattle.std.specs.List.{AllByRecursion, Contains}
use Rattle.std.specs.Option.{option_to_list}
use Rattle.std.proofs.lemmas.List.Elements.{Contains-append_right, Contains-append_cases}
use Rattle.row_map.specs.Database.{RowView}
use Rattle.path_db.specs.CommandLaws.{IsNewest}
use Rattle.path_db.proofs.Members.{contains_head, contains_later, contains_none, at_member, head_or_later}

abbrev pub IsNewestOf : List RowView → Option RowView → Type 0
IsNewestOf rows found = MatchOption found (rows ≡ []) (λ row. IsNewest rows row)

module _ (rows : List RowView) (newest : RowView) (is : IsNewest rows newest) where
  -- the newest is a member
  pub newest_among : Contains rows newest
  newest_among =
      subst (λ list. Contains list newest) (sym is.split)
      (Contains-append_right is.before (newest ∷ is.after) newest (contains_head newest is.after))

  at_most_behind : (other : RowView) → Contains (newest ∷ is.after) other → other.1.timestamp ≤ newest.1.timestamp
  at_most_behind other found =
      head_or_later (other.1.timestamp ≤ newest.1.timestamp) newest other is.after found
      (λ same. omega (arith, ap (λ (row : RowView). row.1.timestamp) same))
      (λ later. at_member (λ row. row.1.timestamp ≤ newest.1.timestamp) is.after other is.no_newer later)

  at_most_before : (other : RowView) → Contains is.before other → other.1.timestamp ≤ newest.1.timestamp
  at_most_before other found = let less = at_member (λ row. row.1.timestamp < newest.1.timestamp) is.before other is.older found in omega (arith, less)

  -- no member is newer
  pub at_most : (other : RowView) → Contains rows other → other.1.timestamp ≤ newest.1.timestamp
  at_most other found =
      ⊎_elim (at_most_before other) (at_most_behind other)
      (Contains-append_cases is.before (newest ∷ is.after) other (subst (λ list. Contains list other) is.split found))

-- the first row is the newest, or is strictly older
first_parts : (P : Type 0) (first newest : RowView) (rows before after : List RowView) → first ∷ rows ≡ before ++ newest ∷ after
    → AllByRecursion (λ (row : RowView). row.1.timestamp < newest.1.timestamp) before → (first ≡ newest → P) → (first.1.timestamp < newest.1.timestamp → P) → P
first_parts P first newest rows [] after split older one two = one cc
first_parts P first newest rows (b ∷ before) after split older one two =
    let same : first ≡ b = cc in two (omega (arith, older.0, ap (λ (row : RowView). row.1.timestamp) same))

pub first_or_older : (P : Type 0) (first newest : RowView) (rows : List RowView) → IsNewest (first ∷ rows) newest → (first ≡ newest → P) → (first.1.timestamp < newest.1.timestamp → P) → P
first_or_older P first newest rows is one two = first_parts P first newest rows is.before is.after is.split is.older one two

-- a list with a member is not empty
not_empty : (rows : List RowView) (row : RowView) → rows ≡ [] → Contains rows row → ⊥
not_empty rows row none found = contains_none row (subst (λ list. Contains list row) none found)

-- ---- two lists with the same rows, after the same rows before

module _ (xs ys : List RowView) (there : (row : RowView) → Contains xs row → Contains ys row) (back : (row : RowView) → Contains ys row → Contains xs row)
    (apart : (row other : RowView) → Contains xs row → Contains xs other → row.1.timestamp ≡ other.1.timestamp → row ≡ other) where
  new_agree : (a b : RowView) → Contains xs a → Contains ys b → a.1.timestamp ≤ b.1.timestamp → b.1.timestamp ≤ a.1.timestamp → a ≡ b
  new_agree a b in_xs in_ys up down = apart a b in_xs (back b in_ys) (omega (arith, up, down))

  agree_behind : (old a b : RowView) → IsNewest (old ∷ xs) a → IsNewest (old ∷ ys) b → a ≡ b
  agree_behind old a b first second =
      let old_most_a = at_most (old ∷ xs) a first old (contains_head old xs) in
      let old_most_b = at_most (old ∷ ys) b second old (contains_head old ys) in
      first_or_older (a ≡ b) old a xs first
      (λ is_a. first_or_older (a ≡ b) old b ys second (λ is_b. cc)
      (λ below. head_or_later (a ≡ b) old b ys (newest_among (old ∷ ys) b second) (λ same. cc)
      (λ in_ys. let most = at_most (old ∷ xs) a first b (contains_later old b xs (back b in_ys)) in absurd (omega (arith, below, most, ap (λ (row : RowView). row.1.timestamp) is_a)))))
      (λ below_a. head_or_later (a ≡ b) old a xs (newest_among (old ∷ xs) a first) (λ same. absurd (omega (arith, below_a, ap (λ (row : RowView). row.1.timestamp) same)))
      (λ in_xs. let a_most_b = at_most (old ∷ ys) b second a (contains_later old a ys (there a in_xs)) in
      head_or_later (a ≡ b) old b ys (newest_among (old ∷ ys) b second) (λ same. absurd (omega (arith, below_a, a_most_b, ap (λ (row : RowView). row.1.timestamp) same)))
      (λ in_ys. new_agree a b in_xs in_ys a_most_b (at_most (old ∷ xs) a first b (contains_later old b xs (back b in_ys))))))

  pub agree : (old a b : Option RowView) → IsNewestOf (option_to_list old ++ xs) a → IsNewestOf (option_to_list old ++ ys) b → a ≡ b
  agree old None None first second = refl
  agree None None (Some b) first second = absurd (not_empty xs b first (back b (newest_among ys b second)))
  agree None (Some a) None first second = absurd (not_empty ys a second (there a (newest_among xs a first)))
  agree None (Some a) (Some b) first second =
      let in_xs = newest_among xs a first in
      let in_ys = newest_among ys b second in
      ap (λ (row : RowView). Some row) (new_agree a b in_xs in_ys (at_most ys b second a (there a in_xs)) (at_most xs a first b (back b in_ys)))
  agree (Some old) None (Some b) first second = absurd (not_empty (old ∷ xs) old first (contains_head old xs))
  agree (Some old) (Some a) None first second = absurd (not_empty (old ∷ ys) old second (contains_head old ys))
  agree (Some old) (Some a) (Some b) first second = ap (λ (row : RowView). Some row) (agree_behind old a b first second)

-- ---- rows that are in the list before stay

module _ (rows again : List RowView) (known : (row : RowView) → Contains again row → Contains rows row) where
  pub stays : (now after : Option RowView) → IsNewestOf rows now → IsNewestOf (option_to_list now ++ again) after → after ≡ now
  stays None None newest next = refl
  stays None (Some b) newest next = absurd (not_empty rows b newest (known b (newest_among again b next)))
  stays (Some a) None newest next = absurd (not_empty (a ∷ again) a next (contains_head a again))
  stays (Some a) (Some b) newest next =
      ap (λ (row : RowView). Some row)
      (first_or_older (b ≡ a) a b again next (λ same. sym same)
      (λ below. head_or_later (b ≡ a) a b again (newest_among (a ∷ again) b next) (λ same. sym same)
      (λ later. absurd (let most = at_most rows a newest b (known b later) in omega (arith, below, most)))))
