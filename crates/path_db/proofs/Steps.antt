-- One more put after other puts: for `put_all`.
use Rattle.std.proofs.Common.{◌≡◌, ℕ, Bool, true, false, if◌then◌else◌, ◌+◌, List, [], ◌∷◌, ◌++◌, refl, ap, arith}
use Rattle.std.specs.List.{count_by}
use Rattle.std.proofs.lemmas.List.Sums.{sum_by-append}
use Rattle.row_map.specs.declared.change.Change.{Change}
use Rattle.row_map.specs.declared.change.Change.TheVariants.{Inserted, Updated, Kept}
use Rattle.path_db.specs.declared.outcome.Outcome.{Outcome}
use Rattle.row_map.specs.Database.{RowView}
use Rattle.row_map.specs.Put.{database_after_put, database_after_puts, change_of, changes_of}
use Rattle.path_db.specs.Outcome.{outcome_of_puts, outcome_after, is_inserted, is_updated, is_kept, capped}

pub rows_after_more : (rows new : List RowView) (row : RowView) → database_after_puts rows (new ++ row ∷ []) ≡ database_after_put (database_after_puts rows new) row
unfolding database_after_puts
rows_after_more rows [] row = refl
rows_after_more rows (r ∷ new) row = rows_after_more (database_after_put rows r) new row

pub changes_more : (rows new : List RowView) (row : RowView) → changes_of rows (new ++ row ∷ []) ≡ changes_of rows new ++ change_of (database_after_puts rows new) row ∷ []
unfolding database_after_puts changes_of
changes_more rows [] row = refl
changes_more rows (r ∷ new) row = ap (λ l. change_of rows r ∷ l) (changes_more (database_after_put rows r) new row)

abbrev outcome_by : ℕ → ℕ → ℕ → Outcome
outcome_by a b c = record { inserted = a; updated = b; kept = c; purged = 0 }

count_yes : (p : Change → Bool) (changes : List Change) (change : Change) → p change ≡ true → count_by p (changes ++ change ∷ []) ≡ count_by p changes + 1
count_yes p changes change so =
    let more = sum_by-append (λ c. if p c then 1 else 0) changes (change ∷ []) in
    let one = rw so at more in
    omega (arith, one)

count_no : (p : Change → Bool) (changes : List Change) (change : Change) → p change ≡ false → count_by p (changes ++ change ∷ []) ≡ count_by p changes
count_no p changes change so =
    let more = sum_by-append (λ c. if p c then 1 else 0) changes (change ∷ []) in
    let none = rw so at more in
    omega (arith, none)

-- outcomes with the same counts are the same
outcomes_equal : (a b c d e f : ℕ) → a ≡ d → b ≡ e → c ≡ f → outcome_by a b c ≡ outcome_by d e f
outcomes_equal a b c d e f p q r = λ i. outcome_by (p i) (q i) (r i)

one_more : (n m : ℕ) → n ≡ m + 1 → capped n ≡ capped (capped m + 1)
one_more n m e = omega arith

pub outcome_more : (changes : List Change) (change : Change) → outcome_of_puts (changes ++ change ∷ []) ≡ outcome_after change (outcome_of_puts changes)
outcome_more changes Inserted = outcomes_equal _ _ _ _ _ _ (one_more _ _ (count_yes is_inserted changes Inserted refl)) (ap capped (count_no is_updated changes Inserted refl)) (ap capped (count_no is_kept changes Inserted refl))
outcome_more changes Updated = outcomes_equal _ _ _ _ _ _ (ap capped (count_no is_inserted changes Updated refl)) (one_more _ _ (count_yes is_updated changes Updated refl)) (ap capped (count_no is_kept changes Updated refl))
outcome_more changes Kept = outcomes_equal _ _ _ _ _ _ (ap capped (count_no is_inserted changes Kept refl)) (ap capped (count_no is_updated changes Kept refl)) (one_more _ _ (count_yes is_kept changes Kept refl))

pub one_counted : (rows : List RowView) (row : RowView) → outcome_of_puts (changes_of rows (row ∷ [])) ≡ outcome_after (change_of rows row) (outcome_of_puts [])
unfolding changes_of
one_counted rows row = outcome_more [] (change_of rows row)

pub one_put : (rows : List RowView) (row : RowView) → database_after_puts rows (row ∷ []) ≡ database_after_put rows row
unfolding database_after_puts
one_put rows row = refl

pub nothing_after : (rows : List RowView) → rows ≡ database_after_puts rows []
unfolding database_after_puts
nothing_after rows = refl

pub none_counted : (rows : List RowView) → outcome_of_puts [] ≡ outcome_of_puts (changes_of rows [])
unfolding changes_of
none_counted rows = refl
