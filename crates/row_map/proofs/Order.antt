-- The order of keys, and the row under a key in rising rows: for the puts and their laws.
use Rattle.std.proofs.Common.{◌≡◌, ℕ, zero, suc, ◌<◌, ◌≤◌, List, [], ◌∷◌, length, get_or, set, if◌then◌else◌, refl, ap, ◌∙◌, arith}
use Rattle.std.specs.List.{AllByRecursion, insert}
use Rattle.std.specs.Ordering.{ordering_reverse}
use Rattle.std.specs.Cmp.{IsTotalOrder}
use Rattle.std.specs.declared.cmp.Ordering.TheVariants.{Less, Equal, Greater}
use Rattle.std.proofs.lemmas.Cmp.{nat_list_cmp_total, on_total, alike_right}
use Rattle.std.proofs.lemmas.List.Elements.{All-from_recursion}
use Rattle.row_map.specs.declared.change.Change.TheVariants.{Inserted, Updated, Kept}
use Rattle.row_map.specs.Database.{RowView, key_of, key_order, IsRising}
use Rattle.row_map.specs.Put.{is_newer, put_before, database_after_put, change_before, change_of}

-- rows are totally ordered by their keys
pub row_order : IsTotalOrder key_order
row_order = on_total key_of nat_list_cmp_total

-- each of the rows is above this one
abbrev pub AllAbove : RowView → List RowView → Type 0
AllAbove row rows = AllByRecursion (λ later. key_order row later ≡ Less) rows

-- the order with its sides exchanged
pub turned_less : (a b : RowView) → key_order a b ≡ Less → key_order b a ≡ Greater
turned_less a b e = row_order.antisymm b a ∙ ap ordering_reverse e

pub turned_greater : (a b : RowView) → key_order a b ≡ Greater → key_order b a ≡ Less
turned_greater a b e = row_order.antisymm b a ∙ ap ordering_reverse e

-- a row below another is below all rows above the other
pub above_less : (a b : RowView) (rows : List RowView) → key_order a b ≡ Less → AllAbove b rows → AllAbove a rows
above_less a b [] e all = tt
above_less a b (r ∷ rows) e all = (row_order.trans a b r e all.0, above_less a b rows e all.1)

-- rows of one key are below the same rows
pub above_same : (a b : RowView) (rows : List RowView) → key_order a b ≡ Equal → AllAbove b rows → AllAbove a rows
above_same a b [] e all = tt
above_same a b (r ∷ rows) e all = (row_order.congr a b r e ∙ all.0, above_same a b rows e all.1)

-- a row below one of two rows with the same key is below the other
greater_before : (old row later : RowView) → key_order old later ≡ Less → key_order row later ≡ Equal → key_order row old ≡ Greater
greater_before old row later below same = turned_less old row (alike_right row_order row later old same ∙ below)

-- ---- a put at the index of its key

pub put_at : (rows : List RowView) → IsRising rows → (row : RowView) (at : ℕ) (d : RowView) → at < length rows → key_order row (get_or rows at d) ≡ Equal → database_after_put rows row ≡ set rows at (if is_newer row (get_or rows at d) then row else get_or rows at d)
unfolding database_after_put
put_at [] rising row at d lt same = absurd (omega arith)
put_at (old ∷ others) rising row zero d lt same = ap (λ o. put_before o row old others (database_after_put others row)) same
put_at (old ∷ others) rising row (suc i) d lt same =
    let below = All-from_recursion _ others rising.0 i d (omega arith) in
    ap (λ o. put_before o row old others (database_after_put others row)) (greater_before old row (get_or others i d) below same)
    ∙ ap (λ l. old ∷ l) (put_at others rising.1 row i d (omega arith) same)

pub change_at : (rows : List RowView) → IsRising rows → (row : RowView) (at : ℕ) (d : RowView) → at < length rows → key_order row (get_or rows at d) ≡ Equal → change_of rows row ≡ (if is_newer row (get_or rows at d) then Updated else Kept)
unfolding change_of
change_at [] rising row at d lt same = absurd (omega arith)
change_at (old ∷ others) rising row zero d lt same = ap (λ o. change_before o row old (change_of others row)) same
change_at (old ∷ others) rising row (suc i) d lt same =
    let below = All-from_recursion _ others rising.0 i d (omega arith) in
    ap (λ o. change_before o row old (change_of others row)) (greater_before old row (get_or others i d) below same)
    ∙ change_at others rising.1 row i d (omega arith) same

-- ---- a put in the gap for its key

-- the rows before the index are below the row, and the rows from the index on are above
pub record IsGapFor (rows : List RowView) (row : RowView) (at : ℕ) : Type 0 where
  pub in_range : at ≤ length rows
  pub before : (j : ℕ) (d : RowView) → j < at → key_order (get_or rows j d) row ≡ Less
  pub after : (j : ℕ) (d : RowView) → at ≤ j → j < length rows → key_order (get_or rows j d) row ≡ Greater

gap_tail : (old : RowView) (others : List RowView) (row : RowView) (i : ℕ) → IsGapFor (old ∷ others) row (suc i) → IsGapFor others row i
gap_tail old others row i gap = record {
  in_range = omega (arith, gap.in_range);
  before = λ j d lt. gap.before (suc j) d (omega arith);
  after = λ j d le lt. gap.after (suc j) d (omega arith) (omega arith);
}

pub put_in_gap : (rows : List RowView) (row : RowView) (at : ℕ) → IsGapFor rows row at → database_after_put rows row ≡ insert rows at row
unfolding database_after_put
put_in_gap [] row zero gap = refl
put_in_gap [] row (suc i) gap = absurd (omega (arith, gap.in_range))
put_in_gap (old ∷ others) row zero gap =
    ap (λ o. put_before o row old others (database_after_put others row)) (turned_greater old row (gap.after 0 old (omega arith) (omega arith)))
put_in_gap (old ∷ others) row (suc i) gap =
    ap (λ o. put_before o row old others (database_after_put others row)) (turned_less old row (gap.before 0 old (omega arith)))
    ∙ ap (λ l. old ∷ l) (put_in_gap others row i (gap_tail old others row i gap))

pub change_in_gap : (rows : List RowView) (row : RowView) (at : ℕ) → IsGapFor rows row at → change_of rows row ≡ Inserted
unfolding change_of
change_in_gap [] row at gap = refl
change_in_gap (old ∷ others) row zero gap =
    ap (λ o. change_before o row old (change_of others row)) (turned_greater old row (gap.after 0 old (omega arith) (omega arith)))
change_in_gap (old ∷ others) row (suc i) gap =
    ap (λ o. change_before o row old (change_of others row)) (turned_less old row (gap.before 0 old (omega arith)))
    ∙ change_in_gap others row i (gap_tail old others row i gap)
