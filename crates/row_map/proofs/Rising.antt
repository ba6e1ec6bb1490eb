-- Commands keep the keys rising and the segments whole: for `put_all`, the calls of `PathDb` and
-- the laws.
use Rattle.std.proofs.Common.{◌≡◌, Bool, true, false, cond, List, [], ◌∷◌, if◌then◌else◌, refl}
use Rattle.std.specs.List.{filter}
use Rattle.std.specs.declared.cmp.Ordering.{Ordering}
use Rattle.std.specs.declared.cmp.Ordering.TheVariants.{Less, Equal, Greater}
use Rattle.seg_core.specs.Encoding.{IsSegment}
use Rattle.row_map.specs.Database.{RowView, key_order, IsRising, AreWhole, IsDatabase}
use Rattle.row_map.specs.Put.{is_newer, put_before, database_after_put, database_after_puts}
use Rattle.row_map.proofs.Order.{AllAbove, turned_greater, above_less, above_same}

-- ---- the order

either_above : (low row old : RowView) (newer : Bool) → key_order low row ≡ Less → key_order low old ≡ Less → key_order low (if newer then row else old) ≡ Less
either_above low row old true a b = a
either_above low row old false a b = b

above_before : (o : Ordering) (low row old : RowView) (others later : List RowView) → key_order low row ≡ Less → AllAbove low (old ∷ others) → AllAbove low later → AllAbove low (put_before o row old others later)
above_before Less low row old others later below all more = (below, all)
above_before Equal low row old others later below all more = (either_above low row old (is_newer row old) below all.0, all.1)
above_before Greater low row old others later below all more = (all.0, more)

above_put : (low : RowView) (rows : List RowView) (row : RowView) → key_order low row ≡ Less → AllAbove low rows → AllAbove low (database_after_put rows row)
unfolding database_after_put
above_put low [] row below all = (below, tt)
above_put low (old ∷ others) row below all =
    above_before (key_order row old) low row old others (database_after_put others row) below all (above_put low others row below all.1)

either_rising : (row old : RowView) (others : List RowView) (newer : Bool) → key_order row old ≡ Equal → IsRising (old ∷ others) → IsRising ((if newer then row else old) ∷ others)
either_rising row old others true same rising = (above_same row old others same rising.0, rising.1)
either_rising row old others false same rising = rising

rising_before : (o : Ordering) (row old : RowView) (others : List RowView) → key_order row old ≡ o → IsRising (old ∷ others) → IsRising (database_after_put others row) → IsRising (put_before o row old others (database_after_put others row))
rising_before Less row old others e rising later = ((e, above_less row old others e rising.0), rising)
rising_before Equal row old others e rising later = either_rising row old others (is_newer row old) e rising
rising_before Greater row old others e rising later = (above_put old others row (turned_greater row old e) rising.0, later)

pub rising_put : (rows : List RowView) (row : RowView) → IsRising rows → IsRising (database_after_put rows row)
unfolding database_after_put
rising_put [] row rising = (tt, tt)
rising_put (old ∷ others) row rising = rising_before (key_order row old) row old others refl rising (rising_put others row rising.1)

pub rising_puts : (rows new : List RowView) → IsRising rows → IsRising (database_after_puts rows new)
unfolding database_after_puts
rising_puts rows [] rising = rising
rising_puts rows (row ∷ new) rising = rising_puts (database_after_put rows row) new (rising_put rows row rising)

-- ---- whole segments

either_whole : (row old : RowView) (newer : Bool) → IsSegment row.1 → IsSegment old.1 → IsSegment ((if newer then row else old).1)
either_whole row old true a b = a
either_whole row old false a b = b

whole_before : (o : Ordering) (row old : RowView) (others later : List RowView) → IsSegment row.1 → AreWhole (old ∷ others) → AreWhole later → AreWhole (put_before o row old others later)
whole_before Less row old others later one all more = (one, all)
whole_before Equal row old others later one all more = (either_whole row old (is_newer row old) one all.0, all.1)
whole_before Greater row old others later one all more = (all.0, more)

pub whole_put : (rows : List RowView) (row : RowView) → AreWhole rows → IsSegment row.1 → AreWhole (database_after_put rows row)
unfolding database_after_put
whole_put [] row all one = (one, tt)
whole_put (old ∷ others) row all one =
    whole_before (key_order row old) row old others (database_after_put others row) one all (whole_put others row all.1 one)

pub whole_puts : (rows new : List RowView) → AreWhole rows → AreWhole new → AreWhole (database_after_puts rows new)
unfolding database_after_puts
whole_puts rows [] all more = all
whole_puts rows (row ∷ new) all more = whole_puts (database_after_put rows row) new (whole_put rows row all more.0) more.1

-- ---- fewer rows

above_tested : (low row : RowView) (rows : List RowView) (b : Bool) → key_order low row ≡ Less → AllAbove low rows → AllAbove low (cond b (row ∷ rows) rows)
above_tested low row rows true below above = (below, above)
above_tested low row rows false below above = above

pub above_filtered : (p : RowView → Bool) (low : RowView) (rows : List RowView) → AllAbove low rows → AllAbove low (filter p rows)
above_filtered p low [] above = tt
above_filtered p low (row ∷ rows) above = above_tested low row (filter p rows) (p row) above.0 (above_filtered p low rows above.1)

rising_tested : (row : RowView) (rows : List RowView) (b : Bool) → AllAbove row rows → IsRising rows → IsRising (cond b (row ∷ rows) rows)
rising_tested row rows true above rising = (above, rising)
rising_tested row rows false above rising = rising

pub rising_filtered : (p : RowView → Bool) (rows : List RowView) → IsRising rows → IsRising (filter p rows)
rising_filtered p [] rising = tt
rising_filtered p (row ∷ rows) rising =
    rising_tested row (filter p rows) (p row) (above_filtered p row rows rising.0) (rising_filtered p rows rising.1)

whole_tested : (row : RowView) (rows : List RowView) (b : Bool) → IsSegment row.1 → AreWhole rows → AreWhole (cond b (row ∷ rows) rows)
whole_tested row rows true one whole = (one, whole)
whole_tested row rows false one whole = whole

pub whole_filtered : (p : RowView → Bool) (rows : List RowView) → AreWhole rows → AreWhole (filter p rows)
whole_filtered p [] whole = tt
whole_filtered p (row ∷ rows) whole = whole_tested row (filter p rows) (p row) whole.0 (whole_filtered p rows whole.1)

pub database_filtered : (p : RowView → Bool) (rows : List RowView) → IsDatabase rows → IsDatabase (filter p rows)
database_filtered p rows all = record { rising = rising_filtered p rows all.rising; whole = whole_filtered p rows all.whole }

pub database_puts : (rows new : List RowView) → IsDatabase rows → AreWhole new → IsDatabase (database_after_puts rows new)
database_puts rows new all more = record { rising = rising_puts rows new all.rising; whole = whole_puts rows new all.whole more }
