use Rattle.std.proofs.Common.{rules, arith, ◌≡◌, false, true, Some, None, refl, sym, ap, ◌∙◌, subst}
use Rattle.std.specs.List.{AllByRecursion}
use Rattle.std.specs.Map.{lookup, set_value}
use Rattle.std.specs.Option.{option_map, is_some}
use Rattle.row_map.specs.declared.change.Change.TheVariants.{Kept, Updated}
use Rattle.std.specs.BTreeMap.{insert_entry, is_at}
use Rattle.row_map.specs.Database.{key_of, row_under, row_len, rows_len}
use Rattle.row_map.specs.Row.{row_view}
use Rattle.row_map.specs.RowMap.{views_of, len_if_any, IsRowMap, AreUnderTheirKeys}
use Rattle.row_map.specs.declared.end.By.TheVariants.{OneEnd}
use Rattle.row_map.specs.declared.end.End.TheVariants.{First}
use Rattle.row_map.specs.EndKeys.{index_number}
use Rattle.row_map.specs.Buckets.{IsBoundedBy}
use Rattle.row_map.specs.TypeCounts.{AreCounted}
use Rattle.row_map.specs.Saved.{wins}
use Rattle.row_map.proofs.Keyed.{key_cmp, rising_from, set_by, own_set, set_sum, placed_is_set, placed_same, found_at, none_at}
use Rattle.row_map.proofs.IndexKeys.{alike_none, alike_there}
use Rattle.row_map.proofs.Tallied.{replaced_counts}
use Rattle.row_map.proofs.PutRow.{kept_rows, kept_change, new_rows, updated_change}
use Rattle.row_map.proofs.Bucketed.{all_implied}
use Rattle.row_map.proofs.Purged.{all_set}
use Rattle.row_map.proofs.row_map.RowMap.renew.Goals as goal

pub returns-in_err-old-clause-absent : goal.returns-in_err-old-clause-absent
returns-in_err-old-clause-absent c =
    let es = c.self.inside.rows.entries in
    let row = row_view c.args.row in
    let none : lookup (is_at (key_cmp c.key_of_row-key.result)) es ≡ None = sym c.in_err-old.ensures.value in
    let gone : row_under (key_of row) (views_of es) ≡ None = none_at c.key_of_row-key.result c.args.row es c.key_of_row-key.ensures c.self.invariant.own none in
    rw (← c.self.view_is) (λ e alike. alike_none (index_number (OneEnd First)) row (row_under (key_of row) (views_of es)) gone (alike (OneEnd First)))

pub invariant_of-self-then-not-keeps_keys : goal.invariant_of-self-then-not-keeps_keys
invariant_of-self-then-not-keeps_keys c =
    let es = c.self.inside.rows.entries in
    let old = c.in_ok-old.old.now in
    let is : lookup (is_at (key_cmp c.key_of_row-key.result)) es ≡ Some old = sym c.in_ok-old.ensures.value in
    let same : (c.get_mut.follows.lender old).entries ≡ es = (c.get_mut.follows.holds old).0 ∙ placed_same c.key_of_row-key.result old es is in
    subst (λ l. IsRowMap l c.self.inside.counts c.self.inside.bounds) (sym same) c.self.invariant

pub returns-then-not-keeps_keys-clause-bytes : goal.returns-then-not-keeps_keys-clause-bytes
returns-then-not-keeps_keys-clause-bytes c =
    let es = c.self.inside.rows.entries in
    let old = c.in_ok-old.old.now in
    let is : lookup (is_at (key_cmp c.key_of_row-key.result)) es ≡ Some old = sym c.in_ok-old.ensures.value in
    let same : (c.get_mut.follows.lender old).entries ≡ es = (c.get_mut.follows.holds old).0 ∙ placed_same c.key_of_row-key.result old es is in
    c.requires ∙ ap rows_len (sym c.self.view_is) ∙ ap (λ l. rows_len (views_of l)) (sym same)

pub returns-then-not-keeps_keys-clause-none : goal.returns-then-not-keeps_keys-clause-none
returns-then-not-keeps_keys-clause-none c =
    let es = c.self.inside.rows.entries in
    let old = c.in_ok-old.old.now in
    let is : lookup (is_at (key_cmp c.key_of_row-key.result)) es ≡ Some old = sym c.in_ok-old.ensures.value in
    let same : (c.get_mut.follows.lender old).entries ≡ es = (c.get_mut.follows.holds old).0 ∙ placed_same c.key_of_row-key.result old es is in
    λ none. ap views_of same ∙ c.self.view_is

pub returns-then-not-keeps_keys-clause-absent : goal.returns-then-not-keeps_keys-clause-absent
returns-then-not-keeps_keys-clause-absent c =
    let es = c.self.inside.rows.entries in
    let row = row_view c.args.row in
    let old = c.in_ok-old.old.now in
    let is : lookup (is_at (key_cmp c.key_of_row-key.result)) es ≡ Some old = sym c.in_ok-old.ensures.value in
    let found : row_under (key_of row) (views_of es) ≡ Some (row_view old) = found_at c.key_of_row-key.result c.args.row old es c.key_of_row-key.ensures c.self.invariant.own is in
    rw (← c.self.view_is) (λ e alike. c.if-not-keeps_keys.ensures.no refl (λ by. alike_there (index_number by) row (row_view old) (row_under (key_of row) (views_of es)) found (alike by)))

pub invariant_of-self-then-timestamp : goal.invariant_of-self-then-timestamp
invariant_of-self-then-timestamp c =
    let es = c.self.inside.rows.entries in
    let old = c.in_ok-old.old.now in
    let is : lookup (is_at (key_cmp c.key_of_row-key.result)) es ≡ Some old = sym c.in_ok-old.ensures.value in
    let same : (c.get_mut.follows.lender old).entries ≡ es = (c.get_mut.follows.holds old).0 ∙ placed_same c.key_of_row-key.result old es is in
    subst (λ l. IsRowMap l c.self.inside.counts c.self.inside.bounds) (sym same) c.self.invariant

pub returns-then-timestamp-clause-rows : goal.returns-then-timestamp-clause-rows
returns-then-timestamp-clause-rows c =
    let es = c.self.inside.rows.entries in
    let old = c.in_ok-old.old.now in
    let is : lookup (is_at (key_cmp c.key_of_row-key.result)) es ≡ Some old = sym c.in_ok-old.ensures.value in
    let its = c.key_of_row-key.ensures in
    let found : row_under (key_of (row_view c.args.row)) (views_of es) ≡ Some (row_view old) = found_at c.key_of_row-key.result c.args.row old es its c.self.invariant.own is in
    let lost : wins (row_view c.args.row) (row_under (key_of (row_view c.args.row)) (views_of es)) ≡ false =
    ap (wins (row_view c.args.row)) found ∙ search (rules, c.if-timestamp.true, c.timestamp.ensures, c.timestamp-2.ensures) in
    let same : (c.get_mut.follows.lender old).entries ≡ es = (c.get_mut.follows.holds old).0 ∙ placed_same c.key_of_row-key.result old es is in
    λ x e. rw (← c.self.view_is) (ap views_of same ∙ kept_rows (views_of es) (row_view c.args.row) c.self.invariant.rising lost)

pub returns-then-timestamp-clause-change : goal.returns-then-timestamp-clause-change
returns-then-timestamp-clause-change c =
    let es = c.self.inside.rows.entries in
    let old = c.in_ok-old.old.now in
    let is : lookup (is_at (key_cmp c.key_of_row-key.result)) es ≡ Some old = sym c.in_ok-old.ensures.value in
    let its = c.key_of_row-key.ensures in
    let found : row_under (key_of (row_view c.args.row)) (views_of es) ≡ Some (row_view old) = found_at c.key_of_row-key.result c.args.row old es its c.self.invariant.own is in
    let lost : wins (row_view c.args.row) (row_under (key_of (row_view c.args.row)) (views_of es)) ≡ false =
    ap (wins (row_view c.args.row)) found ∙ search (rules, c.if-timestamp.true, c.timestamp.ensures, c.timestamp-2.ensures) in
    λ x e.
    let told : Kept ≡ x = cc in
    rw (← c.self.view_is) (sym told ∙ kept_change (views_of es) (row_view c.args.row) c.self.invariant.rising lost)

pub returns-then-timestamp-clause-alike : goal.returns-then-timestamp-clause-alike
returns-then-timestamp-clause-alike c =
    let es = c.self.inside.rows.entries in
    let old = c.in_ok-old.old.now in
    let is : lookup (is_at (key_cmp c.key_of_row-key.result)) es ≡ Some old = sym c.in_ok-old.ensures.value in
    let its = c.key_of_row-key.ensures in
    let found : row_under (key_of (row_view c.args.row)) (views_of es) ≡ Some (row_view old) = found_at c.key_of_row-key.result c.args.row old es its c.self.invariant.own is in
    λ x e by. rw (← c.self.view_is) (row_view old, found, c.if-not-keeps_keys.ensures.yes refl by)

pub returns-then-timestamp-clause-bytes : goal.returns-then-timestamp-clause-bytes
returns-then-timestamp-clause-bytes c =
    let es = c.self.inside.rows.entries in
    let old = c.in_ok-old.old.now in
    let is : lookup (is_at (key_cmp c.key_of_row-key.result)) es ≡ Some old = sym c.in_ok-old.ensures.value in
    let same : (c.get_mut.follows.lender old).entries ≡ es = (c.get_mut.follows.holds old).0 ∙ placed_same c.key_of_row-key.result old es is in
    c.requires ∙ ap rows_len (sym c.self.view_is) ∙ ap (λ l. rows_len (views_of l)) (sym same)

pub overflow_sub-bytes : goal.overflow_sub-bytes
overflow_sub-bytes c =
    let es = c.self.inside.rows.entries in
    let old = c.in_ok-old.old.now in
    let is : lookup (is_at (key_cmp c.key_of_row-key.result)) es ≡ Some old = sym c.in_ok-old.ensures.value in
    let size = set_sum row_len c.key_of_row-key.result c.args.row es c.in_ok-old.ensures.ordered in
    let there : len_if_any (option_map row_view (lookup (is_at (key_cmp c.key_of_row-key.result)) es)) ≡ row_len (row_view old) = ap (λ found. len_if_any (option_map row_view found)) is in
    let told : c.from-2.result ≡ row_len (row_view old) = search (rules, c.from-2.ensures, c.len-2.ensures.same, c.replace-old.ensures.value) in
    let counted : c.args.bytes.now ≡ rows_len (views_of es) = c.requires ∙ ap rows_len (sym c.self.view_is) in
    let more : c.from.result ≡ row_len (row_view c.args.row) = search (rules, c.from.ensures, c.len.ensures.same) in
    omega (arith, size, there, told, counted, more)

pub invariant_of-self-2 : goal.invariant_of-self-2
invariant_of-self-2 c =
    let es = c.self.inside.rows.entries in
    let old = c.in_ok-old.old.now in
    let is : lookup (is_at (key_cmp c.key_of_row-key.result)) es ≡ Some old = sym c.in_ok-old.ensures.value in
    let its = c.key_of_row-key.ensures in
    let put : (c.get_mut.follows.lender c.replace-old.new.dest).entries ≡ insert_entry key_cmp es c.key_of_row-key.result c.args.row =
    (c.get_mut.follows.holds c.replace-old.new.dest).0 ∙ ap (λ row. set_value (is_at (key_cmp c.key_of_row-key.result)) es row) c.replace-old.ensures.after
    ∙ placed_is_set c.key_of_row-key.result c.args.row old es c.in_ok-old.ensures.ordered is in
    let own = subst AreUnderTheirKeys (sym put) (own_set c.key_of_row-key.result c.args.row its es c.self.invariant.own) in
    record {
      own = own;
      rising = rising_from (c.get_mut.follows.lender c.replace-old.new.dest).entries (c.get_mut.follows.holds c.replace-old.new.dest).4 own;
      counted = subst (λ l. AreCounted c.self.inside.counts (views_of l)) (sym put)
          (replaced_counts c.key_of_row-key.result es c.self.invariant.own c.self.inside.counts c.self.invariant.counted c.args.row its c.in_ok-old.ensures.ordered (ap is_some is));
      bounded = subst (λ l. AllByRecursion (IsBoundedBy c.lower.new.self) (views_of l)) (sym put)
          (all_set (IsBoundedBy c.lower.new.self) c.key_of_row-key.result c.args.row es (c.lower.ensures.put (row_view c.args.row) its (omega (arith, c.expiry.ensures)))
          (all_implied (IsBoundedBy c.self.inside.bounds) (IsBoundedBy c.lower.new.self) (views_of es) c.lower.ensures.kept c.self.invariant.bounded));
    }

pub returns-clause-rows : goal.returns-clause-rows
returns-clause-rows c =
    let es = c.self.inside.rows.entries in
    let old = c.in_ok-old.old.now in
    let is : lookup (is_at (key_cmp c.key_of_row-key.result)) es ≡ Some old = sym c.in_ok-old.ensures.value in
    let its = c.key_of_row-key.ensures in
    let found : row_under (key_of (row_view c.args.row)) (views_of es) ≡ Some (row_view old) = found_at c.key_of_row-key.result c.args.row old es its c.self.invariant.own is in
    let won : wins (row_view c.args.row) (row_under (key_of (row_view c.args.row)) (views_of es)) ≡ true =
    ap (wins (row_view c.args.row)) found ∙ search (rules, c.if-timestamp.false, c.timestamp.ensures, c.timestamp-2.ensures) in
    let put : (c.get_mut.follows.lender c.replace-old.new.dest).entries ≡ insert_entry key_cmp es c.key_of_row-key.result c.args.row =
    (c.get_mut.follows.holds c.replace-old.new.dest).0 ∙ ap (λ row. set_value (is_at (key_cmp c.key_of_row-key.result)) es row) c.replace-old.ensures.after
    ∙ placed_is_set c.key_of_row-key.result c.args.row old es c.in_ok-old.ensures.ordered is in
    λ x e. rw (← c.self.view_is)
    (new_rows (views_of es) (views_of (c.get_mut.follows.lender c.replace-old.new.dest).entries) (row_view c.args.row) c.self.invariant.rising (invariant_of-self-2 c).rising won
    (λ k. ap (λ l. row_under k (views_of l)) put ∙ set_by k c.key_of_row-key.result c.args.row its es c.self.invariant.own))

pub returns-clause-change : goal.returns-clause-change
returns-clause-change c =
    let es = c.self.inside.rows.entries in
    let old = c.in_ok-old.old.now in
    let is : lookup (is_at (key_cmp c.key_of_row-key.result)) es ≡ Some old = sym c.in_ok-old.ensures.value in
    let its = c.key_of_row-key.ensures in
    let found : row_under (key_of (row_view c.args.row)) (views_of es) ≡ Some (row_view old) = found_at c.key_of_row-key.result c.args.row old es its c.self.invariant.own is in
    let won : wins (row_view c.args.row) (row_under (key_of (row_view c.args.row)) (views_of es)) ≡ true =
    ap (wins (row_view c.args.row)) found ∙ search (rules, c.if-timestamp.false, c.timestamp.ensures, c.timestamp-2.ensures) in
    λ x e.
    let told : Updated ≡ x = cc in
    rw (← c.self.view_is) (sym told ∙ updated_change (views_of es) (row_view c.args.row) (row_view old) c.self.invariant.rising won (sym found))

pub returns-clause-alike : goal.returns-clause-alike
returns-clause-alike c =
    let es = c.self.inside.rows.entries in
    let old = c.in_ok-old.old.now in
    let is : lookup (is_at (key_cmp c.key_of_row-key.result)) es ≡ Some old = sym c.in_ok-old.ensures.value in
    let its = c.key_of_row-key.ensures in
    let found : row_under (key_of (row_view c.args.row)) (views_of es) ≡ Some (row_view old) = found_at c.key_of_row-key.result c.args.row old es its c.self.invariant.own is in
    λ x e by. rw (← c.self.view_is) (row_view old, found, c.if-not-keeps_keys.ensures.yes refl by)

pub returns-clause-bytes : goal.returns-clause-bytes
returns-clause-bytes c =
    let es = c.self.inside.rows.entries in
    let old = c.in_ok-old.old.now in
    let is : lookup (is_at (key_cmp c.key_of_row-key.result)) es ≡ Some old = sym c.in_ok-old.ensures.value in
    let size = set_sum row_len c.key_of_row-key.result c.args.row es c.in_ok-old.ensures.ordered in
    let there : len_if_any (option_map row_view (lookup (is_at (key_cmp c.key_of_row-key.result)) es)) ≡ row_len (row_view old) = ap (λ found. len_if_any (option_map row_view found)) is in
    let told : c.from-2.result ≡ row_len (row_view old) = search (rules, c.from-2.ensures, c.len-2.ensures.same, c.replace-old.ensures.value) in
    let counted : c.args.bytes.now ≡ rows_len (views_of es) = c.requires ∙ ap rows_len (sym c.self.view_is) in
    let more : c.from.result ≡ row_len (row_view c.args.row) = search (rules, c.from.ensures, c.len.ensures.same) in
    let put : (c.get_mut.follows.lender c.replace-old.new.dest).entries ≡ insert_entry key_cmp es c.key_of_row-key.result c.args.row =
    (c.get_mut.follows.holds c.replace-old.new.dest).0 ∙ ap (λ row. set_value (is_at (key_cmp c.key_of_row-key.result)) es row) c.replace-old.ensures.after
    ∙ placed_is_set c.key_of_row-key.result c.args.row old es c.in_ok-old.ensures.ordered is in
    let after : rows_len (views_of (c.get_mut.follows.lender c.replace-old.new.dest).entries) ≡ rows_len (views_of (insert_entry key_cmp es c.key_of_row-key.result c.args.row)) = ap (λ l. rows_len (views_of l)) put in
    omega (arith, size, there, told, counted, more, after)
