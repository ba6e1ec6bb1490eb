use Rattle.std.proofs.Common.{rules, ◌≡◌, ◌+◌, ◌<◌, ◌^◌, not, length, None, Some, if◌then◌else◌, sym, ap, ◌∙◌, subst, arith}
use Rattle.std.specs.List.{AllByRecursion}
use Rattle.std.specs.Option.{option_map, is_some}
use Rattle.row_map.specs.Database.{key_of, is_under, row_under, row_len}
use Rattle.row_map.specs.Row.{row_view}
use Rattle.row_map.specs.Buckets.{IsBoundedBy}
use Rattle.row_map.specs.TypeCounts.{count_of, one_of, AreCounted}
use Rattle.row_map.specs.RowMap.{views_of, AreUnderTheirKeys}
use Rattle.row_map.proofs.Keyed.{rising_from, found_by, set_by, own_set, set_sum}
use Rattle.row_map.proofs.Tallied.{not_back, new_is_counted, added_counts}
use Rattle.row_map.proofs.Bucketed.{all_implied}
use Rattle.row_map.proofs.Purged.{all_set}
use Rattle.row_map.proofs.row_map.RowMap.set.Goals as goal

pub returns-in_err-old-clause-absent : goal.returns-in_err-old-clause-absent
returns-in_err-old-clause-absent c =
    let its = c.key_of_row-key.ensures in
    let absent : row_under (key_of (row_view c.args.row)) c.args.self.now ≡ None =
    rw (← c.self.view_is)
    (ap (λ k. row_under k (views_of c.self.inside.rows.entries)) (sym its) ∙ sym (found_by c.key_of_row-key.result c.self.inside.rows.entries c.self.invariant.own)
    ∙ ap (option_map row_view) c.in_err-old.ensures.absent) in
    search (rules, absent)

pub add-requires : goal.add-requires
add-requires c = λ new.
    let es = c.self.inside.rows.entries in
    let absent = sym (ap is_some c.in_ok-old.ensures.old) ∙ c.is_none-is_new.ensures ∙ ap not new in
    let few : length c.insert.new.self.entries < 2 ^ 63 = search (rules, c.len-count.ensures) in
    new_is_counted c.key_of_row-key.result es c.self.invariant.own c.self.inside.counts c.self.invariant.counted c.args.row c.key_of_row-key.ensures c.in_ok-old.ensures.was_ordered absent
    (subst (λ l. length l < 2 ^ 63) c.in_ok-old.ensures.entries few)

pub invariant_of-self-2 : goal.invariant_of-self-2
invariant_of-self-2 c =
    let its = c.key_of_row-key.ensures in
    let row = row_view c.args.row in
    let es = c.self.inside.rows.entries in
    let lowered = c.lower.new.self in
    let own = subst AreUnderTheirKeys (sym c.in_ok-old.ensures.entries) (own_set c.key_of_row-key.result c.args.row its es c.self.invariant.own) in
    let one : IsBoundedBy lowered row = c.lower.ensures.put row its (omega (arith, c.expiry-expires.ensures)) in
    let others = all_implied (IsBoundedBy c.self.inside.bounds) (IsBoundedBy lowered) (views_of es) c.lower.ensures.kept c.self.invariant.bounded in
    let all = subst (λ l. AllByRecursion (IsBoundedBy lowered) (views_of l)) (sym c.in_ok-old.ensures.entries) (all_set (IsBoundedBy lowered) c.key_of_row-key.result c.args.row es one others) in
    record {
      own = own;
      rising = rising_from c.insert.new.self.entries c.in_ok-old.ensures.ordered own;
      counted = subst (λ l. AreCounted c.add.new.self (views_of l)) (sym c.in_ok-old.ensures.entries)
          (added_counts c.key_of_row-key.result es c.self.invariant.own c.self.inside.counts c.self.invariant.counted c.args.row its c.in_ok-old.ensures.was_ordered c.add.new.self
          (λ other. c.add.ensures other ∙ ap (λ b. count_of c.self.inside.counts other + one_of b c.args.row.kind other) (not_back _ _ c.is_none-is_new.ensures ∙ ap (λ found. not (is_some found)) c.in_ok-old.ensures.old)));
      bounded = c.split_for.ensures all;
    }

pub returns-clause-rising : goal.returns-clause-rising
returns-clause-rising c = (invariant_of-self-2 c).rising

pub returns-clause-ok : goal.returns-clause-ok
returns-clause-ok c =
    let its = c.key_of_row-key.ensures in
    λ k. ap (λ es. row_under k (views_of es)) c.in_ok-old.ensures.entries ∙ set_by k c.key_of_row-key.result c.args.row its c.self.inside.rows.entries c.self.invariant.own
    ∙ ap (λ rows. if is_under k (row_view c.args.row) then Some (row_view c.args.row) else row_under k rows) c.self.view_is

pub returns-clause-old : goal.returns-clause-old
returns-clause-old c =
    let its = c.key_of_row-key.ensures in
    rw (← c.self.view_is)
    (ap (option_map row_view) c.in_ok-old.ensures.old ∙ found_by c.key_of_row-key.result c.self.inside.rows.entries c.self.invariant.own
    ∙ ap (λ k. row_under k (views_of c.self.inside.rows.entries)) its)

pub returns-clause-bytes : goal.returns-clause-bytes
returns-clause-bytes c =
    let q = c.key_of_row-key.result in
    let es = c.self.inside.rows.entries in
    rw (← c.self.view_is, c.in_ok-old.ensures.entries, c.in_ok-old.ensures.old) (set_sum row_len q c.args.row es c.in_ok-old.ensures.was_ordered)
