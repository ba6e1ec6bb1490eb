use Rattle.std.proofs.Common.{arith, sym, ap, ◌∙◌, subst}
use Rattle.std.specs.List.{AllByRecursion, count_by}
use Rattle.std.specs.Option.{option_map, is_some}
use Rattle.row_map.specs.Database.{row_under, row_len}
use Rattle.row_map.specs.Drops.{database_after_removal}
use Rattle.row_map.specs.Row.{row_view}
use Rattle.row_map.specs.Ranges.{is_of_type}
use Rattle.row_map.specs.Buckets.{IsBoundedBy}
use Rattle.row_map.specs.TypeCounts.{one_of}
use Rattle.row_map.specs.RowMap.{views_of, AreUnderTheirKeys}
use Rattle.row_map.proofs.Keyed.{rising_from, found_by, removed_by, own_removed, removed_sum}
use Rattle.row_map.proofs.Tallied.{removal_counts, removed_was_counted}
use Rattle.row_map.proofs.Purged.{all_removed}
use Rattle.row_map.proofs.row_map.RowMap.remove.Goals as goal

pub subtract-requires : goal.subtract-requires
subtract-requires c = λ removed.
    removed_was_counted c.row_key-key.result c.self.inside.rows.entries c.self.invariant.own c.self.inside.counts c.self.invariant.counted c.args.kind c.args.id.now c.row_key-key.ensures
    (sym (c.is_some.ensures ∙ ap is_some c.remove-old.ensures.value) ∙ removed)

pub invariant_of-self : goal.invariant_of-self
invariant_of-self c =
    let own = subst AreUnderTheirKeys (sym c.remove-old.ensures.entries) (own_removed _ c.self.inside.rows.entries c.self.invariant.own) in
    record {
      own = own;
      rising = rising_from c.remove-old.new.self.entries c.remove-old.ensures.ordered own;
      counted = λ other. omega (
        arith,
        removal_counts c.row_key-key.result c.self.inside.rows.entries c.self.invariant.own c.self.inside.counts c.self.invariant.counted c.args.kind c.args.id.now other c.row_key-key.ensures,
        c.subtract.ensures other,
        ap (λ b. one_of b c.args.kind other) (c.is_some.ensures ∙ ap is_some c.remove-old.ensures.value),
        ap (λ l. count_by (is_of_type other) (views_of l)) c.remove-old.ensures.entries,
      );
      bounded = subst (λ es. AllByRecursion (IsBoundedBy c.self.inside.bounds) (views_of es)) (sym c.remove-old.ensures.entries) (all_removed (IsBoundedBy c.self.inside.bounds) _ c.self.inside.rows.entries c.self.invariant.bounded);
    }

pub returns-clause-rising : goal.returns-clause-rising
returns-clause-rising c = (invariant_of-self c).rising

pub returns-clause-left : goal.returns-clause-left
returns-clause-left c =
    rw (← c.self.view_is)
    (ap views_of c.remove-old.ensures.entries ∙ removed_by c.row_key-key.result c.self.inside.rows.entries c.self.invariant.own c.self.invariant.rising
    ∙ ap (database_after_removal (views_of c.self.inside.rows.entries)) c.row_key-key.ensures)

pub returns-clause-old : goal.returns-clause-old
returns-clause-old c =
    rw (← c.self.view_is)
    (ap (option_map row_view) c.remove-old.ensures.value ∙ found_by c.row_key-key.result c.self.inside.rows.entries c.self.invariant.own
    ∙ ap (λ k. row_under k (views_of c.self.inside.rows.entries)) c.row_key-key.ensures)

pub returns-clause-bytes : goal.returns-clause-bytes
returns-clause-bytes c =
    let q = c.row_key-key.result in
    let es = c.self.inside.rows.entries in
    rw (← c.self.view_is, c.remove-old.ensures.entries, c.remove-old.ensures.value) (removed_sum row_len q es)
