use Rattle.std.proofs.Common.{rules, ◌≡◌, List, map, OnOk, vec_len, sym, ap, ◌∙◌, subst, arith}
use Rattle.std.proofs.lemmas.Bool.{false≢true}
use Rattle.std.proofs.lemmas.Grind.{common_steps}
use Rattle.row_map.specs.declared.end.End.TheVariants.{First, Last}
use Rattle.row_map.specs.declared.end.By.TheVariants.{OneEnd, BothEnds}
use Rattle.row_map.specs.Put.{database_after_puts, changes_of}
use Rattle.path_db.specs.Outcome.{outcome_of_puts}
use Rattle.row_map.specs.Row.{row_views}
use Rattle.row_map.specs.Saved.{Stood, saved_view}
use Rattle.row_map.specs.EndKeys.{index_number, AreSeenTo, IsIndexGrown, HasAll}
use Rattle.path_db.proofs.Covered.{seen_from, covers_either, database_either}
use Rattle.row_map.proofs.Exports.{no_items}
use Rattle.path_db.proofs.Restored.{stood_under}
use Rattle.path_db.proofs.Steps.{nothing_after, none_counted}
use Rattle.path_db.proofs.database.PathDb.put.Goals as goal
use Rattle.path_db.proofs.database.PathDb.put.Goals.{then-first, else-first, then-last, else-last}

pub sweep-first-requires-clause-covered : goal.sweep-first-requires-clause-covered
sweep-first-requires-clause-covered c =
    let end = index_number (OneEnd First) in
    let rows = c.self.inside.rows in
    let new = row_views c.args.new.items in
    let touched = c.in_ok-firsts.firsts.items in
    let each : map saved_view c.in_ok-saved.saved.items ≡ map (stood_under rows) new = rw (← c.deref.ensures.value) c.in_ok-saved.ensures.each in
    let seen : AreSeenTo end touched new (map saved_view c.in_ok-saved.saved.items) =
    rw (← c.deref-2.ensures.value, ← c.deref-3.ensures.value) c.in_ok-firsts.ensures.seen in
    let grown : IsIndexGrown touched c.self.inside.by_first c.add_all-added.new.by_first = rw (← c.deref-8.ensures.value) c.add_all-added.ensures.first in
    let added : OnOk c.add_all-added.result (HasAll touched c.add_all-added.new.by_first) = rw (← c.deref-8.ensures.value) c.add_all-added.ensures.all_first in
    rw c.deref-11.ensures.value
    (covers_either end rows new c.put_after-put.new.rows touched c.self.inside.by_first c.add_all-added.new.by_first c.add_all-added.result c.put_after-put.result c.self.invariant.database.rising
    (seen_from end rows touched new (subst (λ (l : List Stood). AreSeenTo end touched new l) each seen))
    (c.self.invariant.first c.if-not-self.false) grown added c.put_after-put.ensures.added c.put_after-put.ensures.rows c.put_after-put.ensures.err)

pub sweep-last-requires-clause-covered : goal.sweep-last-requires-clause-covered
sweep-last-requires-clause-covered c =
    let end = index_number (OneEnd Last) in
    let rows = c.self.inside.rows in
    let new = row_views c.args.new.items in
    let touched = c.in_ok-lasts.lasts.items in
    let each : map saved_view c.in_ok-saved.saved.items ≡ map (stood_under rows) new = rw (← c.deref.ensures.value) c.in_ok-saved.ensures.each in
    let seen : AreSeenTo end touched new (map saved_view c.in_ok-saved.saved.items) =
    rw (← c.deref-4.ensures.value, ← c.deref-5.ensures.value) c.in_ok-lasts.ensures.seen in
    let grown : IsIndexGrown touched c.self.inside.by_last c.add_all-added.new.by_last = rw (← c.deref-9.ensures.value) c.add_all-added.ensures.last in
    let added : OnOk c.add_all-added.result (HasAll touched c.add_all-added.new.by_last) = rw (← c.deref-9.ensures.value) c.add_all-added.ensures.all_last in
    rw c.deref-12.ensures.value
    (covers_either end rows new c.put_after-put.new.rows touched c.self.inside.by_last c.add_all-added.new.by_last c.add_all-added.result c.put_after-put.result c.self.invariant.database.rising
    (seen_from end rows touched new (subst (λ (l : List Stood). AreSeenTo end touched new l) each seen))
    (c.self.invariant.last c.if-not-self.false) grown added c.put_after-put.ensures.added c.put_after-put.ensures.rows c.put_after-put.ensures.err)

pub sweep-isds-requires-clause-covered : goal.sweep-isds-requires-clause-covered
sweep-isds-requires-clause-covered c =
    let end = index_number BothEnds in
    let rows = c.self.inside.rows in
    let new = row_views c.args.new.items in
    let touched = c.in_ok-isds.isds.items in
    let each : map saved_view c.in_ok-saved.saved.items ≡ map (stood_under rows) new = rw (← c.deref.ensures.value) c.in_ok-saved.ensures.each in
    let seen : AreSeenTo end touched new (map saved_view c.in_ok-saved.saved.items) =
    rw (← c.deref-6.ensures.value, ← c.deref-7.ensures.value) c.in_ok-isds.ensures.seen in
    let grown : IsIndexGrown touched c.self.inside.by_isds c.add_all-added.new.by_isds = rw (← c.deref-10.ensures.value) c.add_all-added.ensures.isds in
    let added : OnOk c.add_all-added.result (HasAll touched c.add_all-added.new.by_isds) = rw (← c.deref-10.ensures.value) c.add_all-added.ensures.all_isds in
    rw c.deref-13.ensures.value
    (covers_either end rows new c.put_after-put.new.rows touched c.self.inside.by_isds c.add_all-added.new.by_isds c.add_all-added.result c.put_after-put.result c.self.invariant.database.rising
    (seen_from end rows touched new (subst (λ (l : List Stood). AreSeenTo end touched new l) each seen))
    (c.self.invariant.isds c.if-not-self.false) grown added c.put_after-put.ensures.added c.put_after-put.ensures.rows c.put_after-put.ensures.err)

-- without indexes
pub invariant_of-self : goal.invariant_of-self
invariant_of-self c = record {
  database = database_either c.self.inside.rows (row_views c.args.new.items) c.put_all.new.rows c.put_all.result c.self.invariant.database c.requires c.put_all.ensures.rows c.put_all.ensures.err;
  counted = c.put_all.ensures.bytes;
  first = λ e. absurd (false≢true (sym c.if-not-self.true ∙ e));
  last = λ e. absurd (false≢true (sym c.if-not-self.true ∙ e));
  isds = λ e. absurd (false≢true (sym c.if-not-self.true ∙ e));
}

pub returns-then-not-self-clause-whole : goal.returns-then-not-self-clause-whole
returns-then-not-self-clause-whole c = (invariant_of-self c).database

pub invariant_of-self-2 : goal.invariant_of-self-2
invariant_of-self-2 c = record {
  database = database_either c.self.inside.rows (row_views c.args.new.items) c.put_after-put.new.rows c.put_after-put.result c.self.invariant.database c.requires c.put_after-put.ensures.rows c.put_after-put.ensures.err;
  counted = c.put_after-put.ensures.bytes;
  first = λ e. c.sweep-first.ensures
      (elim c.if-last.branch [
        | then-last w ↦ elim c.if-first.branch [
          | then-first v ↦ first_of (search rules, grind (arith, common_steps))
          | else-first v ↦ first_of (search rules, grind (arith, common_steps))
        ]
        | else-last w ↦ first_of (search rules, grind (arith, common_steps))
      ]);
  last = λ e. c.sweep-last.ensures
      (elim c.if-last.branch [
        | then-last w ↦ elim c.if-first.branch [
          | then-first v ↦ first_of (search rules, grind (arith, common_steps))
          | else-first v ↦ first_of (search rules, grind (arith, common_steps))
        ]
        | else-last w ↦ first_of (search rules, grind (arith, common_steps))
      ]);
  isds = λ e. c.sweep-isds.ensures
      (elim c.if-last.branch [
        | then-last w ↦ elim c.if-first.branch [
          | then-first v ↦ first_of (search rules, grind (arith, common_steps))
          | else-first v ↦ first_of (search rules, grind (arith, common_steps))
        ]
        | else-last w ↦ first_of (search rules, grind (arith, common_steps))
      ]);
}

pub returns-clause-whole : goal.returns-clause-whole
returns-clause-whole c = (invariant_of-self-2 c).database

pub returns-then-is_empty-clause-database : goal.returns-then-is_empty-clause-database
returns-then-is_empty-clause-database c =
    let few : vec_len c.args.new ≡ 0 = search rules in
    let none = no_items c.args.new.items (omega (arith, few, c.args.new.ok.0)) in
    nothing_after c.args.self.now ∙ ap (λ l. database_after_puts c.args.self.now (row_views l)) (sym none)

pub returns-then-is_empty-clause-outcome : goal.returns-then-is_empty-clause-outcome
returns-then-is_empty-clause-outcome c =
    let few : vec_len c.args.new ≡ 0 = search rules in
    let none = no_items c.args.new.items (omega (arith, few, c.args.new.ok.0)) in
    c.nothing.ensures ∙ none_counted c.args.self.now ∙ ap (λ l. outcome_of_puts (changes_of c.args.self.now (row_views l))) (sym none)
