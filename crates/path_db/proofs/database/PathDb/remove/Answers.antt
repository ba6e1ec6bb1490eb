use Rattle.std.proofs.Common.{rules, ◌≡◌, true, not, sym, ap, ◌∙◌, subst, arith}
use Rattle.std.proofs.lemmas.Grind.{common_steps}
use Rattle.row_map.specs.declared.end.End.TheVariants.{First, Last}
use Rattle.row_map.specs.declared.end.By.TheVariants.{OneEnd, BothEnds}
use Rattle.row_map.specs.Database.{key, is_under, rows_len, IsDatabase}
use Rattle.row_map.specs.EndKeys.{index_number}
use Rattle.row_map.specs.Row.{row_view}
use Rattle.row_map.proofs.Exports.{database_filtered}
use Rattle.path_db.proofs.Removed.{removed_index, kept_index, none_to_remove}
use Rattle.path_db.proofs.database.PathDb.remove.Goals as goal
use Rattle.path_db.proofs.database.PathDb.remove.Goals.{then-self, then-first, else-first, then-last, else-last, else-self}

pub invariant_of-self : goal.invariant_of-self
invariant_of-self c =
    let rows = c.self.inside.rows in
    let table = c.self.invariant in
    let same = c.in_default.ensures.left ∙ none_to_remove (key c.args.kind c.args.id.now) rows table.database.rising (sym c.in_default.ensures.old) in
    record {
      database = subst IsDatabase (sym same) table.database;
      counted = table.counted ∙ sym (ap rows_len same);
      first = λ e. kept_index (index_number (OneEnd First)) rows c.remove.new.self c.self.inside.by_first same (table.first e);
      last = λ e. kept_index (index_number (OneEnd Last)) rows c.remove.new.self c.self.inside.by_last same (table.last e);
      isds = λ e. kept_index (index_number BothEnds) rows c.remove.new.self c.self.inside.by_isds same (table.isds e);
    }

pub returns-in_default-clause-whole : goal.returns-in_default-clause-whole
returns-in_default-clause-whole c = (invariant_of-self c).database

pub invariant_of-self-2 : goal.invariant_of-self-2
invariant_of-self-2 c =
    let rows = c.self.inside.rows in
    let table = c.self.invariant in
    let l = key c.args.kind c.args.id.now in
    let row = row_view c.in-Some.row in
    let there = sym c.in-Some.ensures.old in
    let database = subst IsDatabase (sym c.in-Some.ensures.left) (database_filtered (λ r. not (is_under l r)) rows table.database) in
    elim c.if-self.branch [
      | then-self w ↦
          let had : c.self.inside.indexed ≡ true = search rules in
          rw w.self-inside-is (record {
            database = database;
            counted = omega (arith, c.in-Some.ensures.bytes, c.len.ensures.same, c.from.ensures, table.counted);
            first = λ e. removed_index (index_number (OneEnd First)) rows l row c.self.inside.by_first w.take_out-first.new.index c.remove.new.self table.database.rising there c.in-Some.ensures.left (table.first had)
                (w.take_out-first.ensures (elim w.if-last.branch [
                  | then-last v ↦ elim w.if-first.branch [
                    | then-first u ↦ first_of (search rules, grind (arith, common_steps))
                    | else-first u ↦ first_of (search rules, grind (arith, common_steps))
                  ]
                  | else-last v ↦ first_of (search rules, grind (arith, common_steps))
                ]));
            last = λ e. removed_index (index_number (OneEnd Last)) rows l row c.self.inside.by_last w.take_out-last.new.index c.remove.new.self table.database.rising there c.in-Some.ensures.left (table.last had)
                (w.take_out-last.ensures (elim w.if-last.branch [
                  | then-last v ↦ elim w.if-first.branch [
                    | then-first u ↦ first_of (search rules, grind (arith, common_steps))
                    | else-first u ↦ first_of (search rules, grind (arith, common_steps))
                  ]
                  | else-last v ↦ first_of (search rules, grind (arith, common_steps))
                ]));
            isds = λ e. removed_index (index_number BothEnds) rows l row c.self.inside.by_isds w.take_out-isds.new.index c.remove.new.self table.database.rising there c.in-Some.ensures.left (table.isds had)
                (w.take_out-isds.ensures (elim w.if-last.branch [
                  | then-last v ↦ elim w.if-first.branch [
                    | then-first u ↦ first_of (search rules, grind (arith, common_steps))
                    | else-first u ↦ first_of (search rules, grind (arith, common_steps))
                  ]
                  | else-last v ↦ first_of (search rules, grind (arith, common_steps))
                ]));
          })
      | else-self w ↦ rw w.self-inside-is (record {
        database = database;
        counted = omega (arith, c.in-Some.ensures.bytes, c.len.ensures.same, c.from.ensures, table.counted);
        first = λ e. first_of (search rules, grind (arith, common_steps));
        last = λ e. first_of (search rules, grind (arith, common_steps));
        isds = λ e. first_of (search rules, grind (arith, common_steps));
      })
    ]

pub returns-clause-whole : goal.returns-clause-whole
returns-clause-whole c = (invariant_of-self-2 c).database
