use Rattle.std.proofs.Common.{rules, ◌≡◌, subst}
use Rattle.isd_as.specs.IsdAs.{isd_as_number}
use Rattle.row_map.specs.declared.end.By.TheVariants.{OneEnd}
use Rattle.path_db.specs.Wanted.{AllHave, pattern_at}
use Rattle.path_db.specs.Walk.{IsExact}
use Rattle.path_db.proofs.Asked.{one_end}
use Rattle.path_db.proofs.answers.Wanted.isd_as_at.Goals as goal

pub returns-then-is_indexed : goal.returns-then-is_indexed
returns-then-is_indexed c =
    let there : IsExact (isd_as_number c.pattern-pattern.result) = search (rules, c.is_indexed.ensures, c.if-is_indexed.true) in
    let number : pattern_at c.args.end c.args.self.now ≡ c.to_u64.result = search (rules, c.to_u64.ensures, c.pattern-pattern.ensures) in
    subst (AllHave (OneEnd c.args.end) c.args.self.now) number (one_end c.args.end c.args.self.now (subst IsExact c.pattern-pattern.ensures there))
