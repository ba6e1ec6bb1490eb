use Rattle.std.proofs.Common.{sym, subst}
use Rattle.std.specs.List.{AllByRecursion}
use Rattle.seg_core.specs.Encoding.{IsSegment}
use Rattle.seg_lookup.proofs.Shown.{all_taken}
use Rattle.seg_lookup.proofs.pages.Page.of.Goals as goal

pub returns-clause-whole : goal.returns-clause-whole
returns-clause-whole c = λ whole. subst (AllByRecursion IsSegment) (sym c.truncate.ensures.items) (all_taken IsSegment 64 c.args.found.items whole)
