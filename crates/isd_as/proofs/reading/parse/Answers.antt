use Rattle.std.proofs.Common.{sym, subst, List, ℕ}
use Rattle.isd_as.specs.Text.{IsIsdAsText}
use Rattle.isd_as.proofs.Canonical.{canonical_says}
use Rattle.isd_as.proofs.Grammar.{reads_only, too_large_only}
use Rattle.isd_as.proofs.reading.parse.Goals as goal

pub returns-clause-only : goal.returns-clause-only
returns-clause-only c ia h = reads_only c.args.text.now c.read.result ia c.read.ensures h

pub returns-clause-canonical : goal.returns-clause-canonical
returns-clause-canonical c ia h e = reads_only c.args.text.now c.read.result ia c.read.ensures (subst (λ (bs : List ℕ). IsIsdAsText bs ia) (sym e) (canonical_says ia h))

pub returns-clause-too_large : goal.returns-clause-too_large
returns-clause-too_large c = too_large_only c.args.text.now c.read.result c.read.ensures
