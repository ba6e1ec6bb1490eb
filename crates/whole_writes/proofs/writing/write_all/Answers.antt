use Rattle.whole_writes.proofs.Fronts.{HasWritten-more}
use Rattle.whole_writes.proofs.writing.write_all.Goals as goal

pub loop-rest-preserved : goal.loop-rest-preserved
loop-rest-preserved g c =
    rw c.split_at.ensures.back (HasWritten-more _ _ _ _ _ c.in_ok-count.count c.loop-rest.invariant c.in_ok-count.ensures.ok)
