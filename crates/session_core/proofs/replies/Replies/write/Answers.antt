use Rattle.session_core.proofs.ToldLemmas.{tells_more, tells_part}
use Rattle.session_core.proofs.replies.Replies.write.Goals as goal

pub invariant_of-self : goal.invariant_of-self
invariant_of-self g c = rw c.one_more_told.ensures (tells_more _ _ _ _ _ _ c.if-self.false c.self.invariant c.in-Ok.ensures.ok)

pub invariant_of-self-in-Err-Write : goal.invariant_of-self-in-Err-Write
invariant_of-self-in-Err-Write g c =
    let part = rw c.in-Err-Write.field-0-is at c.in-Err-Write.ensures.err in
    rw c.one_more_told-in-Err-Write.ensures (tells_part _ _ _ _ _ _ c.if-self.false c.self.invariant part)
