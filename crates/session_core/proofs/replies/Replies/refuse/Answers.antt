use Rattle.session_core.specs.declared.reply.Form.TheVariants.{Frames}
use Rattle.session_core.specs.Reply.{Refused}
use Rattle.session_core.proofs.ToldLemmas.{tells_more, tells_part}
use Rattle.session_core.proofs.replies.Replies.refuse.Goals as goal

pub invariant_of-self : goal.invariant_of-self
invariant_of-self g c =
    let whole = rw c.refusal_frame.ensures at c.in-Ok.ensures.ok in
    rw c.refusal_told.ensures (tells_more _ _ _ _ Frames (Refused c.args.code.0) c.if-self.false c.self.invariant whole)

pub invariant_of-self-in-Err : goal.invariant_of-self-in-Err
invariant_of-self-in-Err g c =
    let failed = rw c.refusal_frame.ensures at c.in-Err.ensures.err in
    rw c.refusal_told-in-Err.ensures (tells_part _ _ _ _ Frames (Refused c.args.code.0) c.if-self.false c.self.invariant failed.part)
