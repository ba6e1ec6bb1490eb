-- The bytes that came are the frame of the reply.
use Rattle.cli_ask.proofs.Talk.{came-reply}
use Rattle.cli_ask.proofs.answers.next_reply.Goals as goal

pub returns : goal.returns
returns g c =
    let talk = g.L.Link.talk in
    came-reply (talk c.args.link.now) (talk c.head_of.new.link) (talk c.content_of.new.link) c.in_ok-head.head c.in_ok-content.content.items c.length_in-len.result c.read_reply.result
    c.length_in-len.ensures c.in_ok-content.ensures.len (rw c.begin.ensures at c.in_ok-head.ensures) c.in_ok-content.ensures.came (rw c.as_slice.ensures.value at c.read_reply.ensures)
