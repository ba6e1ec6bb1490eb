use Rattle.ckpt_stream.proofs.LeftRows.{row_is}
use Rattle.ckpt_stream.proofs.settling.row_at.Goals as goal

pub returns-in_ok-try_clone-in-Some : goal.returns-in_ok-try_clone-in-Some
returns-in_ok-try_clone-in-Some c =
    row_is c.args.key.now.kind c.args.key.now.id c.args.db.now c.in-Some.segment.now _ _ c.in-Some.ensures.same c.in_ok-try_clone-in-Some.ensures.same c.new.ensures
