use Rattle.std.proofs.Common.{◌≡◌, ◌+◌, ◌-◌, length, take, ap, ◌∙◌, arith}
use Rattle.std.proofs.lemmas.List.{length-take}
use Rattle.session_core.proofs.InboxLemmas.{same_front, moved}
use Rattle.session_core.proofs.inbox.make_room.Goals as goal
use Rattle.session_core.proofs.inbox.make_room.Goals.{then-len-size+in_ok-resize, else-len-size}

pub returns-clause-moved : goal.returns-clause-moved
returns-clause-moved c =
    let old = c.args.bytes.now.items in
    let grown = c.if-len-size.bytes.items in
    let same : take c.args.end grown ≡ take c.args.end old =
    elim c.if-len-size.branch [
      | then-len-size+in_ok-resize w ↦
          ap (λ (bytes : _). take c.args.end bytes.items) w.bytes-is
          ∙ same_front old w.resize.new.self.items _ (c.args.end - c.args.used + 65536) c.args.end c.requires.within (omega (arith, w.if-len-size.true, c.len.ensures)) w.in_ok-resize.ensures.items
      | else-len-size w ↦ ap (λ (bytes : _). take c.args.end bytes.items) w.bytes-is
    ] in
    moved old grown c.copy_within.new.self.items c.args.used c.args.end c.requires.order
    (omega (arith, ap length same, length-take c.args.end grown, length-take c.args.end old, c.requires.within)) same c.copy_within.ensures.items
