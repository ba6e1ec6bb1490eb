-- All is settled.
use Rattle.std.proofs.Common.{subst}
use Rattle.ckpt_stream.specs.declared.settling.Settled.{Settled}
use Rattle.ckpt_stream.specs.Settling.{SettlesOn}
use Rattle.ckpt_stream.proofs.half_read.settle_more.Goals as goal

pub returns-in-Done-clause-whole : goal.returns-in-Done-clause-whole
returns-in-Done-clause-whole c =
    let rows = c.args.settled.note.value in
    let commands = c.requires.whole.commands in
    record {
      commands = commands;
      plan = subst (λ (s : Settled). SettlesOn rows commands s) c.in-Done.is (c.in_ok-settling.ensures.settles rows commands c.requires.whole.settles);
      all = c.requires.whole.all;
    }
