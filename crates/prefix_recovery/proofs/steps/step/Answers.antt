use Rattle.std.proofs.Common.{◌∙◌}
use Rattle.prefix_recovery.proofs.Runs.{as_many_replies}
use Rattle.prefix_recovery.proofs.steps.step.Goals as goal

pub only_reply-reply-requires : goal.only_reply-reply-requires
only_reply-reply-requires g c = as_many_replies c.args.event.now c.in-Ok.done.1.items c.args.run c.in-Ok.done.0 c.in-Ok.ensures.runs ∙ c.requires.one
