-- A message takes at least a byte of those that are there.
use Rattle.std.proofs.Common.{arith}
use Rattle.cli_ask.proofs.reply.first_message.Goals as goal

pub split_at-requires : goal.split_at-requires
split_at-requires c = (c.first_bytes.ensures.found (c.in-Some.message, c.in-Some.len) c.in-Some.is).within

pub returns : goal.returns
returns c =
    let step = c.first_bytes.ensures.found (c.in-Some.message, c.in-Some.len) c.in-Some.is in
    omega (arith, c.split_at.ensures.back_len, step.positive, step.within)
