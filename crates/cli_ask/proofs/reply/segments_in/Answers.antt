-- The number of the type is within its entry.
use Rattle.cli_ask.proofs.reply.segments_in.Goals as goal

pub split_at-requires : goal.split_at-requires
split_at-requires c =
    (c.first_number.ensures.found (c.in-Some-first_number.number, c.in-Some-first_number.len) c.in-Some-first_number.is).within
