use Rattle.std.proofs.Common.{rules}
use Rattle.seg_core.specs.Shapes.{map_shape}
use Rattle.seg_core.proofs.Refusals.{plain_message_fields, never_memory}
use Rattle.seg_core.proofs.registration.read_outline.Goals as goal

pub returns-in_err-slots-clause-memory : goal.returns-in_err-slots-clause-memory
returns-in_err-slots-clause-memory c =
    let never = never_memory _ _ (plain_message_fields map_shape c.args.message.now) c.in_err-slots.ensures.exact in
    search rules
