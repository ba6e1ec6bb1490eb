use Rattle.std.proofs.Common.{rules}
use Rattle.seg_core.specs.Shapes.{path_segment_shape}
use Rattle.seg_core.proofs.Refusals.{plain_message_fields, plain_info, never_memory}
use Rattle.seg_core.proofs.outline.read_outline.Goals as goal

pub returns-in_err-slots-clause-memory : goal.returns-in_err-slots-clause-memory
returns-in_err-slots-clause-memory c =
    let never = never_memory _ _ (plain_message_fields path_segment_shape c.args.message.now) c.in_err-slots.ensures.exact in
    search rules

pub returns-in_err-info-clause-memory : goal.returns-in_err-info-clause-memory
returns-in_err-info-clause-memory c =
    let never = never_memory _ _ (plain_info c.bytes_field_or_empty-info_bytes.result.now) c.in_err-info.ensures in
    search rules
