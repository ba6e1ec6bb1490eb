use Rattle.std.proofs.Common.{◌≡◌, List, ℕ, None, length}
use Rattle.seg_core.specs.declared.field_kind.FieldKind.{FieldKind}
use Rattle.seg_core.specs.declared.field_kind.FieldKind.TheVariants.{Messages}
use Rattle.seg_core.specs.Message.{field_kind}
use Rattle.seg_core.specs.Slots.{IsMidway}
use Rattle.seg_core.proofs.slots.take_messages.Given as goal

-- `IsMidway` holds before each field that is left.
abbrev pub invariant-loop-left : goal.invariant-loop-left
invariant-loop-left l = (shape : List FieldKind) (message : List ℕ) → field_kind shape l.field_number ≡ Messages → IsMidway shape message l.rest None l.initial.noted.numbers l.initial.noted.bytes → IsMidway shape message l.left None l.noted.numbers l.noted.bytes

abbrev pub decreases-loop-left : goal.decreases-loop-left
decreases-loop-left l = length l.left
