-- The field has a number that is not noted, or its value is a number, bytes, or of a fixed width.
use Rattle.std.proofs.Common.{ap, ⊎_elim, arith}
use Rattle.pw_wire.specs.View.{field_view, value_view}
use Rattle.seg_core.specs.Message.{varint_in, bytes_of_value}
use Rattle.seg_core.proofs.Noting.{AreNoted-past, AreNoted-fixed, AreNoted-varint, AreNoted-bytes}
use Rattle.seg_core.proofs.slots.Noted.note.Goals as goal

pub returns-then-field_number-ge-WIDTH : goal.returns-then-field_number-ge-WIDTH
returns-then-field_number-ge-WIDTH c = λ before noted. AreNoted-past before (field_view c.args.field.now) _ _ (omega arith) noted

pub returns-in-Varint : goal.returns-in-Varint
returns-in-Varint c = λ before noted.
    AreNoted-varint before (field_view c.args.field.now) _ _ _ (ap value_view c.in-Varint.is) (omega arith) (omega arith) noted

pub returns-in-Bytes : goal.returns-in-Bytes
returns-in-Bytes c = λ before noted.
    AreNoted-bytes before (field_view c.args.field.now) _ _ _ (ap value_view c.in-Bytes.is) (omega arith) noted

pub returns-in-Fixed64 : goal.returns-in-Fixed64
returns-in-Fixed64 c = λ before noted.
    ⊎_elim
    (λ (n, is). AreNoted-fixed before (field_view c.args.field.now) _ _ (ap (λ v. varint_in (value_view v)) is) (ap (λ v. bytes_of_value (value_view v)) is) noted)
    (λ (n, is). AreNoted-fixed before (field_view c.args.field.now) _ _ (ap (λ v. varint_in (value_view v)) is) (ap (λ v. bytes_of_value (value_view v)) is) noted)
    c.in-Fixed64.is
