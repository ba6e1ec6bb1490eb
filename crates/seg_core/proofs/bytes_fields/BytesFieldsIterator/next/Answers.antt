-- The bytes of the first field are the next item.
use Rattle.std.proofs.Common.{rules, ◌∷◌, length, ◌<◌, sym, ap, ◌∙◌, arith}
use Rattle.pw_wire.specs.Fields.{fields}
use Rattle.seg_core.specs.Message.{bytes_fields}
use Rattle.seg_core.proofs.Noting.{bytes_fields-first}
use Rattle.seg_core.proofs.bytes_fields.BytesFieldsIterator.next.Goals as goal

pub split_at-requires : goal.split_at-requires
split_at-requires c = (c.first_bytes.ensures.found (c.in-Some.bytes, c.in-Some.used) c.in-Some.is).within

pub returns-clause-steps : goal.returns-clause-steps
returns-clause-steps c =
    let step = c.first_bytes.ensures.found (c.in-Some.bytes, c.in-Some.used) c.in-Some.is in
    bytes_fields-first c.args.self.now.field_number _ _ c.in-Some.bytes.now step.fields_are
    ∙ ap (λ bytes. c.in-Some.bytes.now ∷ bytes_fields c.args.self.now.field_number (fields bytes)) (sym c.split_at.ensures.back)

pub returns-clause-goes : goal.returns-clause-goes
returns-clause-goes c =
    let step = c.first_bytes.ensures.found (c.in-Some.bytes, c.in-Some.used) c.in-Some.is in
    let shorter : length c.split_at.result.1.now < length c.args.self.now.rest.now = omega (arith, c.split_at.ensures.back_len, step.positive, step.within) in
    search (rules, shorter)
