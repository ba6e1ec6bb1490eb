use Rattle.std.proofs.Common.{sym}
use Rattle.pw_wire.specs.View.{field_view}
use Rattle.seg_core.proofs.Misfits.{single-known, misfit-unsuited, misfit-repeated, misfit-first, misfit-many}
use Rattle.seg_core.proofs.slots.misfit_of.Goals as goal
use Rattle.seg_core.proofs.slots.misfit_of.Goals.{else-is_single-via-then-is_single+else-has_bytes, else-is_single-via-else-is_single}

pub has_bytes-requires : goal.has_bytes-requires
has_bytes-requires c = single-known c.args.shape.now c.args.field.now.number c.requires (cc)

pub returns-then-not-suits : goal.returns-then-not-suits
returns-then-not-suits c = λ before noted. misfit-unsuited c.args.shape.now before (field_view c.args.field.now) (cc)

pub returns-then-has_bytes : goal.returns-then-has_bytes
returns-then-has_bytes c = λ before noted. misfit-repeated c.args.shape.now before (field_view c.args.field.now) (cc) (cc) (sym (c.if-has_bytes.ensures before noted))

pub returns : goal.returns
returns c = λ before noted.
    elim c.else-is_single.branch [
      | else-is_single-via-then-is_single+else-has_bytes w ↦ misfit-first c.args.shape.now before (field_view c.args.field.now) (cc) (cc) (sym (w.if-has_bytes.ensures before noted))
      | else-is_single-via-else-is_single w ↦ misfit-many c.args.shape.now before (field_view c.args.field.now) (cc) (cc)
    ]
