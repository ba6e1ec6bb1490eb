use Rattle.std.proofs.Common.{arith, List, ap}
use Rattle.ckpt_stream.specs.declared.plan.Edit.{Edit}
use Rattle.ckpt_stream.specs.Edits.{bytes_kept}
use Rattle.ckpt_stream.proofs.Ends.{none_left_of}
use Rattle.ckpt_stream.proofs.plan.kept_bytes.Goals as goal

pub returns : goal.returns
returns c =
    let none = ap (λ (l : List Edit). bytes_kept l) (none_left_of c.loop-edit.edit-index c.args.edits.now c.loop-edit-test.false) in
    omega (arith, c.loop-edit.invariant.sum, c.loop-edit.invariant.fits, none)
