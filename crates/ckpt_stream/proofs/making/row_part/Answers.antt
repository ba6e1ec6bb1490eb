-- The bytes of the rows in a window.
use Rattle.std.proofs.Common.{◌-◌, ◌*◌, arith}
use Rattle.ckpt_stream.proofs.Pieces.{rewritten_is}
use Rattle.ckpt_stream.proofs.making.row_part.Goals as goal

pub returns-clause-shown : goal.returns-clause-shown
returns-clause-shown c area reads shows =
    rewritten_is c.args.window.now reads area c.args.first c.args.count c.args.size (32 - c.min.result) c.min-to.result (512 * c.args.first - 32) shows
    (omega (arith, c.min.ensures, c.min-to.ensures, c.from.ensures, c.requires.some, c.requires.inside)) (omega (arith, c.min-to.ensures))
    c.requires.window (omega (arith, c.min.ensures)) (omega (arith, c.min.ensures, c.min-to.ensures, c.from.ensures, c.requires.inside))
