-- A transfer into the counted file is one write of the file.
use Rattle.std.proofs.Common.{refl, sym, subst}
use Rattle.sector_dev.specs.CountedFile.{counted_state}
use Rattle.sector_dev.specs.PositionedFile.{TransfersIn}
use Rattle.sector_dev.specs.declared.counted_file.CountedFile.{CountedFile}
use Rattle.sector_dev.proofs.CountedCalls.{counted_write}
use Rattle.sector_dev.proofs.counted_file.CountedFilePositionedFile.write_at.Goals as goal

pub returns-clause-into : goal.returns-clause-into
returns-clause-into g c =
    subst (λ (self : CountedFile g.row.F.Denot). TransfersIn c.args.offset c.args.bytes.now c.write_on-moved.result (counted_state g.F.FileCalls.state c.args.self.now) (counted_state g.F.FileCalls.state self)) (sym c.count_transfer.ensures)
    (counted_write _ _ _ _ c.args.offset c.args.bytes.now c.write_on-moved.result refl c.write_on-moved.ensures.most c.write_on-moved.ensures.lands)
