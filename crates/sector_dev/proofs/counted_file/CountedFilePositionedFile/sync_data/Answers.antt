-- A sync of the counted file makes one of the file, and may fail after it too.
use Rattle.std.proofs.Common.{refl, sym, subst, Err}
use Rattle.sector_dev.specs.CountedFile.{counted_state}
use Rattle.sector_dev.specs.PositionedFile.{SyncsFile}
use Rattle.sector_dev.specs.declared.counted_file.CountedFile.{CountedFile}
use Rattle.sector_dev.proofs.CountedCalls.{counted_sync, counted_failed_sync}
use Rattle.sector_dev.proofs.counted_file.CountedFilePositionedFile.sync_data.Goals as goal

pub returns-in-Err-clause-sync : goal.returns-in-Err-clause-sync
returns-in-Err-clause-sync g c =
    subst (λ (self : CountedFile g.row.F.Denot). SyncsFile {T = Unit {0}} (Err c.in-Err.error) (counted_state g.F.FileCalls.state c.args.self.now) (counted_state g.F.FileCalls.state self)) (sym c.count.ensures)
    (counted_failed_sync _ _ _ _ _ c.in-Err.error _ refl c.in-Err.ensures.sync)

pub returns-in-Err-find_in_place-clause-sync : goal.returns-in-Err-find_in_place-clause-sync
returns-in-Err-find_in_place-clause-sync g c =
    subst (λ (self : CountedFile g.row.F.Denot). SyncsFile {T = Unit {0}} (Err c.new.result) (counted_state g.F.FileCalls.state c.args.self.now) (counted_state g.F.FileCalls.state self)) (sym c.count-in-Err-find_in_place.ensures)
    (counted_failed_sync _ _ _ _ _ c.new.result _ refl c.sync_once.ensures.sync)

pub returns-clause-sync : goal.returns-clause-sync
returns-clause-sync g c = counted_sync _ _ _ _ _ tt refl c.in_default.ensures.sync
