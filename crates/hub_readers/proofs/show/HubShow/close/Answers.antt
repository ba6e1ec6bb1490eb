use Rattle.std.proofs.Common.{◌++◌, drop, subst}
use mathlib.Core.List.{IsPrefix}
use Rattle.left_right.specs.Sides.{view}
use Rattle.store_layout.specs.Journal.{all_of}
use Rattle.log_history.specs.Entries.{LogMoment}
use Rattle.hub_readers.specs.Showcase.{beyond}
use Rattle.hub_readers.specs.Showing.{Showing}
use Rattle.hub_readers.proofs.Handing.{noted_all}
use Rattle.hub_readers.proofs.Looking.{AreFronts, fronts_of_more}
use Rattle.hub_readers.proofs.show.HubShow.close.Goals as goal

-- the longest look is a front of the history, which has what was published and what is owed
pub returns-clause-fronts : goal.returns-clause-fronts
returns-clause-fronts g c =
    let own = c.self.inside in
    let groups = (view own.writer.desk.place).groups in
    let owed = beyond groups own.history in
    let longest = c.into_parts-longest.result.0 in
    let all = noted_all g.N.ReaderName.shown (all_of groups) owed own.history (drop own.writer.behind own.writer.log.items) own.progress c.self.invariant.1 c.self.invariant.2 in
    let more = subst (λ (log : LogMoment). IsPrefix longest.commands log.commands) all c.prove_past.ensures.past.front in
    let fronts = fronts_of_more c.args.looks longest.commands (all_of groups ++ owed) c.into_parts-longest.ensures.fronts more in
    subst (λ (show : Showing). AreFronts c.args.looks (all_of show.groups ++ show.owed)) c.self.view_is fronts
