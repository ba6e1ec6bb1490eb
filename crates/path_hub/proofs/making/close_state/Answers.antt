use Rattle.std.proofs.Common.{◌≡◌, List, ◌++◌, take, sym, ap, ◌∙◌, subst}
use Rattle.std.specs.List.{AllByRecursion}
use mathlib.Core.List.{IsPrefix}
use Rattle.row_map.specs.Database.{RowView}
use Rattle.path_db.specs.declared.command.Command.{Command}
use Rattle.store_layout.specs.Journal.{all_of}
use Rattle.sector_dev.specs.Disk.{History}
use Rattle.sector_dev.proofs.Stretches.{honest_after}
use Rattle.store_layout.specs.Opening.{StoreValue}
use Rattle.command_log.specs.Log.{Log}
use Rattle.logged_state.specs.Left.{OpensToLog, OpensWithAll}
use Rattle.logged_state.specs.LeftView.{LeftView}
use Rattle.logged_state.specs.Kept.{AllKept, AllClaimsKept}
use Rattle.path_hub.proofs.making.close_state.Goals as goal

-- an image that opens to the log opens with the commands of all claims
pub returns-clause-acknowledged : goal.returns-clause-acknowledged
returns-clause-acknowledged g c honest content is =
    let opening = g.N.StateName.opening in
    let log_is = ap (λ l. l.log) c.of-left.ensures ∙ ap (λ l. l.log) c.unnamed_with-log.ensures.log in
    let opens = c.prove_acknowledged.ensures.opens opening content
    (subst (λ (log : Log). OpensToLog opening log content) (sym log_is) (c.into_parts-device.ensures.left honest content is)) in
    subst (λ (left : LeftView). OpensWithAll opening left.acknowledged content) (sym c.prove_acknowledged.ensures.same) opens

-- the same log, and the same claims
log_kept : (opening : StoreValue (List RowView)) (history : History) (log same : Log) → log ≡ same → AllKept opening log history → AllKept opening same history
log_kept opening history log same is kept = subst (λ (l : Log). AllKept opening l history) is kept

claims_kept : (opening : StoreValue (List RowView)) (history : History) (left same : LeftView) → left ≡ same → AllClaimsKept opening left.log history left.acknowledged → AllClaimsKept opening same.log history same.acknowledged
claims_kept opening history left same is kept = subst (λ (l : LeftView). AllClaimsKept opening l.log history l.acknowledged) is kept

-- each of these commands is there from the moment on at which it was committed
pub returns-clause-since : goal.returns-clause-since
returns-clause-since g c honest =
    let opening = g.N.StateName.opening in
    let log_is = ap (λ l. l.log) c.of-left.ensures ∙ ap (λ l. l.log) c.unnamed_with-log.ensures.log in
    let kept = c.into_parts-device.ensures.since (honest_after _ _ c.into_parts-device.ensures.moments.keeps honest) in
    claims_kept opening _ _ _ (sym c.prove_acknowledged.ensures.same) (c.prove_acknowledged.ensures.since opening _ (log_kept opening _ _ _ (sym log_is) kept))

-- so is what each session was shown last
pub returns-clause-looked : goal.returns-clause-looked
returns-clause-looked g c honest =
    let opening = g.N.StateName.opening in
    let show = c.into_parts-device.result.1 in
    let shown : List Command = all_of show.groups ++ show.owed in
    let left_is = c.prove_acknowledged.ensures.same ∙ c.of-left.ensures in
    let log_is = ap (λ (l : LeftView). l.log) left_is ∙ ap (λ l. l.log) c.unnamed_with-log.ensures.log in
    let looked_is = ap (λ (l : LeftView). l.looked) left_is ∙ c.close-looked.ensures.note in
    let kept = c.into_parts-device.ensures.since (honest_after _ _ c.into_parts-device.ensures.moments.keeps honest) in
    c.looks_are_kept.ensures opening (g.D.Device.disk c.into_parts-device.result.0).history shown
    (subst (λ (fronts : List (List Command)). AllByRecursion (λ (front : List Command). IsPrefix front shown) fronts) (sym looked_is) c.close-looked.ensures.fronts)
    (subst (λ (log : Log). IsPrefix shown (take log.committed log.commands)) (sym log_is) c.into_parts-device.ensures.shown)
    (log_kept opening _ _ _ (sym log_is) kept)
