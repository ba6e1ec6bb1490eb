use Rattle.std.proofs.Common.{◌≡◌, ℕ, ◌++◌, take, ap, sym, ◌∙◌, subst}
use mathlib.Core.List.{IsPrefix}
use Rattle.sector_dev.specs.Disk.{Disk}
use Rattle.command_log.specs.Log.{Log, with_committed}
use Rattle.logged_state.specs.LoggedView.{LoggedView, log_at_end, moment_number}
use Rattle.logged_state.proofs.LogEnds.{shown_at_end, left_at_end, all_kept_at_end}
use Rattle.logged_state.proofs.state.LoggedState.into_parts.Goals as goal

-- the log has what is durable among the committed commands
log_is : (log after : Log) (durable count number moment : ℕ) → after ≡ with_committed count number log → count ≡ durable → number ≡ moment → after ≡ with_committed durable moment log
log_is log after durable count number moment is many at = is ∙ (λ i. with_committed (many i) (at i) log)

pub returns-clause-log : goal.returns-clause-log
returns-clause-log g c =
    subst (λ (v : LoggedView). c.note_committed.new.log ≡ log_at_end v) c.self.view_is
    (log_is _ _ _ _ _ _ c.note_committed.ensures c.durable.ensures (ap (λ (d : Disk). moment_number d) c.device.ensures))

pub returns-clause-shown : goal.returns-clause-shown
returns-clause-shown g c =
    let is = log_is _ _ _ _ _ _ c.note_committed.ensures c.durable.ensures (ap (λ (d : Disk). moment_number d) c.device.ensures) in
    subst (λ (log : Log). IsPrefix (g.S.Showcase.list c.into_parts-device.result.1 ++ g.S.Showcase.owed c.into_parts-device.result.1) (take log.committed log.commands)) (sym is)
    (shown_at_end g.B.StateName.opening c.self.inside.log c.self.inside.state _ _ c.self.invariant.tie c.into_parts-device.ensures.list c.into_parts-device.ensures.owed)

pub returns-clause-left : goal.returns-clause-left
returns-clause-left g c =
    left_at_end g.B.StateName.start g.B.StateName.opening c.self.inside.log c.self.inside.state c.self.invariant.tie c.self.invariant.kept c.stops_leave_fronts.ensures.leaves.exit
    c.note_committed.new.log (g.D.Device.disk c.of.result)
    (log_is _ _ _ _ _ _ c.note_committed.ensures c.durable.ensures (ap (λ (d : Disk). moment_number d) c.device.ensures))
    (ap g.D.Device.disk c.of.ensures ∙ c.into_parts-device.ensures.device)

pub returns-clause-since : goal.returns-clause-since
returns-clause-since g c =
    all_kept_at_end g.B.StateName.start g.B.StateName.opening c.self.inside.log c.self.inside.state c.self.invariant.tie c.self.invariant.kept c.stops_leave_fronts.ensures.leaves.exit
    c.note_committed.new.log (g.D.Device.disk c.of.result)
    (log_is _ _ _ _ _ _ c.note_committed.ensures c.durable.ensures (ap (λ (d : Disk). moment_number d) c.device.ensures))
    (ap g.D.Device.disk c.of.ensures ∙ c.into_parts-device.ensures.device)
