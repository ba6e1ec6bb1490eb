use Rattle.std.proofs.Common.{ap, subst}
use mathlib.Core.List.{IsPrefix}
use Rattle.log_history.specs.Entries.{LogMoment, log_of, IsPastOf}
use Rattle.log_history.proofs.Moments.{past_of}
use Rattle.log_history.proofs.history.PastLog.joined.Goals as goal

pub returns-clause-mine : goal.returns-clause-mine
returns-clause-mine c =
    let one = c.self.inside.seen in
    let all = c.learn.new.self in
    let front = subst (λ l. IsPrefix l all.log) (ap (λ s. s.log) c.again-seen.ensures) c.learn.ensures.2 in
    subst (λ (x : LogMoment). IsPastOf x (log_of all.book all.log)) c.self.view_is (past_of one.book all.book one.log all.log front)

pub returns-clause-other : goal.returns-clause-other
returns-clause-other c =
    let two = c.other.inside.seen in
    let all = c.learn.new.self in
    subst (λ (x : LogMoment). IsPastOf x (log_of all.book all.log)) c.other.view_is (past_of two.book all.book two.log all.log c.learn.ensures.3)
