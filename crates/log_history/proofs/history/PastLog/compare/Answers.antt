use Rattle.std.proofs.Common.{◌⊎◌, ap, subst}
use mathlib.Core.List.{IsPrefix}
use Rattle.log_history.specs.Entries.{LogMoment, log_of, IsPastOf}
use Rattle.log_history.proofs.Moments.{either_past}
use Rattle.log_history.proofs.history.PastLog.compare.Goals as goal

pub returns : goal.returns
returns c =
    let both = c.learn.ensures in
    let one = c.self.inside.seen in
    let two = c.other.inside.seen in
    let mine = subst (λ l. IsPrefix l c.learn.new.self.log) (ap (λ s. s.log) c.again-both.ensures) both.2 in
    let either = either_past one.book two.book one.log two.log c.learn.new.self.log mine both.3 in
    let P : LogMoment → LogMoment → Type 0 = λ x y. IsPastOf x y ⊎ IsPastOf y x in
    subst (λ x. P x c.args.other.now) c.self.view_is (subst (λ y. P (log_of one.book one.log) y) c.other.view_is either)
