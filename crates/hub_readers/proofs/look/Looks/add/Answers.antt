use Rattle.std.proofs.Common.{sym, ◌∙◌, subst}
use Rattle.hub_readers.proofs.Looking.{AreFronts, fronts_of_more, one_more_front}
use Rattle.hub_readers.proofs.look.Looks.add.Goals as goal

pub invariant_of-self : goal.invariant_of-self
invariant_of-self g c =
    let own = c.self.inside in
    let front = c.look.inside.past.commands in
    let all = c.joined.result.commands in
    let more = fronts_of_more own.fronts.value own.longest.commands all c.self.invariant.1 c.joined.ensures.mine.front in (
      c.joined.ensures.book ∙ c.self.invariant.0,
      subst (λ fronts. AreFronts fronts all) (sym c.of.ensures) (one_more_front own.fronts.value front all more c.joined.ensures.other.front),
    )
