use Rattle.std.proofs.Common.{rules, ap, arith}
use Rattle.std.proofs.lemmas.List.Sorted.{answers_always}
use Rattle.rising_map.proofs.Found.{all_below, found_so}
use Rattle.rising_map.proofs.slots.find.Goals as goal
use Rattle.rising_map.proofs.slots.find.Goals.{then-len-eq0-via-then-len-eq0, then-len-eq0-via-else-len-eq0+then-slots-len}

pub returns-then-len-eq0 : goal.returns-then-len-eq0
returns-then-len-eq0 g c =
    elim c.then-len-eq0.branch [
      | then-len-eq0-via-then-len-eq0 w ↦ (omega arith, (λ k d low high. absurd (omega (arith, high, w.if-len-eq0)), λ k d low high. absurd (omega (arith, low, high))))
      | then-len-eq0-via-else-len-eq0+then-slots-len w ↦
          (omega arith, (λ k d low high. all_below c.args.slots.now c.requires c.args.number w.index-slots-len.result (omega arith) w.index-slots-len.is (omega (arith, ap (λ s. s.number) w.index-slots-len.is, w.if-slots-len.true)) k d high, λ k d low high. absurd (omega (arith, low, high))))
    ]

pub returns : goal.returns
returns g c =
    found_so c.args.slots.now c.requires c.args.number c.binary_search_by_key.result c.binary_search_by_key.ensures.bound
    (c.binary_search_by_key.ensures.position (λ s. s.number) (answers_always _ _ _ (λ f a r f' k. search rules)))
