-- One more step.
use Rattle.std.proofs.Common.{rules, subst}
use Rattle.cli_ask.specs.Purging.{HasDropped}
use Rattle.cli_ask.specs.declared.steps.Step.{Step}
use Rattle.cli_ask.proofs.Purges.{dropped-last, dropped-more}
use Rattle.cli_ask.proofs.purging.drop_in_steps.Goals as goal

pub loop-step-preserved : goal.loop-step-preserved
loop-step-preserved g c =
    let talk = g.L.Link.talk in
    record {
      within = search rules;
      drops = λ t n rest.
          let behind = subst (λ (s : Step). HasDropped (talk c.drop_more.new.link) t c.args.moment s c.drop_more.new.total n) c.next-step.ensures.step rest in
          let dropped =
          dropped-more c.args.moment c.loop-step.step (talk c.loop-step.link) (talk c.drop_more.new.link) t c.loop-step.total c.drop_more.new.total n
          c.in_ok-dropped.dropped c.loop-step-test.true c.in_ok-dropped.ensures.added behind in
          c.loop-step.invariant.drops t n dropped;
    }

pub returns : goal.returns
returns g c =
    let talk = g.L.Link.talk in
    let dropped =
    dropped-last c.args.moment c.loop-step.step (talk c.loop-step.link) (talk c.drop_more-2.new.link) c.loop-step.total c.drop_more-2.new.total
    c.in_ok-drop_more.field-0 c.loop-step-test.false c.in_ok-drop_more.ensures.added in
    c.loop-step.invariant.drops (talk c.drop_more-2.new.link) c.drop_more-2.new.total dropped
