use Rattle.std.proofs.Common.{◌≡◌, [], ◌∷◌, ◌++◌, refl, ap, ◌∙◌}
use Rattle.std.specs.Prelude.{Option}
use Rattle.std.specs.Option.{option_to_list}
use Rattle.ckpt_stream.specs.declared.plan.Edit.{Edit}
use Rattle.ckpt_stream.proofs.Plans.{joined}
use Rattle.ckpt_stream.proofs.putting.push_edit.Goals as goal

pub returns-in_ok-push-in-Some-joined : goal.returns-in_ok-push-in-Some-joined
returns-in_ok-push-in-Some-joined c =
    let es = c.pop.new.self.items in
    let was : c.args.edits.now.items ≡ es ++ c.in-Some.last ∷ [] = c.pop.ensures.items ∙ ap (λ (o : Option Edit). es ++ option_to_list o) c.in-Some.is in
    joined c.args.edits.now.items es c.push-in-Some-joined.new.self.items c.in-Some.last c.args.edit c.in-Some-joined.both
    was c.in_ok-push-in-Some-joined.ensures.items (c.in-Some-joined.ensures c.in-Some-joined.both refl)
