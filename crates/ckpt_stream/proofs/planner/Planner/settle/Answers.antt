use Rattle.std.proofs.Common.{List, subst, sym}
use Rattle.path_records.specs.declared.key.Key.{Key}
use Rattle.ckpt_stream.specs.declared.plan.Edit.{Edit}
use Rattle.ckpt_stream.specs.Planning.{is_beyond, IsPlanned, MakesAll}
use Rattle.ckpt_stream.proofs.Folds.{begun}
use Rattle.ckpt_stream.proofs.planner.Planner.settle.Goals as goal

pub returns-clause-settles : goal.returns-clause-settles
returns-clause-settles c = λ rows seen is.
    let planner = c.args.self in
    let count = seen.planned.count in
    let olds = seen.planned.olds in
    begun c.keys_are_separate.ensures rows c.args.commands.items planner c.of.result seen is c.of.ensures.keys c.of.ensures.kept c.of.ensures.db c.of.ensures.commands c.of.ensures.at
    c.of.ensures.rows c.of.ensures.size c.of.ensures.count
    (subst (λ (l : List Edit). MakesAll planner.keys.items (is_beyond planner.purged) rows l count olds) (sym c.of.ensures.edits)
    (subst (λ (k : List Key). MakesAll k (is_beyond planner.purged) rows c.put_rest.new.edits.items count olds) c.deref.ensures.value
    (c.in_ok-put_rest.ensures (is_beyond planner.purged) rows count olds
    (subst (λ (k : List Key). IsPlanned k (is_beyond planner.purged) rows planner.at planner.edits.items count olds) (sym c.deref.ensures.value) seen.planned.planned))))
