use Rattle.std.proofs.Common.{◌+◌, [], List, sym, subst}
use Rattle.seg_core.specs.declared.seg_type.SegType.TheVariants.{Up}
use Rattle.path_records.specs.declared.key.Key.{Key}
use Rattle.ckpt_stream.specs.declared.plan.Edit.{Edit}
use Rattle.ckpt_stream.specs.Planning.{IsEnding}
use Rattle.ckpt_stream.proofs.Plans.{ending_from, put_end, all_made}
use Rattle.ckpt_stream.proofs.putting.put_rest.Goals as goal

abbrev no_key : Key
no_key = record { kind = Up; id = [] }

pub loop-at-init : goal.loop-at-init
loop-at-init c = λ p seen kept olds is. ending_from c.args.keys.now c.args.at p seen c.args.edits.now.items kept olds is

pub loop-at-preserved : goal.loop-at-preserved
loop-at-preserved c = λ p seen kept olds is.
    subst (λ (l : List Edit). IsEnding c.args.keys.now p seen (c.loop-at.at + 1) l kept olds) (sym c.in_ok-push.ensures.items)
    (put_end c.args.keys.now c.loop-at.at no_key c.loop-at-test.true p seen c.loop-at.edits.items kept olds (c.loop-at.invariant p seen kept olds is))

pub returns : goal.returns
returns c = λ p seen kept olds is. all_made c.args.keys.now c.loop-at.at p seen c.loop-at.edits.items kept olds c.loop-at-test.false (c.loop-at.invariant p seen kept olds is)
