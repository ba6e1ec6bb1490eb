-- A planner plans for further commands.
use Rattle.std.proofs.Common.{◌++◌, false, if◌then◌else◌, sym, ap, ◌∙◌}
use Rattle.std.specs.Prelude.{Bool}
use Rattle.ckpt_stream.specs.Merging.{keys_named_by, outlives}
use Rattle.ckpt_stream.proofs.Purges.{outlives_both}
use Rattle.ckpt_stream.proofs.Seen.{nothing_seen, covers_both}
use Rattle.ckpt_stream.proofs.Touches.{union_of}
use Rattle.ckpt_stream.proofs.planner.Planner.name.Goals as goal

pub returns-clause-seen : goal.returns-clause-seen
returns-clause-seen c before fresh has =
    let union = union_of c.deref.result.now c.args.self.now.keys.items (keys_named_by c.args.commands.now) _ c.deref.ensures.value has.rise c.in_ok-self.ensures in
    nothing_seen (before ++ c.args.commands.now) _ union.rise
    (covers_both _ _ before c.args.commands.now has.covers union.just)
    (λ row. c.greatest_purge-self.ensures row ∙ ap (λ (b : Bool). if b then outlives c.args.commands.now row else false) (has.purges row) ∙ sym (outlives_both before c.args.commands.now row))
    fresh.at fresh.kept fresh.edits fresh.olds

pub returns-clause-fresh : goal.returns-clause-fresh
returns-clause-fresh c fresh = record { at = fresh.at; kept = fresh.kept; edits = fresh.edits; olds = fresh.olds }
