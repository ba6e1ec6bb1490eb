use Rattle.std.proofs.Common.{List, [], sym, refl, ◌∙◌, subst}
use Rattle.std.specs.Prelude.{map}
use Rattle.std.proofs.lemmas.Bool.{false≢true}
use Rattle.path_records.specs.declared.key.Key.{Key}
use Rattle.path_records.specs.Key.{key_bytes}
use Rattle.ckpt_stream.specs.Merging.{KeysRise}
use Rattle.ckpt_stream.proofs.Seen.{nothing_seen}
use Rattle.ckpt_stream.proofs.planner.Planner.new.Goals as goal

pub returns-clause-seen : goal.returns-clause-seen
returns-clause-seen c =
    nothing_seen [] _ (subst (λ (keys : List Key). KeysRise (map key_bytes keys)) (sym c.new-keys.ensures.items) tt) (λ k has. absurd (false≢true has)) (λ row. refl)
    refl refl c.new-edits.ensures.items (c.without_indexes-olds.ensures ∙ c.new.ensures)

pub returns-clause-fresh : goal.returns-clause-fresh
returns-clause-fresh c = record { at = refl; kept = refl; edits = c.new-edits.ensures.items; olds = c.without_indexes-olds.ensures ∙ c.new.ensures }
