-- The front of a checkpoint without rows, and zeros.
use Rattle.std.proofs.Common.{ℕ, List, [], ◌∙◌, ap, sym, refl, replicate}
use Rattle.std.proofs.lemmas.List.{append-nil}
use Rattle.byte_lists.specs.Content.{overwrite}
use Rattle.store_open.proofs.first_sector.first_checkpoint.Goals as goal

pub returns : goal.returns
returns c =
    c.put.ensures.put
    ∙ ap (λ (front : List ℕ). overwrite 0 front (replicate 512 0)) (sym (append-nil c.checkpoint_front.result) ∙ c.checkpoint_front.ensures.spelled [] refl refl)
