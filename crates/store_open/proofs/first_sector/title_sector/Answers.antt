-- The four numbers, one after the other.
use Rattle.std.proofs.Common.{◌∙◌, replicate}
use Rattle.byte_lists.specs.Content.{overwrite}
use Rattle.store_open.proofs.first_sector.title_sector.Goals as goal

pub returns : goal.returns
returns c =
    c.put-4.ensures.put
    ∙ (λ i. overwrite 16 (c.to_be_bytes-4.ensures i)
    ((c.put-3.ensures.put ∙ (λ j. overwrite 12 (c.to_be_bytes-3.ensures j)
    ((c.put-2.ensures.put ∙ (λ k. overwrite 8 (c.to_be_bytes-2.ensures k)
    ((c.put.ensures.put ∙ (λ l. overwrite 0 (c.to_be_bytes.ensures l) (replicate 512 0))) k))) j))) i))
