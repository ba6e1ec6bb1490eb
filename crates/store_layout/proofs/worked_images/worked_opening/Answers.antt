use Rattle.store_layout.proofs.SmallImage.{small_opens}
use Rattle.store_layout.proofs.worked_images.worked_opening.Goals as goal

pub returns : goal.returns
returns c = small_opens
