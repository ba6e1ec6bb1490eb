-- The half that is chosen, by the heads that reads return.
use Rattle.std.specs.Prelude.{◌≡◌, List, ℕ, Result, Ok}
use Rattle.store_layout.specs.declared.half.Half.{Half}
use Rattle.store_layout.specs.declared.half.Half.TheVariants.{First, Second}
use Rattle.store_layout.specs.CheckpointReading.{PairRefusal}
use Rattle.store_layout.specs.Layout.{Geometry}
use Rattle.store_layout.specs.OpeningReading.{head_of, choice_of}
use Rattle.ckpt_pair.specs.Heads.{head_seen}
use Rattle.store_layout.specs.Limits.{latest}
use Rattle.ckpt_pair.specs.declared.choice.Heads.{Heads}
use Rattle.store_open.specs.declared.heads.Choice.{Choice}

-- The half of a choice.
abbrev pub chosen_half : Choice → Half
chosen_half choice = choice.half

-- The half that is chosen in an image.
abbrev pub choice_by_heads : Geometry → List ℕ → Result Half PairRefusal
choice_by_heads geometry image = choice_of (head_of latest geometry First image) (head_of latest geometry Second image)

-- The heads are those of an image.
pub record HasHeads (geometry : Geometry) (image : List ℕ) (heads : Heads) : Type 0 where
  pub first : head_of latest geometry First image ≡ Ok (head_seen heads.first)
  pub second : head_of latest geometry Second image ≡ Ok (head_seen heads.second)
