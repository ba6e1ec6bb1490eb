-- The numbers of the refusals of a pair of halves.
use Rattle.std.specs.Prelude.{ℕ}
use Rattle.ckpt_pair.specs.declared.error.PairError.{PairError}
use Rattle.ckpt_pair.specs.declared.error.PairError.TheVariants.{NoMemory, NoHalf, SameEpoch, BadCheckpoint, SealedNewer, NewerFormat}

-- The number of each refusal.
abbrev pub pair_error_number : PairError → ℕ
pair_error_number NoMemory = 0
pair_error_number NoHalf = 1
pair_error_number SameEpoch = 2
pair_error_number BadCheckpoint = 3
pair_error_number SealedNewer = 4
pair_error_number (NewerFormat version) = 5
