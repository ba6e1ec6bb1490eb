-- Refusals of `store_layout` as errors, and results of calls by the result of a reading.
use Rattle.std.specs.Prelude.{◌≡◌, ◌≢◌, Result, Ok, Err}
use Rattle.store_layout.specs.CheckpointReading.{PairRefusal, NoHalf, SameEpoch, BadCheckpoint, SealedNewer, NewerFormat}
use Rattle.ckpt_pair.specs.declared.error.PairError.{PairError}
use Rattle.ckpt_pair.specs.declared.error.PairError.TheVariants as errors

-- The error of each refusal.
abbrev pub error_of : PairRefusal → PairError
error_of NoHalf = errors.NoHalf
error_of SameEpoch = errors.SameEpoch
error_of BadCheckpoint = errors.BadCheckpoint
error_of SealedNewer = errors.SealedNewer
error_of (NewerFormat version) = errors.NewerFormat version

-- A call that takes no memory returns exactly what the reading gives, seen by `view`.
abbrev pub ReadsPair : {X Y : Type 0} → (X → Y) → Result X PairError → Result Y PairRefusal → Type 0
ReadsPair view (Ok x) (Ok y) = y ≡ view x
ReadsPair view (Ok x) (Err refusal) = ⊥
ReadsPair view (Err e) (Ok y) = ⊥
ReadsPair view (Err e) (Err refusal) = e ≡ error_of refusal

-- A call that takes memory returns exactly what the reading gives, unless memory was refused.
abbrev pub GivesPair : {X Y : Type 0} → (X → Y) → Result X PairError → Result Y PairRefusal → Type 0
GivesPair view (Ok x) reading = reading ≡ Ok (view x)
GivesPair view (Err e) reading = e ≢ errors.NoMemory → ReadsPair view (Err e) reading
