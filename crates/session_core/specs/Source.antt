-- Reads of a source, one after the other.
use Rattle.std.specs.Prelude.{◌≡◌, ℕ, ◌≤◌, List, [], ◌++◌, length, Result, Ok, Err, Vec}
use Rattle.std.specs.List.{FoldsTo, AllByRecursion, concat}
use Rattle.session_core.specs.declared.error.FrameError.{FrameError}
use Rattle.session_core.specs.declared.error.FrameError.TheVariants as error
use Rattle.session_core.specs.declared.source.TheConstants.{MOST_PIECE}

-- The source was read at most `turns` times. Each read gave one of these pieces, none of which is
-- longer than `MOST_PIECE`. A read that failed, and a read at the end, gave no bytes.
pub record AreReads {R : Type 0} (gives : R → List ℕ → R → Type 0) (turns : ℕ) (old : R) (pieces : List (List ℕ)) (new : R) : Type 0 where
  pub made : FoldsTo gives old pieces new
  pub few : length pieces ≤ turns
  pub short : AllByRecursion (λ piece. length piece ≤ MOST_PIECE) pieces

-- One read gave this number of bytes, which come after those of the inbox.
pub record TakesIn {R : Type 0} (gives : R → List ℕ → R → Type 0) (source : R) (inbox : List ℕ) (len : ℕ) (source_left : R) (inbox_left : List ℕ) : Type 0 where
  pub piece : List ℕ
  pub gave : gives source piece source_left
  pub joined : inbox_left ≡ inbox ++ piece
  pub len_is : length piece ≡ len
  pub short : len ≤ MOST_PIECE

-- The read failed, or memory was refused before it, and nothing was read.
abbrev pub FailsToTakeIn : {R : Type 0} → (R → List ℕ → R → Type 0) → R → FrameError → R → Type 0
FailsToTakeIn gives source error.NoMemory source_left = source_left ≡ source
FailsToTakeIn gives source error.Read source_left = gives source [] source_left
FailsToTakeIn gives source _ source_left = ⊥

-- Why reading ended: all was read up to the end of the source, or a read failed, memory was
-- refused, or all allowed reads were made.
abbrev pub EndsReading : {A : Type 0} → ℕ → Type 0 → List (List ℕ) → Result (Vec ℕ A) FrameError → Type 0
EndsReading turns input_ended pieces (Ok bytes) = input_ended × (bytes.items ≡ concat pieces)
EndsReading turns input_ended pieces (Err error.NoMemory) = Unit {0}
EndsReading turns input_ended pieces (Err error.Read) = Unit {0}
EndsReading turns input_ended pieces (Err error.Turns) = length pieces ≡ turns
EndsReading turns input_ended pieces _ = ⊥

-- A source was read to its end, or up to an error, in at most `turns` reads.
pub record IsAllRead {R A : Type 0} (gives : R → List ℕ → R → Type 0) (turns : ℕ) (source source_left : R) (input_ended : Type 0) (result : Result (Vec ℕ A) FrameError) : Type 0 where
  pub pieces : List (List ℕ)
  pub read : AreReads gives turns source pieces source_left
  pub ended : EndsReading turns input_ended pieces result
