-- What a step of a visit says, reads and sends.
use Rattle.std.specs.Prelude.{◌≡◌, ◌≤◌, ◌⊎◌, ℕ, List, ◌++◌, drop, length}
use Rattle.status_page.specs.declared.request.Asked.{Asked}
use Rattle.status_page.specs.declared.request.Asked.TheVariants.{More}
use Rattle.status_server.specs.declared.visit.VisitStep.{VisitStep}
use Rattle.status_server.specs.declared.visit.VisitStep.TheVariants.{Asks, Waits, Over}

-- A fact of what the peer asks for, where the step says that the peer asks.
abbrev pub IfAsks : VisitStep → (Asked → Type 0) → Type 0
IfAsks (Asks asked) P = P asked
IfAsks Waits P = Unit {0}
IfAsks Over P = Unit {0}

-- A piece of at most this number of bytes was read after those that were there.
abbrev pub IsReadOn : ℕ → List ℕ → List ℕ → Type 0
IsReadOn most old new = (piece : List ℕ) × (new ≡ old ++ piece) × (length piece ≤ most)

-- A front was sent, and this is what is left.
abbrev pub IsSentOn : List ℕ → List ℕ → Type 0
IsSentOn old new = (count : ℕ) × (new ≡ drop count old)

-- The bytes of a peer are judged to have no whole head only where no byte was read after those that
-- were there, or where there are as many as are read of a head.
abbrev pub IsWhole : List ℕ → List ℕ → Asked → Type 0
IsWhole old new asked = asked ≡ More → (new ≡ old) ⊎ (4096 ≤ length new)
