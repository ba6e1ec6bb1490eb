-- Visits of peers that ask for the numbers of a server.
use Rattle.std.specs.Prelude.{◌≡◌, ◌⊎◌, ◌≤◌, ◌-◌, ℕ, List, [], ◌∷◌, ◌++◌, drop, length, All, Result, Ok}
use Rattle.std.specs.Duration.{as_nanos}
use Rattle.status_page.specs.declared.request.Asked.{Asked}
use Rattle.status_page.specs.Request.{IsAsked}
use Rattle.status_server.specs.declared.visit.Visit.{Visit}
use Rattle.status_server.specs.declared.visit.Stage.TheVariants.{Reading, Sending}
use Rattle.status_server.specs.VisitSteps.{IsReadOn, IsSentOn, IsWhole}

-- Nothing was read yet. The visit has two seconds until the first byte, and three in all.
pub record IsNew (visit : Visit) : Type 0 where
  pub stage : visit.stage ≡ Reading
  pub head : visit.head.items ≡ []
  pub rest : visit.rest.items ≡ []
  pub silence : as_nanos visit.silence.time ≡ 2_000_000_000
  pub deadline : as_nanos visit.deadline.time ≡ 3_000_000_000

-- The last of some visits, as many as there may be.
abbrev pub newest : ℕ → List Visit → List Visit
newest most visits = drop (length visits - most) visits

-- At most one visit was begun, after the others. Of all the newest are kept, as many as there may
-- be.
pub record IsBegun (most : ℕ) (old new : List Visit) : Type 0 where
  pub more : List Visit
  pub one : length more ≤ 1
  pub begun : All IsNew more
  pub kept : new ≡ newest most (old ++ more)

-- The answer to what is asked is a text of these bytes. `bytes_of` gives the bytes of a text, and
-- `post` holds of the results of a call.
abbrev pub Gives : {T E : Type 0} → (T → List ℕ) → (Asked → Result T E → Type 0) → Asked → List ℕ → Type 0
Gives {T = T} bytes_of post asked bytes = (text : T) × post asked (Ok text) × (bytes_of text ≡ bytes)

-- An answer was taken to what the bytes of the peer ask for. It is the refusal of bytes without a
-- whole head only where the peer's input has ended, or where as many were read as are of a head.
pub record IsAnswered (Answers : Asked → List ℕ → Type 0) (old new : Visit) : Type 0 where
  pub asked : Asked
  pub asks : IsAsked new.head.items asked
  pub whole : IsWhole old.head.items new.head.items asked
  pub answers : Answers asked new.rest.items
  pub before : old.stage ≡ Reading
  pub after : new.stage ≡ Sending

-- A visit went on by a step: a piece of 1,024 bytes at most was read, and of the answer a front was
-- sent, or it was taken. It is never read again, and the times stay.
pub record WentOn (Answers : Asked → List ℕ → Type 0) (old new : Visit) : Type 0 where
  pub head : IsReadOn 1024 old.head.items new.head.items
  pub rest : IsSentOn old.rest.items new.rest.items ⊎ IsAnswered Answers old new
  pub stage : new.stage ≡ Reading → old.stage ≡ Reading
  pub silence : new.silence ≡ old.silence
  pub deadline : new.deadline ≡ old.deadline

-- Each visit went on or was ended, and those that went on are left in their order.
abbrev pub AllWentOn : (Asked → List ℕ → Type 0) → List Visit → List Visit → Type 0
AllWentOn Answers [] left = left ≡ []
AllWentOn Answers (visit ∷ visits) left =
    AllWentOn Answers visits left
    ⊎ ((next : Visit) × (more : List Visit) × (left ≡ next ∷ more) × WentOn Answers visit next × AllWentOn Answers visits more)
