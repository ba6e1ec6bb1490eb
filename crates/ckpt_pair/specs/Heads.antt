-- Heads as values, and the half that has the tail of a store.
use Rattle.std.specs.Prelude.{◌≡◌, Bool, true, false, Result, Ok, Err, Option}
use Rattle.std.specs.Option.{option_map}
use Rattle.store_layout.specs.declared.half.Half.{Half}
use Rattle.store_layout.specs.declared.half.Half.TheVariants.{First, Second}
use Rattle.store_layout.specs.GroupReading.{JournalRefusal}
use Rattle.store_layout.specs.Journal.{Reading}
use Rattle.store_layout.specs.Layout.{other}
use Rattle.store_layout.specs.Checkpoint as laws
use Rattle.store_layout.specs.CheckpointReading.{PairRefusal, SealedNewer}
use Rattle.store_layout.specs.Opening.{Opening}
use Rattle.store_layout.specs.OpeningReading.{BadPair, read_tail, behind_journal}
use Rattle.ckpt_pair.specs.declared.choice.Head.{Head}
use Rattle.ckpt_pair.specs.declared.choice.Heads.{Heads}

-- The numbers of a head, as contracts see them.
abbrev pub head_view : Head → laws.Head
head_view head = record { version = head.version; epoch = head.epoch; place = head.place }

-- The head of a half as contracts see it, where the half is open.
abbrev pub head_seen : Option Head → Option laws.Head
head_seen head = option_map head_view head

-- The head of a half, where the half is open.
abbrev pub head_at : Half → Heads → Option Head
head_at First heads = heads.first
head_at Second heads = heads.second

-- The half that has the tail, by whether the chosen half's journal is sealed, and whether the other
-- half is open: the chosen half, or after a seal the other half, which has to be closed.
abbrev pub half_with_tail : Half → Bool → Bool → Result Half PairRefusal
half_with_tail chosen false other_is_open = Ok chosen
half_with_tail chosen true true = Err SealedNewer
half_with_tail chosen true false = Ok (other chosen)

-- The opening, once the chosen half's journal is read, by the half that has the tail.
pub record IsByTail {Db C : Type 0} (opening : Opening Db C) (sealed other_is_open : Bool) (behind : Result (Reading C) JournalRefusal) : Type 0 where
  -- It is refused where the tail is.
  pub refused : (refusal : PairRefusal) → half_with_tail opening.chosen sealed other_is_open ≡ Err refusal
      → behind_journal sealed other_is_open opening behind ≡ Err (BadPair refusal)
  -- It is complete where the chosen half has the tail.
  pub whole : half_with_tail opening.chosen sealed other_is_open ≡ Ok opening.chosen → behind_journal sealed other_is_open opening behind ≡ Ok opening
  -- Otherwise it continues with the other half's journal.
  pub goes_on : half_with_tail opening.chosen sealed other_is_open ≡ Ok (other opening.chosen)
      → behind_journal sealed other_is_open opening behind ≡ read_tail opening behind

-- Each opening is as `IsByTail` says.
abbrev pub GoesOnWhereTailStands : Type 0 → Type 0 → Type 0
GoesOnWhereTailStands Db C =
    (opening : Opening Db C) (sealed other_is_open : Bool) (behind : Result (Reading C) JournalRefusal) → IsByTail opening sealed other_is_open behind
