-- The sector at which a journal ends, the places of its commands, and that its commands are
-- allowed.
use Rattle.std.proofs.Common.{ℕ, ◌+◌, ◌≤◌, List, [], ◌∷◌, ◌++◌, length, sym, ap, subst, arith, length-append}
use Rattle.std.specs.List.{AllByRecursion}
use Rattle.byte_lists.specs.Sectors.{whole_sectors}
use Rattle.store_layout.specs.Limits.{Limits}
use Rattle.store_layout.specs.CommandFormat.{CommandFormat, IsAllowed}
use Rattle.store_layout.specs.Group.{last_place, group_sectors}
use Rattle.store_layout.specs.Journal.{all_of, IsGroupChain}
use Rattle.store_layout.specs.JournalLaws.{StaysWithinBounds}
use Rattle.store_layout.proofs.Chains.{chain_room}

all_append : {X : Type 0} (P : X → Type 0) (xs ys : List X) → AllByRecursion P xs → AllByRecursion P ys → AllByRecursion P (xs ++ ys)
all_append P [] ys front behind = behind
all_append P (x ∷ xs) ys front behind = (front.0, all_append P xs ys front.1 behind)

module _ {C : Type 0} (format : CommandFormat C) (limits : Limits) where
  pub chain_seal_room : (bytes : List ℕ) (gate place : ℕ) (groups : List (List C)) (tail : ℕ) → IsGroupChain format limits bytes gate place groups tail → gate + 2 ≤ whole_sectors bytes
      → tail + 2 ≤ whole_sectors bytes
  chain_seal_room bytes gate place [] tail chain room = omega (arith, chain)
  chain_seal_room bytes gate place (commands ∷ more) tail chain room =
      let here = chain.1.room in
      chain_seal_room bytes (gate + 1 + group_sectors format commands) (place + length commands) more tail chain.2 (omega arith)

  pub chain_places : (bytes : List ℕ) (gate place : ℕ) (groups : List (List C)) (tail : ℕ) → IsGroupChain format limits bytes gate place groups tail → place ≤ last_place
      → place + length (all_of groups) ≤ last_place
  chain_places bytes gate place [] tail chain small = omega arith
  chain_places bytes gate place (commands ∷ more) tail chain small =
      omega (
        arith,
        chain_places bytes (gate + 1 + group_sectors format commands) (place + length commands) more tail chain.2 chain.1.group.can.last,
        length-append commands (all_of more),
      )

  pub chain_allowed : (bytes : List ℕ) (gate place : ℕ) (groups : List (List C)) (tail : ℕ) → IsGroupChain format limits bytes gate place groups tail
      → AllByRecursion (IsAllowed format limits) (all_of groups)
  chain_allowed bytes gate place [] tail chain = tt
  chain_allowed bytes gate place (commands ∷ more) tail chain =
      all_append (IsAllowed format limits) commands (all_of more) chain.1.group.can.allowed
      (chain_allowed bytes (gate + 1 + group_sectors format commands) (place + length commands) more tail chain.2)

pub stays_within_bounds : (C : Type 0) → StaysWithinBounds C
stays_within_bounds C format limits bytes start reading some is = record {
  tail = chain_room format limits bytes 0 start is.groups reading.tail is.chain some;
  seal = λ two. chain_seal_room format limits bytes 0 start is.groups reading.tail is.chain two;
  place = λ small. omega (arith, chain_places format limits bytes 0 start is.groups reading.tail is.chain small, is.place, ap length is.commands);
  allowed = subst (AllByRecursion (IsAllowed format limits)) (sym is.commands) (chain_allowed format limits bytes 0 start is.groups reading.tail is.chain);
}
