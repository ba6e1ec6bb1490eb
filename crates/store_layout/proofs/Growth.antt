-- A journal after its tail's gate was written, after other bytes were written, and under larger
-- limits.
use Rattle.std.proofs.Common.{◌≡◌, ℕ, ◌+◌, ◌*◌, ◌<◌, ◌≤◌, Bool, true, false, List, [], ◌∷◌, ◌++◌, length, take, get_or, sym, ◌∙◌, ap, subst, arith, length-append, get_or-take}
use Rattle.std.specs.List.{AllByRecursion}
use Rattle.byte_lists.specs.Content.{part, overwrite}
use Rattle.byte_lists.specs.Sectors.{whole_sectors, sector_at, IsOpenGate}
use Rattle.byte_lists.proofs.Contents.{length-overwrite, overwrite_before, part_above, part_new}
use Rattle.store_layout.specs.Limits.{Limits, AreAsLarge}
use Rattle.store_layout.specs.CommandFormat.{CommandFormat, IsAllowed}
use Rattle.store_layout.specs.Group.{group_sectors, IsSeal}
use Rattle.store_layout.specs.Journal.{all_of, HasGroupAfterGate, IsGroupChain, JournalEndsAs, Reading, IsJournal, sectors_to, sectors_read, gate_behind, reading_with_group, reading_with_seal}
use Rattle.store_layout.specs.JournalLaws.{GoesByItsFront, GrowsByItsGate, IsSealedByItsGate, IsReadUnderLargerLimits}
use Rattle.store_layout.proofs.Chains.{AgreeBefore, sector_agrees, chain_agrees, chain_more, all_of_more}

-- contents with the same front agree in this front
pub agree_from_fronts : (xs ys : List ℕ) (sectors : ℕ) → take (512 * sectors) xs ≡ take (512 * sectors) ys → AgreeBefore xs ys sectors
agree_from_fronts xs ys sectors same i below =
    sym (get_or-take (512 * sectors) xs i 0 below) ∙ ap (λ (list : List ℕ). get_or list i 0) same ∙ get_or-take (512 * sectors) ys i 0 below

pub agree_fewer : (xs ys : List ℕ) (few many : ℕ) → few ≤ many → AgreeBefore xs ys many → AgreeBefore xs ys few
agree_fewer xs ys few many less agree i below = agree i (omega arith)

-- the end of a journal depends on its last gate, and on the seal after that gate
pub ends_agree : (xs ys : List ℕ) (gate place : ℕ) (sealed : Bool) → length xs ≡ length ys → AgreeBefore xs ys (sectors_to sealed gate) → JournalEndsAs sealed xs gate place → JournalEndsAs sealed ys gate place
ends_agree xs ys gate place false size agree closed = λ opened. closed (subst IsOpenGate (sym (sector_agrees xs ys (gate + 1) gate size agree (omega arith))) opened)
ends_agree xs ys gate place true size agree end =
    let room = end.1.room in (
      subst IsOpenGate (sector_agrees xs ys (gate + 2) gate size agree (omega arith)) end.0,
      record { seal = subst (IsSeal place) (sector_agrees xs ys (gate + 2) (gate + 1) size agree (omega arith)) end.1.seal; room = omega arith },
    )

pub before_ends : (sealed : Bool) (tail : ℕ) → tail ≤ sectors_to sealed tail
before_ends false tail = omega arith
before_ends true tail = omega arith

pub goes_by_its_front : (C : Type 0) → GoesByItsFront C
goes_by_its_front C format limits xs ys start reading size same is = record {
  groups = is.groups;
  chain = chain_agrees format limits xs ys 0 start is.groups reading.tail size (agree_fewer xs ys reading.tail (sectors_read reading) (before_ends reading.sealed reading.tail) agree) is.chain;
  commands = is.commands;
  place = is.place;
  ends = ends_agree xs ys reading.tail reading.place reading.sealed size agree is.ends;
}
  where
    agree : AgreeBefore xs ys (sectors_read reading)
    agree = agree_from_fronts xs ys (sectors_read reading) same

-- the gate of a sector is written
module _ (bytes gate : List ℕ) (tail : ℕ) (inside : tail < whole_sectors bytes) (size : length gate ≡ 512) where
  written : List ℕ
  written = overwrite (512 * tail) gate bytes

  fits : 512 * tail + length gate ≤ length bytes
  fits = omega arith

  pub written_long : length bytes ≡ length (overwrite (512 * tail) gate bytes)
  written_long = sym (length-overwrite (512 * tail) gate bytes fits)

  pub written_before : AgreeBefore bytes (overwrite (512 * tail) gate bytes) tail
  written_before i below = sym (overwrite_before (512 * tail) gate bytes i (omega (arith, fits)) below)

  pub written_gate : sector_at tail (overwrite (512 * tail) gate bytes) ≡ gate
  written_gate = ap (λ (n : ℕ). part (512 * tail) n (overwrite (512 * tail) gate bytes)) (sym size) ∙ part_new (512 * tail) gate bytes fits

  pub written_behind : (from n : ℕ) → tail < from → part (512 * from) n (overwrite (512 * tail) gate bytes) ≡ part (512 * from) n bytes
  written_behind from n above = part_above (512 * tail) gate bytes (512 * from) n fits (omega arith)

  pub written_open : IsOpenGate gate → IsOpenGate (sector_at tail (overwrite (512 * tail) gate bytes))
  written_open opened = subst IsOpenGate (sym written_gate) opened

  pub written_closed : (IsOpenGate gate → ⊥) → IsOpenGate (sector_at tail (overwrite (512 * tail) gate bytes)) → ⊥
  written_closed closed opened = closed (subst IsOpenGate written_gate opened)

-- a closed gate leaves the journal unchanged
closed_so : {C : Type 0} (format : CommandFormat C) (limits : Limits) (bytes : List ℕ) (start : ℕ) (reading : Reading C) (gate : List ℕ) → reading.tail < whole_sectors bytes
    → IsJournal format limits bytes start reading → reading.sealed ≡ false → length gate ≡ 512 → (IsOpenGate gate → ⊥) → IsJournal format limits (overwrite (512 * reading.tail) gate bytes) start reading
closed_so format limits bytes start reading gate inside is unsealed size closed = record {
  groups = is.groups;
  chain = chain_agrees format limits bytes (overwrite (512 * reading.tail) gate bytes) 0 start is.groups reading.tail (written_long bytes gate reading.tail inside size)
      (written_before bytes gate reading.tail inside size) is.chain;
  commands = is.commands;
  place = is.place;
  ends = subst (λ (b : Bool). JournalEndsAs b (overwrite (512 * reading.tail) gate bytes) reading.tail reading.place) (sym unsealed) (written_closed bytes gate reading.tail inside size closed);
}

pub grows_by_its_gate : (C : Type 0) → GrowsByItsGate C
grows_by_its_gate C format limits bytes start reading group gate is ready size = (grown, closed_so format limits bytes start reading gate inside is ready.unsealed size)
  where
    inside : reading.tail < whole_sectors bytes
    inside = omega (arith, ready.has.room)

    place : reading.place ≡ start + length (all_of is.groups)
    place = is.place ∙ ap (λ (list : List C). start + length list) is.commands

    has : HasGroupAfterGate format limits (overwrite (512 * reading.tail) gate bytes) reading.tail (start + length (all_of is.groups)) group
    has = subst (λ (n : ℕ). HasGroupAfterGate format limits (overwrite (512 * reading.tail) gate bytes) reading.tail n group) place (record {
      group = record {
        can = ready.has.group.can;
        spelled = written_behind bytes gate reading.tail inside size (reading.tail + 1) (512 * group_sectors format group) (omega arith) ∙ ready.has.group.spelled;
      };
      room = omega (arith, ready.has.room, written_long bytes gate reading.tail inside size);
    })

    next : ℕ
    next = gate_behind format reading.tail group

    still : sector_at next (overwrite (512 * reading.tail) gate bytes) ≡ sector_at next bytes
    still = written_behind bytes gate reading.tail inside size next 512 (omega arith)

    grown : IsOpenGate gate → IsJournal format limits (overwrite (512 * reading.tail) gate bytes) start (reading_with_group format reading group)
    grown opened = record {
      groups = is.groups ++ group ∷ [];
      chain = chain_more format limits (overwrite (512 * reading.tail) gate bytes) 0 start is.groups reading.tail group
          (chain_agrees format limits bytes (overwrite (512 * reading.tail) gate bytes) 0 start is.groups reading.tail (written_long bytes gate reading.tail inside size)
          (written_before bytes gate reading.tail inside size) is.chain)
          (written_open bytes gate reading.tail inside size opened) has;
      commands = ap (λ (list : List C). list ++ group) is.commands ∙ sym (all_of_more format limits is.groups group);
      place = omega (arith, is.place, length-append reading.commands group);
      ends = λ again. ready.closed (subst IsOpenGate still again);
    }

pub sealed_by_its_gate : (C : Type 0) → IsSealedByItsGate C
sealed_by_its_gate C format limits bytes start reading gate is unsealed has size = (sealed, closed_so format limits bytes start reading gate inside is unsealed size)
  where
    inside : reading.tail < whole_sectors bytes
    inside = omega (arith, has.room)

    sealed : IsOpenGate gate → IsJournal format limits (overwrite (512 * reading.tail) gate bytes) start (reading_with_seal reading)
    sealed opened = record {
      groups = is.groups;
      chain = chain_agrees format limits bytes (overwrite (512 * reading.tail) gate bytes) 0 start is.groups reading.tail (written_long bytes gate reading.tail inside size)
          (written_before bytes gate reading.tail inside size) is.chain;
      commands = is.commands;
      place = is.place;
      ends = (
        written_open bytes gate reading.tail inside size opened,
        record {
          seal = subst (IsSeal reading.place) (sym (written_behind bytes gate reading.tail inside size (reading.tail + 1) 512 (omega arith))) has.seal;
          room = omega (arith, has.room, written_long bytes gate reading.tail inside size);
        },
      );
    }

-- larger limits
module _ {C : Type 0} (format : CommandFormat C) (small large : Limits) (larger : AreAsLarge small large) where
  allowed_larger : (commands : List C) → AllByRecursion (IsAllowed format small) commands → AllByRecursion (IsAllowed format large) commands
  allowed_larger [] all = all
  allowed_larger (command ∷ more) all = (format.grows small large (format.encoding command) command larger all.0, allowed_larger more all.1)

  pub group_larger : (bytes : List ℕ) (gate place : ℕ) (commands : List C) → HasGroupAfterGate format small bytes gate place commands → HasGroupAfterGate format large bytes gate place commands
  group_larger bytes gate place commands has =
      let can = has.group.can in
      record {
        group = record {
          can = record { some = can.some; most = omega (arith, can.most, larger.most); short = can.short; last = can.last; allowed = allowed_larger commands can.allowed };
          spelled = has.group.spelled;
        };
        room = has.room;
      }

  pub chain_larger : (bytes : List ℕ) (gate place : ℕ) (groups : List (List C)) (tail : ℕ) → IsGroupChain format small bytes gate place groups tail → IsGroupChain format large bytes gate place groups tail
  chain_larger bytes gate place [] tail chain = chain
  chain_larger bytes gate place (commands ∷ more) tail chain =
      (chain.0, group_larger bytes gate place commands chain.1, chain_larger bytes (gate + 1 + group_sectors format commands) (place + length commands) more tail chain.2)

pub read_under_larger_limits : (C : Type 0) → IsReadUnderLargerLimits C
read_under_larger_limits C format small large bytes start reading larger is = record {
  groups = is.groups;
  chain = chain_larger format small large larger bytes 0 start is.groups reading.tail is.chain;
  commands = is.commands;
  place = is.place;
  ends = is.ends;
}
