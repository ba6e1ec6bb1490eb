-- A journal after a group or a seal was written after its tail's gate.
use Rattle.std.proofs.Common.{◌≡◌, ℕ, ◌+◌, ◌-◌, ◌*◌, ◌≤◌, Bool, true, false, cond, leb, List, ◌++◌, length, take, refl, sym, ◌∙◌, ap, subst, arith, length-append, le-leb, leb-true}
use Rattle.std.proofs.lemmas.List.{take_at, take_all, drop_at}
use Rattle.byte_lists.specs.Content.{part, overwrite}
use Rattle.byte_lists.specs.Sectors.{whole_sectors, sector_at, IsOpenGate}
use Rattle.byte_lists.proofs.Contents.{length-overwrite, overwrite_before, part_within, part_new}
use Rattle.byte_lists.proofs.Padding.{length-padded}
use Rattle.store_layout.specs.Limits.{Limits, limits_of, AreAsLarge}
use Rattle.store_layout.specs.Group.{records_of, with_header, group_encoding, seal_encoding, group_sectors, JournalHasRoom}
use Rattle.store_layout.specs.Journal.{Reading, sectors_to, sectors_read, gate_behind}
use Rattle.store_layout.specs.JournalLaws.{IsKeptByWritesBehind, IsMadeReady, IsMadeReadyForSeal, FillsSectors}
use Rattle.store_layout.proofs.Chains.{AgreeBefore, chain_agrees}
use Rattle.store_layout.proofs.Growth.{ends_agree, agree_fewer, before_ends}

pub length-group_encoding : (C : Type 0) → FillsSectors C
length-group_encoding C format place commands = length-padded (with_header 1 (length commands) (length (records_of format commands)) place (records_of format commands)) ∙ omega arith

pub kept_by_writes_behind : (C : Type 0) → IsKeptByWritesBehind C
kept_by_writes_behind C format limits bytes start reading at behind is above inside = record {
  groups = is.groups;
  chain = chain_agrees format limits bytes written 0 start is.groups reading.tail size
      (agree_fewer bytes written reading.tail (sectors_read reading) (before_ends reading.sealed reading.tail) agree) is.chain;
  commands = is.commands;
  place = is.place;
  ends = ends_agree bytes written reading.tail reading.place reading.sealed size agree is.ends;
}
  where
    written : List ℕ
    written = overwrite at behind bytes

    size : length bytes ≡ length written
    size = sym (length-overwrite at behind bytes inside)

    agree : AgreeBefore bytes written (sectors_read reading)
    agree i below = sym (overwrite_before at behind bytes i (omega arith) (omega (arith, above)))

-- the sectors of an unsealed journal are those up to its tail
unsealed_sectors : {C : Type 0} (reading : Reading C) → reading.sealed ≡ false → sectors_read reading ≡ reading.tail + 1
unsealed_sectors reading unsealed = ap (λ (sealed : Bool). sectors_to sealed reading.tail) unsealed

pub made_ready : (C : Type 0) → IsMadeReady C
made_ready C format limits bytes start reading group gate is unsealed can room size closed =
    (kept_by_writes_behind C format limits bytes start reading at both is (omega (arith, unsealed_sectors reading unsealed)) inside, record { unsealed = unsealed; has = record { group = record { can = can; spelled = spelled }; room = room_still }; closed = still })
  where
    encoding : List ℕ
    encoding = group_encoding format reading.place group

    both : List ℕ
    both = encoding ++ gate

    sectors : ℕ
    sectors = group_sectors format group

    at : ℕ
    at = 512 * (reading.tail + 1)

    written : List ℕ
    written = overwrite at both bytes

    long : length encoding ≡ 512 * sectors
    long = length-group_encoding C format reading.place group

    all : length both ≡ 512 * sectors + 512
    all = omega (arith, length-append encoding gate, long)

    inside : at + length both ≤ length bytes
    inside = omega (arith, all, room)

    room_still : JournalHasRoom reading.tail sectors (whole_sectors written)
    room_still = omega (arith, room, length-overwrite at both bytes inside)

    here : at - at ≡ 0
    here = omega arith

    spelled : part at (512 * sectors) written ≡ encoding
    spelled =
        part_within at both bytes at (512 * sectors) inside (omega arith) (omega (arith, all))
        ∙ ap (λ (n : ℕ). part n (512 * sectors) both) here ∙ take_at encoding gate (512 * sectors) long

    next : ℕ
    next = gate_behind format reading.tail group

    there : 512 * next - at ≡ 512 * sectors
    there = omega arith

    gate_is : sector_at next written ≡ gate
    gate_is =
        part_within at both bytes (512 * next) 512 inside (omega arith) (omega (arith, all))
        ∙ ap (λ (n : ℕ). part n 512 both) there ∙ ap (take 512) (drop_at encoding gate (512 * sectors) long) ∙ take_all 512 gate (omega (arith, size))

    still : IsOpenGate (sector_at next written) → ⊥
    still opened = closed (subst IsOpenGate gate_is opened)

pub made_ready_for_seal : (C : Type 0) → IsMadeReadyForSeal C
made_ready_for_seal C format limits bytes start reading is unsealed last room = (
  kept_by_writes_behind C format limits bytes start reading at (seal_encoding reading.place) is (omega (arith, unsealed_sectors reading unsealed)) inside,
  record { seal = record { last = last; spelled = part_new at (seal_encoding reading.place) bytes inside }; room = omega (arith, room, length-overwrite at (seal_encoding reading.place) bytes inside) },
)
  where
    at : ℕ
    at = 512 * (reading.tail + 1)

    inside : at + length (seal_encoding reading.place) ≤ length bytes
    inside = omega (arith, room)

-- versions
by_tests : (earlier later : Bool) → (later ≡ true → earlier ≡ true)
    → let of : Bool → Limits = λ b. cond b (record { most = 8; removals = false }) (record { most = 32; removals = true }) in AreAsLarge (of earlier) (of later)
by_tests true true before = record { most = omega arith; removals = λ is. is }
by_tests true false before = record { most = omega arith; removals = λ is. refl }
by_tests false true before = let never = before refl in cc
by_tests false false before = record { most = omega arith; removals = λ is. is }

pub later_allow_more : (earlier later : ℕ) → earlier ≤ later → AreAsLarge (limits_of earlier) (limits_of later)
later_allow_more earlier later before = by_tests (leb earlier 1) (leb later 1) (λ is. le-leb earlier 1 (omega (arith, leb-true later 1 is)))
