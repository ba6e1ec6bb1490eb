-- What the flusher's calls make of its part.
use Rattle.std.proofs.Common.{◌≡◌, inl, inr, ℕ, ◌+◌, ◌*◌, ◌≤◌, List, [], length, take, get_or, sym, ◌∙◌, ap, subst, arith, length-append, Result, Ok, Err}
use Rattle.std.proofs.lemmas.Bool.{cases_lt}
use Rattle.std.proofs.lemmas.List.{take_at, take_all, drop_at, length-replicate, get_or-replicate}
use Rattle.byte_lists.specs.Content.{part}
use Rattle.byte_lists.specs.Sectors.{whole_sectors, sector_at, IsOpenGate, closed_gate, open_gate}
use Rattle.byte_lists.proofs.Padding.{length-padded}
use Rattle.sector_dev.specs.Disk.{History, Disk, IsHonest, reads_of}
use Rattle.sector_dev.specs.Image.{IsCleanPart}
use Rattle.sector_dev.specs.Calls.{WriteCall, SyncCall}
use Rattle.sector_dev.proofs.Results.{success}
use Rattle.sector_dev.proofs.Images.{clean_part_none}
use Rattle.sector_dev.proofs.Parts.{history_synced}
use Rattle.store_layout.specs.declared.half.Half.{Half}
use Rattle.store_layout.specs.Limits.{Limits}
use Rattle.store_layout.specs.CommandFormat.{CommandFormat}
use Rattle.store_layout.specs.Group.{with_header, group_encoding, seal_encoding, group_sectors}
use Rattle.store_layout.specs.Journal.{all_of, gate_behind}
use Rattle.store_layout.specs.Layout.{Geometry, journal_at, image_sectors, journal_of}
use Rattle.store_layout.proofs.Exports.{length-group_encoding, half_inside, all_of_more, chain_more, journal_long}
use Rattle.group_phases.specs.declared.phases.Flush.TheVariants.{Staged, Written, Stable, Opened, Doubtful, Durable}
use Rattle.group_phases.specs.Range.{Untouched, AreRangesApart}
use Rattle.group_phases.specs.StoreConfig.{HasTitle, AreCleanSectors}
use Rattle.group_phases.specs.Tail.{GroupOrSeal, Commands, Seal, load_bytes, written_sectors, Tail, tail_place, CanBeLoad}
use Rattle.group_phases.specs.FlusherPart.{tail_bytes, HasGroups, HasClosedGate, HasLoad, FlusherPart}
use Rattle.group_phases.specs.FlusherSteps.{by_result, load_at, tail_gate_at, WritesInJournal, WritesLoad, OpensTailGate, SyncsLoad, SyncsTailGate, PublishesGroup}
use Rattle.group_phases.proofs.Ranges.{part_of_part}
use Rattle.group_phases.proofs.Calls.{writes_leave_what_is_beside, writes_are_read, syncs_leave_all}
use Rattle.group_phases.proofs.TailReads.{load_room, sectors_kept, groups_kept, closed_kept, open_kept, load_kept}

-- how many bytes are written
pub length-seal : (place : ℕ) → length (seal_encoding place) ≡ 512
length-seal place = length-padded (with_header 2 0 0 place []) ∙ omega arith

pub length-load : {C : Type 0} (format : CommandFormat C) (place : ℕ) (load : GroupOrSeal C) → length (load_bytes format place load) ≡ 512 * written_sectors format load
length-load {C} format place (Commands commands) =
    length-append (group_encoding format place commands) closed_gate
    ∙ omega (arith, length-group_encoding C format place commands, length-replicate {A = ℕ} 512 0)
length-load format place Seal = length-seal place

pub length-open_gate : length open_gate ≡ 512
length-open_gate = omega (arith, length-replicate {A = ℕ} 511 0)

-- a closed gate is not open
pub closed_gate_closed : IsOpenGate closed_gate → ⊥
closed_gate_closed opened = omega (arith, get_or-replicate {A = ℕ} 512 0 0 0 (omega arith), opened)

pub writes_in_journal : (C : Type 0) → WritesInJournal C
writes_in_journal C format limits geometry tail load moment has can = (
  record { from = omega arith; to = omega (arith, length-load format (tail_place tail) load, load_room format limits geometry tail load has.room can) },
  record { from = omega arith; to = omega (arith, length-open_gate, has.room) },
)

-- a part of what was written
pub written_part : {T : Type 0} (E : Type 0) (value : T) (sector : ℕ) (bytes : List ℕ) (old new : Disk) → WriteCall sector bytes (success E value) old new → IsHonest old
    → 512 * sector + length bytes ≤ length (reads_of old) → (from n : ℕ) → from + n ≤ length bytes → part (512 * sector + from) n (reads_of new) ≡ part from n bytes
written_part {T} E value sector bytes old new call honest inside from n within =
    sym (part_of_part (512 * sector) (length bytes) from n (reads_of new) within) ∙ ap (part from n) (writes_are_read T E value sector bytes old new call honest inside)

-- a part of a journal
pub journal_part : (geometry : Geometry) (half : Half) (from n : ℕ) (content : List ℕ) → from + n ≤ 512 * geometry.journal
    → part from n (journal_of geometry half content) ≡ part (512 * journal_at geometry half + from) n content
journal_part geometry half from n content inside = part_of_part (512 * journal_at geometry half) (512 * geometry.journal) from n content inside

-- all is clean after a sync
pub synced_clean : {T : Type 0} (E : Type 0) (value : T) (old new : Disk) → SyncCall (success E value) old new → IsHonest old → (at n : ℕ) → IsCleanPart new.history.now.dirty at n
synced_clean E value old new call honest at n = subst (λ (h : History). IsCleanPart h.now.dirty at n) (sym (history_synced E value old new call honest)) (clean_part_none at n)

-- a write in the tail's journal leaves what is before it
module _ {T E C : Type 0} (format : CommandFormat C) (limits : Limits) (geometry : Geometry) (tail : Tail C) (load : GroupOrSeal C) (result : Result T E) (old new : Disk)
    (title : HasTitle geometry old.history.now) (groups : HasGroups format limits geometry tail old.history.now) (can : CanBeLoad format limits geometry tail load) (honest : IsHonest old) where
  room : image_sectors geometry ≤ whole_sectors (reads_of old)
  room = title.store.room

  inside : 512 * (journal_at geometry tail.half + geometry.journal) ≤ length (reads_of old)
  inside = omega (arith, half_inside geometry tail.half, title.store.room)

  load_inside : tail.gate + 1 + written_sectors format load ≤ geometry.journal
  load_inside = load_room format limits geometry tail load groups.room can

  module _ (call : WriteCall (load_at geometry tail) (load_bytes format (tail_place tail) load) result old new) where
    load_leaves : (at n : ℕ) → AreRangesApart (512 * load_at geometry tail) (length (load_bytes format (tail_place tail) load)) at n → Untouched at n old.history.now new.history.now
    load_leaves at n apart =
        writes_leave_what_is_beside T E (load_at geometry tail) (load_bytes format (tail_place tail) load) result old new at n call honest
        (omega (arith, inside, load_inside, length-load format (tail_place tail) load)) apart

    -- whatever lands after the gate
    pub load_write : HasClosedGate geometry tail old.history.now → FlusherPart Staged format limits geometry tail load new.history.now
    load_write closed = record {
      groups = groups_kept format limits geometry tail old.history.now new.history.now room
          (load_leaves (512 * (journal_at geometry tail.half + 0)) (512 * tail.gate) (inr (omega arith))) groups;
      can = can;
      facts = closed_kept format limits geometry tail old.history.now new.history.now room (omega (arith, groups.room))
          (load_leaves (512 * (journal_at geometry tail.half + tail.gate)) (512 * 1) (inr (omega arith))) closed;
    }

  module _ (call : WriteCall (tail_gate_at geometry tail) open_gate result old new) where
    gate_leaves : (at n : ℕ) → AreRangesApart (512 * tail_gate_at geometry tail) (length open_gate) at n → Untouched at n old.history.now new.history.now
    gate_leaves at n apart =
        writes_leave_what_is_beside T E (tail_gate_at geometry tail) open_gate result old new at n call honest (omega (arith, inside, load_inside, length-open_gate)) apart

    -- whatever lands at the gate
    pub gate_write : HasLoad format geometry tail load old.history.now → AreCleanSectors geometry tail.half (tail.gate + 1) (written_sectors format load) old.history.now
        → FlusherPart Doubtful format limits geometry tail load new.history.now
    gate_write behind clean =
        let same = gate_leaves (512 * (journal_at geometry tail.half + (tail.gate + 1))) (512 * written_sectors format load) (inl (omega (arith, length-open_gate))) in
        record {
          groups = groups_kept format limits geometry tail old.history.now new.history.now room
              (gate_leaves (512 * (journal_at geometry tail.half + 0)) (512 * tail.gate) (inr (omega arith))) groups;
          can = can;
          facts = (
            load_kept format limits geometry tail old.history.now new.history.now room load load_inside same behind,
            sectors_kept format limits geometry tail old.history.now new.history.now room (tail.gate + 1) (written_sectors format load) same clean,
          );
        }

-- a group that was written is there
pub group_there : {T C : Type 0} (E : Type 0) (value : T) (format : CommandFormat C) (limits : Limits) (geometry : Geometry) (tail : Tail C) (commands : List C) (old new : Disk)
    → WriteCall (load_at geometry tail) (load_bytes format (tail_place tail) (Commands commands)) (success E value) old new → IsHonest old → HasTitle geometry old.history.now
    → CanBeLoad format limits geometry tail (Commands commands) → HasLoad format geometry tail (Commands commands) new.history.now
group_there {T} {C} E value format limits geometry tail commands old new call honest title can = record {
  spelled = journal_part geometry tail.half (512 * (tail.gate + 1)) (512 * sectors) (reads_of new) (omega (arith, can.1))
      ∙ ap (λ (at : ℕ). part at (512 * sectors) (reads_of new)) first
      ∙ written_part E value (load_at geometry tail) bytes old new call honest fits 0 (512 * sectors) (omega (arith, long))
      ∙ take_at encoding closed_gate (512 * sectors) size;
  next = λ opened. closed_gate_closed (subst IsOpenGate next_is opened);
}
  where
    encoding : List ℕ
    encoding = group_encoding format (tail_place tail) commands

    bytes : List ℕ
    bytes = load_bytes format (tail_place tail) (Commands commands)

    sectors : ℕ
    sectors = group_sectors format commands

    size : length encoding ≡ 512 * sectors
    size = length-group_encoding C format (tail_place tail) commands

    long : length bytes ≡ 512 * sectors + 512
    long = length-load format (tail_place tail) (Commands commands) ∙ omega arith

    fits : 512 * load_at geometry tail + length bytes ≤ length (reads_of old)
    fits = omega (arith, half_inside geometry tail.half, title.store.room, can.1, long)

    first : 512 * journal_at geometry tail.half + 512 * (tail.gate + 1) ≡ 512 * load_at geometry tail + 0
    first = omega arith

    second : 512 * journal_at geometry tail.half + 512 * gate_behind format tail.gate commands ≡ 512 * load_at geometry tail + 512 * sectors
    second = omega arith

    next_is : sector_at (gate_behind format tail.gate commands) (tail_bytes geometry tail new.history.now) ≡ closed_gate
    next_is =
        journal_part geometry tail.half (512 * gate_behind format tail.gate commands) 512 (reads_of new) (omega (arith, can.1))
        ∙ ap (λ (at : ℕ). part at 512 (reads_of new)) second
        ∙ written_part E value (load_at geometry tail) bytes old new call honest fits (512 * sectors) 512 (omega (arith, long))
        ∙ ap (take 512) (drop_at encoding closed_gate (512 * sectors) size) ∙ take_all 512 closed_gate (omega (arith, length-replicate {A = ℕ} 512 0))

-- what was written is there
load_there : {T C : Type 0} (E : Type 0) (value : T) (format : CommandFormat C) (limits : Limits) (geometry : Geometry) (tail : Tail C) (load : GroupOrSeal C) (old new : Disk)
    → WriteCall (load_at geometry tail) (load_bytes format (tail_place tail) load) (success E value) old new → IsHonest old → HasTitle geometry old.history.now
    → HasGroups format limits geometry tail old.history.now → CanBeLoad format limits geometry tail load → HasLoad format geometry tail load new.history.now
load_there E value format limits geometry tail (Commands commands) old new call honest title groups can =
    group_there E value format limits geometry tail commands old new call honest title can
load_there {T} {C} E value format limits geometry tail Seal old new call honest title groups can = record {
  spelled = journal_part geometry tail.half (512 * (tail.gate + 1)) (512 * 1) (reads_of new) (omega (arith, groups.room))
      ∙ ap (λ (at : ℕ). part at (512 * 1) (reads_of new)) first
      ∙ written_part E value (load_at geometry tail) (seal_encoding (tail_place tail)) old new call honest fits 0 (512 * 1) (omega (arith, size))
      ∙ take_all (512 * 1) (seal_encoding (tail_place tail)) (omega (arith, size));
  next = tt;
}
  where
    size : length (seal_encoding (tail_place tail)) ≡ 512
    size = length-seal (tail_place tail)

    fits : 512 * load_at geometry tail + length (seal_encoding (tail_place tail)) ≤ length (reads_of old)
    fits = omega (arith, half_inside geometry tail.half, title.store.room, groups.room, size)

    first : 512 * journal_at geometry tail.half + 512 * (tail.gate + 1) ≡ 512 * load_at geometry tail + 0
    first = omega arith

pub writes_load : (T E C : Type 0) → WritesLoad T E C
writes_load T E C format limits geometry tail load (Ok value) old new call honest title has =
    let staged = load_write format limits geometry tail load (success E value) old new title has.groups has.can honest call has.facts in
    record {
      groups = staged.groups;
      can = has.can;
      facts = (staged.facts, load_there E value format limits geometry tail load old new call honest title has.groups has.can);
    }
writes_load T E C format limits geometry tail load (Err error) old new call honest title has =
    load_write format limits geometry tail load (Err error) old new title has.groups has.can honest call has.facts

pub syncs_load : (T E C : Type 0) → SyncsLoad T E C
syncs_load T E C format limits geometry tail load result old new call honest title has = by_answer result call
  where
    groups : (r : Result T E) → SyncCall r old new → HasGroups format limits geometry tail new.history.now
    groups r sync = groups_kept format limits geometry tail old.history.now new.history.now title.store.room
        (syncs_leave_all T E r old new (512 * (journal_at geometry tail.half + 0)) (512 * tail.gate) sync honest) has.groups

    closed : (r : Result T E) → SyncCall r old new → HasClosedGate geometry tail new.history.now
    closed r sync = closed_kept format limits geometry tail old.history.now new.history.now title.store.room (omega (arith, has.groups.room))
        (syncs_leave_all T E r old new (512 * (journal_at geometry tail.half + tail.gate)) (512 * 1) sync honest) has.facts.0

    behind : (r : Result T E) → SyncCall r old new → HasLoad format geometry tail load new.history.now
    behind r sync = load_kept format limits geometry tail old.history.now new.history.now title.store.room load (load_room format limits geometry tail load has.groups.room has.can)
        (syncs_leave_all T E r old new (512 * (journal_at geometry tail.half + (tail.gate + 1))) (512 * written_sectors format load) sync honest) has.facts.1

    by_answer : (r : Result T E) → SyncCall r old new → FlusherPart (by_result Stable Written r) format limits geometry tail load new.history.now
    by_answer (Ok value) sync = record {
      groups = groups (Ok value) sync;
      can = has.can;
      facts = (
        closed (Ok value) sync,
        behind (Ok value) sync,
        synced_clean E value old new sync honest (512 * (journal_at geometry tail.half + (tail.gate + 1))) (512 * written_sectors format load),
      );
    }
    by_answer (Err error) sync = record { groups = groups (Err error) sync; can = has.can; facts = (closed (Err error) sync, behind (Err error) sync) }

pub opens_tail_gate : (T E C : Type 0) → OpensTailGate T E C
opens_tail_gate T E C format limits geometry tail load (Ok value) old new call honest title has =
    let doubtful = gate_write format limits geometry tail load (success E value) old new title has.groups has.can honest call has.facts.1 has.facts.2 in
    record { groups = doubtful.groups; can = has.can; facts = (doubtful.facts.0, doubtful.facts.1, opened) }
  where
    first : 512 * journal_at geometry tail.half + 512 * tail.gate ≡ 512 * tail_gate_at geometry tail + 0
    first = omega arith

    gate_is : sector_at tail.gate (tail_bytes geometry tail new.history.now) ≡ open_gate
    gate_is =
        journal_part geometry tail.half (512 * tail.gate) 512 (reads_of new) (omega (arith, has.groups.room))
        ∙ ap (λ (at : ℕ). part at 512 (reads_of new)) first
        ∙ written_part E value (tail_gate_at geometry tail) open_gate old new call honest
        (omega (arith, half_inside geometry tail.half, title.store.room, has.groups.room, length-open_gate)) 0 512 (omega (arith, length-open_gate))
        ∙ take_all 512 open_gate (omega (arith, length-open_gate))

    opened : IsOpenGate (sector_at tail.gate (tail_bytes geometry tail new.history.now))
    opened = ap (λ (list : List ℕ). get_or list 0 0) gate_is
opens_tail_gate T E C format limits geometry tail load (Err error) old new call honest title has =
    gate_write format limits geometry tail load (Err error) old new title has.groups has.can honest call has.facts.1 has.facts.2

pub syncs_tail_gate : (T E C : Type 0) → SyncsTailGate T E C
syncs_tail_gate T E C format limits geometry tail load result old new call honest title has = by_answer result call
  where
    groups : (r : Result T E) → SyncCall r old new → HasGroups format limits geometry tail new.history.now
    groups r sync = groups_kept format limits geometry tail old.history.now new.history.now title.store.room
        (syncs_leave_all T E r old new (512 * (journal_at geometry tail.half + 0)) (512 * tail.gate) sync honest) has.groups

    behind : (r : Result T E) → SyncCall r old new → HasLoad format geometry tail load new.history.now
    behind r sync = load_kept format limits geometry tail old.history.now new.history.now title.store.room load (load_room format limits geometry tail load has.groups.room has.can)
        (syncs_leave_all T E r old new (512 * (journal_at geometry tail.half + (tail.gate + 1))) (512 * written_sectors format load) sync honest) has.facts.0

    clean : (r : Result T E) → SyncCall r old new → AreCleanSectors geometry tail.half (tail.gate + 1) (written_sectors format load) new.history.now
    clean r sync = sectors_kept format limits geometry tail old.history.now new.history.now title.store.room (tail.gate + 1) (written_sectors format load)
        (syncs_leave_all T E r old new (512 * (journal_at geometry tail.half + (tail.gate + 1))) (512 * written_sectors format load) sync honest) has.facts.1

    opened : (r : Result T E) → SyncCall r old new → IsOpenGate (sector_at tail.gate (tail_bytes geometry tail new.history.now))
    opened r sync = open_kept format limits geometry tail old.history.now new.history.now title.store.room (omega (arith, has.groups.room))
        (syncs_leave_all T E r old new (512 * (journal_at geometry tail.half + tail.gate)) (512 * 1) sync honest) has.facts.2

    by_answer : (r : Result T E) → SyncCall r old new → FlusherPart (by_result Durable Opened r) format limits geometry tail load new.history.now
    by_answer (Ok value) sync = record {
      groups = groups (Ok value) sync;
      can = has.can;
      facts = (
        behind (Ok value) sync,
        clean (Ok value) sync,
        opened (Ok value) sync,
        synced_clean E value old new sync honest (512 * (journal_at geometry tail.half + tail.gate)) (512 * 1),
      );
    }
    by_answer (Err error) sync = record { groups = groups (Err error) sync; can = has.can; facts = (behind (Err error) sync, clean (Err error) sync, opened (Err error) sync) }

pub publishes_group : (C : Type 0) → PublishesGroup C
publishes_group C format limits geometry tail commands moment title has = record {
  groups = record {
    chain = chain_more format limits (tail_bytes geometry tail moment) 0 tail.start tail.groups tail.gate commands has.groups.chain has.facts.2
        (record { group = record { can = has.can.0; spelled = has.facts.0.spelled }; room = omega (arith, has.can.1, sectors) });
    clean = λ i from to. elim (cases_lt i (512 * (journal_at geometry tail.half + tail.gate))) [
      | inl before ↦ has.groups.clean i (omega arith) (omega arith)
      | inr after ↦ elim (cases_lt i (512 * (journal_at geometry tail.half + tail.gate) + 512)) [
        | inl gate ↦ has.facts.3 i (omega arith) (omega arith)
        | inr behind ↦ has.facts.1 i (omega arith) (omega arith)
      ]
    ];
    room = omega (arith, has.can.1);
  };
  can = omega (arith, has.can.0.last, ap length (all_of_more format limits tail.groups commands), length-append (all_of tail.groups) commands);
  facts = record { closed = has.facts.0.next; clean = λ i from to. has.facts.1 i (omega arith) (omega arith) };
}
  where
    sectors : whole_sectors (tail_bytes geometry tail moment) ≡ geometry.journal
    sectors = omega (arith, journal_long geometry moment.reads title.store.room tail.half)
