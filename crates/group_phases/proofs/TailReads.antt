-- The flusher's part from moment to moment, and what the tail's journal reads as in images.
use Rattle.std.proofs.Common.{◌≡◌, ◌⊎◌, inl, inr, ℕ, ◌+◌, ◌*◌, ◌<◌, ◌≤◌, Bool, true, false, [], ◌∷◌, ◌++◌, length, get_or, refl, sym, ◌∙◌, subst, arith, length-append}
use Rattle.byte_lists.specs.Content.{part}
use Rattle.byte_lists.specs.Sectors.{whole_sectors, sector_at, IsOpenGate, is_open_gate}
use Rattle.byte_lists.proofs.Contents.{get_or-part, same_part}
use Rattle.byte_lists.proofs.Padding.{true_open, false_open}
use Rattle.sector_dev.specs.Disk.{Moment}
use Rattle.store_layout.specs.declared.half.Half.{Half}
use Rattle.store_layout.specs.Limits.{Limits}
use Rattle.store_layout.specs.CommandFormat.{CommandFormat}
use Rattle.store_layout.specs.Group.{group_sectors}
use Rattle.store_layout.specs.Journal.{all_of, gate_behind}
use Rattle.store_layout.specs.Layout.{Geometry, journal_at, image_sectors, journal_of}
use Rattle.store_layout.proofs.Exports.{chain_agrees, chain_more, all_of_more, journal_long}
use Rattle.group_phases.specs.declared.phases.Flush.{Flush}
use Rattle.group_phases.specs.declared.phases.Flush.TheVariants.{Resting, Staged, Written, Stable, Opened, Doubtful, Durable, Following, Followed, DurableFollowed}
use Rattle.group_phases.specs.Range.{Untouched, as_moment}
use Rattle.group_phases.specs.StoreConfig.{AreCleanSectors}
use Rattle.group_phases.specs.Tail.{GroupOrSeal, Commands, Seal, written_sectors, Tail, CanBeLoad, without_load, with_load}
use Rattle.group_phases.specs.FlusherPart.{tail_bytes, HasGroups, HasClosedGate, HasOpenGate, HasLoad, IsLoadClean, AtPhase, FlusherPart, JournalReadsAs, MayRead}
use Rattle.group_phases.specs.StandingLaws.{ReadsByItsPart}
use Rattle.group_phases.proofs.Ranges.{clean_kept, has_untouched_parts, clean_stays_in_images}

-- sectors of a journal at two moments
module _ (geometry : Geometry) (half : Half) (old new : Moment) (room : image_sectors geometry ≤ whole_sectors old.reads) where
  pub same_long : length new.reads ≡ length old.reads → length (journal_of geometry half old.reads) ≡ length (journal_of geometry half new.reads)
  same_long same = journal_long geometry old.reads room half ∙ sym (journal_long geometry new.reads (omega (arith, same)) half)

  -- a byte of them
  pub journal_byte : (from n : ℕ) → from + n ≤ geometry.journal → Untouched (512 * (journal_at geometry half + from)) (512 * n) old new
      → (i : ℕ) → 512 * from ≤ i → i < 512 * from + 512 * n → get_or (journal_of geometry half old.reads) i 0 ≡ get_or (journal_of geometry half new.reads) i 0
  journal_byte from n inside same i low high =
      get_or-part (512 * journal_at geometry half) (512 * geometry.journal) old.reads i (omega arith)
      ∙ sym (same.bytes (512 * journal_at geometry half + i) (omega arith) (omega arith))
      ∙ sym (get_or-part (512 * journal_at geometry half) (512 * geometry.journal) new.reads i (omega arith))

  -- some of them
  pub sectors_same : (from n : ℕ) → from + n ≤ geometry.journal → Untouched (512 * (journal_at geometry half + from)) (512 * n) old new
      → part (512 * from) (512 * n) (journal_of geometry half old.reads) ≡ part (512 * from) (512 * n) (journal_of geometry half new.reads)
  sectors_same from n inside same =
      same_part (512 * from) (512 * n) (journal_of geometry half old.reads) (journal_of geometry half new.reads) (same_long same.size) (journal_byte from n inside same)

  -- fewer of them
  pub fewer : (from n at m : ℕ) → from ≤ at → at + m ≤ from + n → Untouched (512 * (journal_at geometry half + from)) (512 * n) old new
      → Untouched (512 * (journal_at geometry half + at)) (512 * m) old new
  fewer from n at m low high same =
      has_untouched_parts (512 * (journal_at geometry half + from)) (512 * n) (512 * (journal_at geometry half + at)) (512 * m) old new (omega arith) (omega arith) same

-- what is in flight has room
pub load_room : {C : Type 0} (format : CommandFormat C) (limits : Limits) (geometry : Geometry) (tail : Tail C) (load : GroupOrSeal C) → tail.gate + 2 ≤ geometry.journal
    → CanBeLoad format limits geometry tail load → tail.gate + 1 + written_sectors format load ≤ geometry.journal
load_room format limits geometry tail (Commands commands) room can = omega (arith, can.1)
load_room format limits geometry tail Seal room can = omega arith

module _ {C : Type 0} (format : CommandFormat C) (limits : Limits) (geometry : Geometry) (tail : Tail C) (old new : Moment) (room : image_sectors geometry ≤ whole_sectors old.reads) where
  -- n sectors of the tail's journal are untouched
  abbrev Same : ℕ → ℕ → Type 0
  Same from n = Untouched (512 * (journal_at geometry tail.half + from)) (512 * n) old new

  pub sectors_kept : (from n : ℕ) → Same from n → AreCleanSectors geometry tail.half from n old → AreCleanSectors geometry tail.half from n new
  sectors_kept from n same clean = clean_kept (512 * (journal_at geometry tail.half + from)) (512 * n) old new same clean

  pub groups_kept : Same 0 tail.gate → HasGroups format limits geometry tail old → HasGroups format limits geometry tail new
  groups_kept same has = record {
    chain = chain_agrees format limits (tail_bytes geometry tail old) (tail_bytes geometry tail new) 0 tail.start tail.groups tail.gate
        (same_long geometry tail.half old new room same.size)
        (λ i below. journal_byte geometry tail.half old new room 0 tail.gate (omega (arith, has.room)) same i (omega arith) (omega arith)) has.chain;
    clean = sectors_kept 0 tail.gate same has.clean;
    room = has.room;
  }

  gate_same : (gate : ℕ) → gate + 1 ≤ geometry.journal → Same gate 1 → sector_at gate (tail_bytes geometry tail old) ≡ sector_at gate (tail_bytes geometry tail new)
  gate_same gate inside same = sectors_same geometry tail.half old new room gate 1 inside same

  pub closed_kept : tail.gate + 1 ≤ geometry.journal → Same tail.gate 1 → HasClosedGate geometry tail old → HasClosedGate geometry tail new
  closed_kept inside same has = record {
    closed = λ opened. has.closed (subst IsOpenGate (sym (gate_same tail.gate inside same)) opened);
    clean = sectors_kept tail.gate 1 same has.clean;
  }

  pub open_kept : tail.gate + 1 ≤ geometry.journal → Same tail.gate 1 → HasOpenGate geometry tail old → HasOpenGate geometry tail new
  open_kept inside same opened = subst IsOpenGate (gate_same tail.gate inside same) opened

  pub load_kept : (load : GroupOrSeal C) → tail.gate + 1 + written_sectors format load ≤ geometry.journal → Same (tail.gate + 1) (written_sectors format load)
      → HasLoad format geometry tail load old → HasLoad format geometry tail load new
  load_kept (Commands commands) inside same has = record {
    spelled =
        sym (sectors_same geometry tail.half old new room (tail.gate + 1) (group_sectors format commands) (omega arith)
        (fewer geometry tail.half old new room (tail.gate + 1) (group_sectors format commands + 1) (tail.gate + 1) (group_sectors format commands) (omega arith) (omega arith) same))
        ∙ has.spelled;
    next = λ opened.
        has.next (subst IsOpenGate (sym (gate_same (gate_behind format tail.gate commands) (omega arith)
        (fewer geometry tail.half old new room (tail.gate + 1) (group_sectors format commands + 1) (gate_behind format tail.gate commands) 1 (omega arith) (omega arith) same))) opened);
  }
  load_kept Seal inside same has = record { spelled = sym (sectors_same geometry tail.half old new room (tail.gate + 1) 1 inside same) ∙ has.spelled; next = tt }

  -- where all of the tail's journal is untouched the whole part stays
  pub part_kept : (phase : Flush) (load : GroupOrSeal C) → Same 0 geometry.journal → FlusherPart phase format limits geometry tail load old
      → FlusherPart phase format limits geometry tail load new
  part_kept phase load all has = record {
    groups = groups_kept (fewer geometry tail.half old new room 0 geometry.journal 0 tail.gate (omega arith) (omega (arith, has.groups.room)) all) has.groups;
    can = has.can;
    facts = by_phase phase has.facts;
  }
    where
      inside : tail.gate + 1 ≤ geometry.journal
      inside = omega (arith, has.groups.room)

      behind_inside : tail.gate + 1 + written_sectors format load ≤ geometry.journal
      behind_inside = load_room format limits geometry tail load has.groups.room has.can

      gate : Same tail.gate 1
      gate = fewer geometry tail.half old new room 0 geometry.journal tail.gate 1 (omega arith) (omega arith) all

      behind : Same (tail.gate + 1) (written_sectors format load)
      behind = fewer geometry tail.half old new room 0 geometry.journal (tail.gate + 1) (written_sectors format load) (omega arith) (omega (arith, behind_inside)) all

      by_phase : (p : Flush) → AtPhase p format geometry tail load old → AtPhase p format geometry tail load new
      by_phase Resting facts = closed_kept inside gate facts
      by_phase Staged facts = closed_kept inside gate facts
      by_phase Written facts = (closed_kept inside gate facts.0, load_kept load behind_inside behind facts.1)
      by_phase Stable facts =
          (closed_kept inside gate facts.0, load_kept load behind_inside behind facts.1, sectors_kept (tail.gate + 1) (written_sectors format load) behind facts.2)
      by_phase Opened facts =
          (load_kept load behind_inside behind facts.0, sectors_kept (tail.gate + 1) (written_sectors format load) behind facts.1, open_kept inside gate facts.2)
      by_phase Doubtful facts = (load_kept load behind_inside behind facts.0, sectors_kept (tail.gate + 1) (written_sectors format load) behind facts.1)
      by_phase Durable facts =
          (load_kept load behind_inside behind facts.0, sectors_kept (tail.gate + 1) (written_sectors format load) behind facts.1, open_kept inside gate facts.2, sectors_kept tail.gate 1 gate facts.3)
      by_phase Following facts =
          (load_kept load behind_inside behind facts.0, sectors_kept (tail.gate + 1) (written_sectors format load) behind facts.1, open_kept inside gate facts.2)
      by_phase Followed facts =
          (load_kept load behind_inside behind facts.0, sectors_kept (tail.gate + 1) (written_sectors format load) behind facts.1, open_kept inside gate facts.2)
      by_phase DurableFollowed facts =
          (load_kept load behind_inside behind facts.0, sectors_kept (tail.gate + 1) (written_sectors format load) behind facts.1, open_kept inside gate facts.2, sectors_kept tail.gate 1 gate facts.3)

-- what the tail's journal reads as, at a moment
module _ {C : Type 0} (format : CommandFormat C) (limits : Limits) (geometry : Geometry) (tail : Tail C) (moment : Moment) (room : image_sectors geometry ≤ whole_sectors moment.reads)
    (has : HasGroups format limits geometry tail moment) where
  -- after a closed gate
  pub reads_without : (IsOpenGate (sector_at tail.gate (tail_bytes geometry tail moment)) → ⊥) → JournalReadsAs format limits geometry tail moment.reads (without_load tail)
  reads_without closed = record { groups = tail.groups; chain = has.chain; commands = refl; place = refl; ends = closed }

  sectors : whole_sectors (tail_bytes geometry tail moment) ≡ geometry.journal
  sectors = omega (arith, journal_long geometry moment.reads room tail.half)

  -- and after an open one
  pub reads_with : (load : GroupOrSeal C) → CanBeLoad format limits geometry tail load → HasLoad format geometry tail load moment → HasOpenGate geometry tail moment
      → JournalReadsAs format limits geometry tail moment.reads (with_load format tail load)
  reads_with (Commands commands) can behind opened = record {
    groups = tail.groups ++ commands ∷ [];
    chain = chain_more format limits (tail_bytes geometry tail moment) 0 tail.start tail.groups tail.gate commands has.chain opened
        (record { group = record { can = can.0; spelled = behind.spelled }; room = omega (arith, can.1, sectors) });
    commands = sym (all_of_more format limits tail.groups commands);
    place = omega (arith, length-append (all_of tail.groups) commands);
    ends = behind.next;
  }
  reads_with Seal can behind opened = record {
    groups = tail.groups;
    chain = has.chain;
    commands = refl;
    place = refl;
    ends = (opened, record { seal = record { last = can; spelled = behind.spelled }; room = omega (arith, has.room, sectors) });
  }

  -- whatever the gate is
  pub reads_either : (load : GroupOrSeal C) → CanBeLoad format limits geometry tail load → HasLoad format geometry tail load moment
      → JournalReadsAs format limits geometry tail moment.reads (without_load tail) ⊎ JournalReadsAs format limits geometry tail moment.reads (with_load format tail load)
  reads_either load can behind = by_gate (is_open_gate (sector_at tail.gate (tail_bytes geometry tail moment))) refl
    where
      by_gate : (b : Bool) → is_open_gate (sector_at tail.gate (tail_bytes geometry tail moment)) ≡ b
          → JournalReadsAs format limits geometry tail moment.reads (without_load tail) ⊎ JournalReadsAs format limits geometry tail moment.reads (with_load format tail load)
      by_gate false closed = inl (reads_without (false_open (sector_at tail.gate (tail_bytes geometry tail moment)) closed))
      by_gate true opened = inr (reads_with load can behind (true_open (sector_at tail.gate (tail_bytes geometry tail moment)) opened))

pub reads_by_its_part : (C : Type 0) → ReadsByItsPart C
reads_by_its_part C phase format limits geometry tail load moment title has image is = by_phase phase has.facts
  where
    im : Moment
    im = as_moment image

    room : image_sectors geometry ≤ whole_sectors moment.reads
    room = title.store.room

    room_im : image_sectors geometry ≤ whole_sectors image
    room_im = omega (arith, room, is.size)

    same : (from n : ℕ) → AreCleanSectors geometry tail.half from n moment → Untouched (512 * (journal_at geometry tail.half + from)) (512 * n) moment im
    same from n clean = clean_stays_in_images (512 * (journal_at geometry tail.half + from)) (512 * n) moment image clean is

    groups : HasGroups format limits geometry tail im
    groups = groups_kept format limits geometry tail moment im room (same 0 tail.gate has.groups.clean) has.groups

    inside : tail.gate + 1 ≤ geometry.journal
    inside = omega (arith, has.groups.room)

    before : HasClosedGate geometry tail moment → JournalReadsAs format limits geometry tail image (without_load tail)
    before gate =
        let still : HasClosedGate geometry tail im = closed_kept format limits geometry tail moment im room inside (same tail.gate 1 gate.clean) gate in
        reads_without format limits geometry tail im room_im groups still.closed

    behind : HasLoad format geometry tail load moment → IsLoadClean format geometry tail load moment → HasLoad format geometry tail load im
    behind loaded clean =
        load_kept format limits geometry tail moment im room load (load_room format limits geometry tail load has.groups.room has.can)
        (same (tail.gate + 1) (written_sectors format load) clean) loaded

    either : HasLoad format geometry tail load moment → IsLoadClean format geometry tail load moment
        → JournalReadsAs format limits geometry tail image (without_load tail) ⊎ JournalReadsAs format limits geometry tail image (with_load format tail load)
    either loaded clean = reads_either format limits geometry tail im room_im groups load has.can (behind loaded clean)

    by_phase : (p : Flush) → AtPhase p format geometry tail load moment → MayRead p format limits geometry tail load image
    by_phase Resting facts = before facts
    by_phase Staged facts = before facts
    by_phase Written facts = before facts.0
    by_phase Stable facts = before facts.0
    by_phase Opened facts = either facts.0 facts.1
    by_phase Doubtful facts = either facts.0 facts.1
    by_phase Durable facts =
        reads_with format limits geometry tail im room_im groups load has.can (behind facts.0 facts.1)
        (open_kept format limits geometry tail moment im room inside (same tail.gate 1 facts.3) facts.2)
    by_phase Following facts = either facts.0 facts.1
    by_phase Followed facts = either facts.0 facts.1
    by_phase DurableFollowed facts =
        reads_with format limits geometry tail im room_im groups load has.can (behind facts.0 facts.1)
        (open_kept format limits geometry tail moment im room inside (same tail.gate 1 facts.3) facts.2)
