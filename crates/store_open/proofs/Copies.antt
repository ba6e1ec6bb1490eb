-- The contents while a store is made with rows: an image does not open before the first half's gate
-- is open, and opens to the rows from then on.
use Rattle.std.proofs.Common.{◌≡◌, inl, inr, ℕ, ◌+◌, ◌-◌, ◌*◌, ◌<◌, ◌≤◌, List, length, take, get_or, replicate, None, refl, sym, ◌∙◌, ap, subst, arith}
use Rattle.std.proofs.lemmas.Bool.{cases_eq, cases_lt}
use Rattle.std.proofs.lemmas.List.{length-replicate, get_or-replicate}
use Rattle.byte_lists.specs.Content.{overwrite}
use Rattle.byte_lists.specs.Sectors.{sector_at, IsOpenGate, whole_sectors}
use Rattle.byte_lists.proofs.Contents.{length-overwrite, overwrite_before, overwrite_within, overwrite_behind, get_or-part, part_below, part_above}
use Rattle.row_map.specs.Database.{RowView}
use Rattle.path_db.specs.declared.command.Command.{Command}
use Rattle.store_layout.specs.declared.half.Half.{Half}
use Rattle.store_layout.specs.declared.half.Half.TheVariants.{First, Second}
use Rattle.store_layout.specs.Layout.{Geometry, IsGeometry, image_sectors, area_at, gate_at, area_of, gate_of, journal_of, Area, Gate, Journal, Region, FirstSector, InHalf, region_of}
use Rattle.store_layout.specs.FirstSector.{IsStore, first_sector, title_encoding}
use Rattle.store_layout.specs.Checkpoint.{Checkpoint, CanBeCheckpoint, IsCheckpoint, checkpoint_encoding}
use Rattle.store_layout.specs.Opening.{Opening, limits_in, IsOpening}
use Rattle.store_layout.specs.TakeOver.{empty_journal}
use Rattle.store_layout.proofs.Exports.{store_read, first_sector_makes_store, part_take, area_long, half_inside, writes_leave_others, part_written, written_there, gate_there, area_beside, journal_beside, gate_beside, store_beside, empty_read}
use Rattle.store_layout.specs.Limits.{latest}
use Rattle.ckpt_pair.specs.Rows.{rows_format}
use Rattle.store_open.specs.PathStores.{store_format}
use Rattle.store_open.specs.Copying.{IsBlank, OpensToNothing, IsNoneOrWhole, IsStoreWith}
use Rattle.store_open.proofs.Gates.{gates_inside, first_gate, zero_there}

-- ---- contents that do not open

-- the first byte of a title
title_starts : (geometry : Geometry) → get_or (title_encoding geometry) 0 0 ≡ 0x53
title_starts geometry = refl

-- a content that begins with a zero is no store's
pub untitled : (content : List ℕ) → get_or content 0 0 ≡ 0 → OpensToNothing content
untitled content zero opening is =
    let there : get_or (take 20 content) 0 0 ≡ get_or content 0 0 = get_or-part 0 20 content 0 (omega arith) in
    let titled : get_or (take 20 content) 0 0 ≡ 0x53 = ap (λ (list : List ℕ). get_or list 0 0) is.half.store.title ∙ title_starts opening.geometry in
    omega (arith, there, titled, zero)

-- a gate is at least one sector from the start
gate_far : (geometry : Geometry) (half : Half) → 1 ≤ gate_at geometry half
gate_far geometry First = omega arith
gate_far geometry Second = omega arith

-- a content with zeros alone after its first sector has no open gate
bare_of_gates : (content : List ℕ) → ((i : ℕ) → 512 ≤ i → get_or content i 0 ≡ 0) → OpensToNothing content
bare_of_gates content zeros opening is =
    let at = 512 * gate_at opening.geometry opening.chosen in
    let there : get_or (gate_of opening.geometry opening.chosen content) 0 0 ≡ get_or content (at + 0) 0 = get_or-part at 512 content 0 (omega arith) in
    omega (arith, there, zeros (at + 0) (omega (arith, gate_far opening.geometry opening.chosen)), is.half.gate)

-- a content with a title whose gates are closed
pub record IsClosed (geometry : Geometry) (content : List ℕ) : Type 0 where
  pub store : IsStore geometry content
  pub gates : (half : Half) → IsOpenGate (gate_of geometry half content) → ⊥
  pub journal : IsOpenGate (sector_at 0 (journal_of geometry First content)) → ⊥

-- two sizes of one content are the same
one_geometry : (content : List ℕ) (one two : Geometry) → IsStore one content → IsStore two content → one ≡ two
one_geometry content one two is_one is_two =
    let a = store_read content one is_one in
    let b = store_read content two is_two in
    cc

closed_opens_not : (geometry : Geometry) (content : List ℕ) → IsClosed geometry content → OpensToNothing content
closed_opens_not geometry content closed opening is =
    let same : opening.geometry ≡ geometry = one_geometry content opening.geometry geometry is.half.store closed.store in
    closed.gates opening.chosen (subst (λ (g : Geometry). IsOpenGate (gate_of g opening.chosen content)) same is.half.gate)

-- ---- a title over closed gates

zeros_put : (at n : ℕ) (content : List ℕ) → at + n ≤ length content → IsBlank content → IsBlank (overwrite at (replicate n 0) content)
zeros_put at n content inside blank i =
    let long = length-replicate {A = ℕ} n 0 in
    elim (cases_lt i at) [
      | inl before ↦ overwrite_before at (replicate n 0) content i (omega (arith, inside)) before ∙ blank i
      | inr from ↦ elim (cases_lt i (at + n)) [
        | inr behind ↦ overwrite_behind at (replicate n 0) content i (omega (arith, inside, long)) (omega (arith, behind, long)) ∙ blank i
        | inl to ↦ overwrite_within at (replicate n 0) content i (omega (arith, inside)) from (omega (arith, to, long)) ∙ get_or-replicate {A = ℕ} n (i - at) 0 0 (omega (arith, from, to))
      ]
    ]

-- the gates of the first half are closed, then those of the second half, and then the title is
-- written
abbrev pub first_closed : Geometry → List ℕ → List ℕ
first_closed geometry content = overwrite (512 * gate_at geometry First) (replicate 1024 0) content

abbrev pub both_closed : Geometry → List ℕ → List ℕ
both_closed geometry content = overwrite (512 * gate_at geometry Second) (replicate 1024 0) (first_closed geometry content)

abbrev pub titled : Geometry → List ℕ → List ℕ
titled geometry content = overwrite (512 * 0) (first_sector geometry) (both_closed geometry content)

module _ (geometry : Geometry) (limits : IsGeometry geometry) (r0 : List ℕ) (room : 512 * image_sectors geometry ≤ length r0) where
  abbrev one : List ℕ
  one = first_closed geometry r0

  abbrev two : List ℕ
  two = both_closed geometry r0

  abbrev three : List ℕ
  three = titled geometry r0

  zeros_long : length (replicate {A = ℕ} 1024 0) ≡ 1024
  zeros_long = length-replicate {A = ℕ} 1024 0

  one_long : length one ≡ length r0
  one_long = length-overwrite (512 * gate_at geometry First) (replicate 1024 0) r0 (omega (arith, room, zeros_long, gates_inside geometry First (omega (arith, limits.least_journal))))

  two_long : length two ≡ length r0
  two_long = length-overwrite (512 * gate_at geometry Second) (replicate 1024 0) one (omega (arith, one_long, room, zeros_long, gates_inside geometry Second (omega (arith, limits.least_journal)))) ∙ one_long

  title_long : length (first_sector geometry) ≡ 512
  title_long = refl

  three_long : length three ≡ length r0
  three_long = length-overwrite (512 * 0) (first_sector geometry) two (omega (arith, two_long, room, title_long)) ∙ two_long

  first_inside : 512 * gate_at geometry First + 1024 ≤ length r0
  first_inside = omega (arith, room, gates_inside geometry First (omega (arith, limits.least_journal)))

  second_inside : 512 * gate_at geometry Second + 1024 ≤ length one
  second_inside = omega (arith, one_long, room, gates_inside geometry Second (omega (arith, limits.least_journal)))

  second_stays : sector_at (gate_at geometry Second) three ≡ sector_at (gate_at geometry Second) two
  second_stays = part_above (512 * 0) (first_sector geometry) two (512 * gate_at geometry Second) 512 (omega (arith, two_long, room, title_long)) (omega (arith, title_long, gate_far geometry Second))

  first_stays : (k : ℕ) → k < 2 → sector_at (gate_at geometry First + k) three ≡ sector_at (gate_at geometry First + k) one
  first_stays k few =
      part_above (512 * 0) (first_sector geometry) two (512 * (gate_at geometry First + k)) 512 (omega (arith, two_long, room, title_long)) (omega (arith, title_long, gate_far geometry First))
      ∙ part_below (512 * gate_at geometry Second) (replicate 1024 0) one (512 * (gate_at geometry First + k)) 512 (omega (arith, second_inside, zeros_long)) (omega (arith, few, limits.least_journal))

  gates_closed : (half : Half) → IsOpenGate (gate_of geometry half three) → ⊥
  gates_closed First opened =
      let same : sector_at (gate_at geometry First + 0) three ≡ sector_at (gate_at geometry First + 0) one = first_stays 0 (omega arith) in
      zero_there (512 * gate_at geometry First) 1024 (gate_at geometry First + 0) r0 (omega arith) (omega arith) first_inside
      (subst IsOpenGate same (subst (λ (at : ℕ). IsOpenGate (sector_at at three)) (nothing_more (gate_at geometry First)) opened))
    where
      nothing_more : (n : ℕ) → n ≡ n + 0
      nothing_more n = omega arith
  gates_closed Second opened =
      zero_there (512 * gate_at geometry Second) 1024 (gate_at geometry Second) one (omega arith) (omega arith) second_inside
      (subst IsOpenGate second_stays opened)

  journal_closed : IsOpenGate (sector_at 0 (journal_of geometry First three)) → ⊥
  journal_closed opened =
      zero_there (512 * gate_at geometry First) 1024 (gate_at geometry First + 1) r0 (omega arith) (omega arith) first_inside
      (subst IsOpenGate (first_gate geometry First three (omega (arith, limits.least_journal)) ∙ first_stays 1 (omega arith)) opened)

  pub titled_closed : IsClosed geometry three
  titled_closed = record {
    store = first_sector_makes_store two geometry limits (omega (arith, two_long, room));
    gates = gates_closed;
    journal = journal_closed;
  }

  pub titled_long : length three ≡ length r0
  titled_long = three_long

  -- on a blank content nothing opens meanwhile
  module _ (blank : IsBlank r0) where
    pub first_closing : (torn : List ℕ) → length torn ≡ 1024 → OpensToNothing (overwrite (512 * gate_at geometry First) torn r0)
    first_closing torn size = untitled (overwrite (512 * gate_at geometry First) torn r0)
        (overwrite_before (512 * gate_at geometry First) torn r0 0 (omega (arith, first_inside)) (omega (arith, gate_far geometry First)) ∙ blank 0)

    first_blank : IsBlank one
    first_blank = zeros_put (512 * gate_at geometry First) 1024 r0 first_inside blank

    pub second_closing : (torn : List ℕ) → length torn ≡ 1024 → OpensToNothing (overwrite (512 * gate_at geometry Second) torn one)
    second_closing torn size = untitled (overwrite (512 * gate_at geometry Second) torn one)
        (overwrite_before (512 * gate_at geometry Second) torn one 0 (omega (arith, second_inside)) (omega (arith, gate_far geometry Second)) ∙ first_blank 0)

    both_blank : IsBlank two
    both_blank = zeros_put (512 * gate_at geometry Second) 1024 one second_inside first_blank

    pub titling : (torn : List ℕ) → length torn ≡ 512 → OpensToNothing (overwrite (512 * 0) torn two)
    titling torn size = bare_of_gates (overwrite (512 * 0) torn two)
        (λ i far. overwrite_behind (512 * 0) torn two i (omega (arith, size, two_long, room)) (omega (arith, size, far)) ∙ both_blank i)

-- ---- the rows, and the gate

-- the area of the first half is written, and then its gate
module _ (geometry : Geometry) (content : List ℕ) (closed : IsClosed geometry content) where
  abbrev area : ℕ
  area = 512 * area_at geometry First

  room_here : image_sectors geometry ≤ whole_sectors content
  room_here = closed.store.room

  area_fits : (bytes : List ℕ) → length bytes ≤ 512 * geometry.checkpoint → area + length bytes ≤ length content
  area_fits bytes fits = omega (arith, half_inside geometry First, room_here, fits)

  stays : (bytes : List ℕ) → length bytes ≤ 512 * geometry.checkpoint → (region : Region) → (region ≡ InHalf First Area → ⊥)
      → region_of geometry region (overwrite area bytes content) ≡ region_of geometry region content
  stays bytes fits region others =
      writes_leave_others geometry (InHalf First Area) region content area bytes others room_here (omega arith) (omega (arith, fits))

  pub rows_keep_closed : (bytes : List ℕ) → length bytes ≤ 512 * geometry.checkpoint → IsClosed geometry (overwrite area bytes content)
  rows_keep_closed bytes fits = record {
    store = record {
      title = sym (part_take 0 20 512 (overwrite area bytes content) (omega arith)) ∙ ap (take 20) (stays bytes fits FirstSector (λ same. cc)) ∙ part_take 0 20 512 content (omega arith) ∙ closed.store.title;
      limits = closed.store.limits;
      room = omega (arith, room_here, length-overwrite area bytes content (area_fits bytes fits));
    };
    gates = λ half opened. closed.gates half (subst IsOpenGate (stays bytes fits (InHalf half Gate) (λ same. cc)) opened);
    journal = λ opened. closed.journal (subst (λ (list : List ℕ). IsOpenGate (sector_at 0 list)) (stays bytes fits (InHalf First Journal) (λ same. cc)) opened);
  }

  -- the checkpoint is in the area then
  pub rows_begin : (next : Checkpoint (List RowView)) (bytes : List ℕ) → bytes ≡ checkpoint_encoding rows_format next → CanBeCheckpoint rows_format next → length bytes ≤ 512 * geometry.checkpoint
      → IsCheckpoint rows_format (area_of geometry First (overwrite area bytes content)) next
  rows_begin next bytes spelled can fits =
      let none_more : area + 0 ≡ area = omega arith in
      let there : area_of geometry First (overwrite area bytes content) ≡ overwrite 0 bytes (area_of geometry First content) =
      ap (λ (at : ℕ). area_of geometry First (overwrite at bytes content)) (sym none_more)
      ∙ part_written area (512 * geometry.checkpoint) 0 bytes content (omega (arith, fits)) (omega (arith, half_inside geometry First, room_here)) in
      subst (λ (list : List ℕ). IsCheckpoint rows_format list next) (sym there)
      (subst (λ (list : List ℕ). IsCheckpoint rows_format (overwrite 0 list (area_of geometry First content)) next) (sym spelled)
      (written_there rows_format (area_of geometry First content) next can
      (omega (arith, fits, ap length spelled, area_long geometry content room_here First))))

-- a closed content whose first half begins with a checkpoint, and bytes that land in its gate
module _ (geometry : Geometry) (content : List ℕ) (closed : IsClosed geometry content) (next : Checkpoint (List RowView)) (begins : IsCheckpoint rows_format (area_of geometry First content) next)
    (known : next.head.version ≤ latest) (gate : List ℕ) (long : length gate ≡ 512) where
  abbrev gated : List ℕ
  gated = overwrite (512 * gate_at geometry First) gate content

  gated_there : gate_of geometry First gated ≡ gate
  gated_there = gate_there geometry content closed.store.room First gate long

  second_differs : Second ≡ First → ⊥
  second_differs same = cc

  gated_second : IsOpenGate (gate_of geometry Second gated) → ⊥
  gated_second opened = closed.gates Second (subst IsOpenGate (gate_beside geometry content closed.store.room First gate long Second second_differs) opened)

  gated_journal : IsOpenGate (sector_at 0 (journal_of geometry First gated)) → ⊥
  gated_journal opened = closed.journal (subst (λ (list : List ℕ). IsOpenGate (sector_at 0 list)) (journal_beside geometry content closed.store.room First gate long First) opened)

  gated_store : IsStore geometry gated
  gated_store = store_beside geometry content closed.store.room First gate long closed.store

  gated_not : (IsOpenGate gate → ⊥) → OpensToNothing gated
  gated_not shut = closed_opens_not geometry gated (record {
    store = gated_store;
    gates = by_half;
    journal = gated_journal;
  })
    where
      by_half : (half : Half) → IsOpenGate (gate_of geometry half gated) → ⊥
      by_half First opened = shut (subst IsOpenGate gated_there opened)
      by_half Second opened = gated_second opened

  abbrev fresh : Opening (List RowView) Command
  fresh = record { geometry = geometry; chosen = First; checkpoint = next; journal = empty_journal next.head.place; tail = None }

  gated_opens : IsOpenGate gate → IsOpening store_format latest gated fresh
  gated_opens opened = record {
    half = record {
      store = gated_store;
      gate = subst IsOpenGate (sym gated_there) opened;
      begins = subst (λ (list : List ℕ). IsCheckpoint rows_format list next) (sym (area_beside geometry content closed.store.room First gate long First)) begins;
      known = known;
      older = λ second. absurd (gated_second second);
    };
    journal = empty_read store_format.commands (limits_in next) (journal_of geometry First gated) next.head.place gated_journal;
    tail = refl;
  }

  pub gated_whole : IsOpenGate gate → IsStoreWith geometry next.db next.head.place gated
  gated_whole opened = record {
    store = gated_store;
    opens = record { opening = fresh; is = gated_opens opened; stands_for = refl };
  }

  pub gated_either : IsNoneOrWhole next.db next.head.place gated
  gated_either = elim (cases_eq (get_or gate 0 0) 0xA7) [
    | inl opened ↦ inr (gated_whole opened).opens
    | inr shut ↦ inl (gated_not shut)
  ]

pub laying_either : (geometry : Geometry) (content : List ℕ) (rows : List RowView) (place : ℕ) → IsClosed geometry content → (torn : List ℕ) → length torn ≤ 512 * geometry.checkpoint
    → IsNoneOrWhole rows place (overwrite (512 * area_at geometry First) torn content)
laying_either geometry content rows place closed torn fits = inl (closed_opens_not geometry (overwrite (512 * area_at geometry First) torn content) (rows_keep_closed geometry content closed torn fits))
