-- What closing the gates of a half leaves, at every moment.
use Rattle.std.proofs.Common.{◌≡◌, inl, inr, ℕ, ◌+◌, ◌-◌, ◌*◌, ◌<◌, ◌≤◌, List, [], length, drop, get_or, replicate, refl, sym, ◌∙◌, ap, subst, arith, Result, Ok, Err, OnOk, Bool, true, false}
use Rattle.std.proofs.lemmas.List.{take-take, length-replicate, get_or-replicate}
use Rattle.byte_lists.specs.Content.{overwrite}
use Rattle.byte_lists.specs.Sectors.{sector_at, IsOpenGate, is_open_gate}
use Rattle.byte_lists.proofs.Contents.{length-overwrite, overwrite_within, part_below, part_above, get_or-part}
use Rattle.byte_lists.proofs.Padding.{true_open, false_open}
use Rattle.sector_dev.specs.Disk.{History, Disk, IsHonest, IsWhole, reads_of, after_write}
use Rattle.sector_dev.specs.Image.{EveryImage}
use Rattle.sector_dev.specs.Calls.{Keeps, WriteCall}
use Rattle.sector_dev.specs.Stretch.{Leaves, Stretch}
use Rattle.sector_dev.proofs.Images.{image_is_reads, every_written}
use Rattle.sector_dev.proofs.Results.{success}
use Rattle.sector_dev.proofs.Parts.{history_written}
use Rattle.sector_dev.proofs.Stretches.{honest_after, honest_before, leaves_here, stretch_write}
use Rattle.store_layout.specs.declared.half.Half.{Half}
use Rattle.store_layout.specs.declared.half.Half.TheVariants.{First, Second}
use Rattle.store_layout.specs.Layout.{Geometry, IsGeometry, image_sectors, gate_at, gate_of, journal_at, journal_of}
use Rattle.store_open.specs.Closing.{IsClosing, HasClosedGates}

-- both gates are within the image
pub gates_inside : (geometry : Geometry) (half : Half) → 1 ≤ geometry.journal → gate_at geometry half + 2 ≤ image_sectors geometry
gates_inside geometry First some = omega arith
gates_inside geometry Second some = omega arith

-- the first gate of a journal is the sector after the half gate
pub first_gate : (geometry : Geometry) (half : Half) (content : List ℕ) → 1 ≤ geometry.journal → sector_at 0 (journal_of geometry half content) ≡ sector_at (gate_at geometry half + 1) content
first_gate geometry half content some = take-take 512 (512 * geometry.journal) (drop (512 * journal_at geometry half) content) (omega (arith, some))

module _ (geometry : Geometry) (half : Half) (old : List ℕ) (inside : 512 * (gate_at geometry half + 2) ≤ length old) where
  closing_none : IsClosing geometry half old old
  closing_none = record { size = refl; outside = λ at n apart. refl; gate = λ closed. refl }

  -- whatever bytes land in both gates, where the half gate was open
  pub closing_both : IsOpenGate (gate_of geometry half old) → (torn : List ℕ) → length torn ≡ 1024 → IsClosing geometry half old (overwrite (512 * gate_at geometry half) torn old)
  closing_both opened torn size = record {
    size = length-overwrite (512 * gate_at geometry half) torn old (omega (arith, size));
    outside = λ at n apart. elim apart [
      | inl before ↦ part_below (512 * gate_at geometry half) torn old at n (omega (arith, size)) before
      | inr behind ↦ part_above (512 * gate_at geometry half) torn old at n (omega (arith, size)) (omega (arith, size, behind))
    ];
    gate = λ closed. absurd (closed opened);
  }

  -- whatever bytes land in the journal's first gate
  closing_first : (torn : List ℕ) → length torn ≡ 512 → IsClosing geometry half old (overwrite (512 * (gate_at geometry half + 1)) torn old)
  closing_first torn size = record {
    size = length-overwrite (512 * (gate_at geometry half + 1)) torn old (omega (arith, size));
    outside = λ at n apart. elim apart [
      | inl before ↦ part_below (512 * (gate_at geometry half + 1)) torn old at n (omega (arith, size)) (omega (arith, before))
      | inr behind ↦ part_above (512 * (gate_at geometry half + 1)) torn old at n (omega (arith, size)) (omega (arith, size, behind))
    ];
    gate = λ closed. part_below (512 * (gate_at geometry half + 1)) torn old (512 * gate_at geometry half) 512 (omega (arith, size)) (omega arith);
  }

-- a sector whose first byte was written as zero is no open gate
pub zero_there : (at n sector : ℕ) (old : List ℕ) → at ≤ 512 * sector → 512 * sector < at + n → at + n ≤ length old → IsOpenGate (sector_at sector (overwrite at (replicate n 0) old)) → ⊥
zero_there at n sector old from to fits opened =
    let long = length-replicate {A = ℕ} n 0 in
    let zero_byte : get_or (sector_at sector (overwrite at (replicate n 0) old)) 0 0 ≡ 0 =
    get_or-part (512 * sector) 512 (overwrite at (replicate n 0) old) 0 (omega arith)
    ∙ overwrite_within at (replicate n 0) old (512 * sector + 0) (omega arith) (omega (arith, from)) (omega (arith, to, long))
    ∙ get_or-replicate {A = ℕ} n (512 * sector + 0 - at) 0 0 (omega (arith, from, to)) in
    omega (arith, zero_byte, opened)

module _ (geometry : Geometry) (half : Half) (start : Disk) (allowed : IsGeometry geometry) (room : image_sectors geometry ≤ start.sectors) (whole : IsHonest start → IsWhole start) (clean : IsHonest start → start.history.now.dirty ≡ []) where
  abbrev Closes : List ℕ → Type 0
  Closes = IsClosing geometry half (reads_of start)

  long : IsHonest start → 512 * (gate_at geometry half + 2) ≤ length (reads_of start)
  long honest = omega (arith, (whole honest).size, room, gates_inside geometry half (omega (arith, allowed)))

  -- the bytes that reads return were read
  module _ (one : Disk) (keeps : Keeps start one) (same : IsHonest start → one.history ≡ start.history) where
    pub gates_read : Stretch start one Closes
    gates_read = record {
      keeps = keeps;
      leaves = λ honest. subst (λ (h : History). Leaves start.history h Closes) (sym (same honest))
          (leaves_here Closes start.history
          (λ content image. subst Closes (sym (image_is_reads start.history.now content (clean honest) image)) (closing_none geometry half (reads_of start) (long honest))));
    }

    -- a write after that, whatever bytes land
    gates_written : {S F : Type 0} (answer : Result S F) (at : ℕ) (bytes : List ℕ) (two : Disk) → WriteCall at bytes answer one two → 512 * at + length bytes ≤ 512 * (gate_at geometry half + 2)
        → (IsHonest start → (torn : List ℕ) → length torn ≡ length bytes → Closes (overwrite (512 * at) torn (reads_of start))) → Stretch start two Closes
    gates_written answer at bytes two call below closes =
        stretch_write Closes start one two at bytes answer gates_read call
        (λ honest_one landed size.
        let honest = honest_before start one keeps honest_one in
        subst (λ (h : History). EveryImage (after_write (512 * at) landed h).now Closes) (sym (same honest))
        (every_written (λ content. content ≡ reads_of start) Closes start.history (512 * at) landed (omega (arith, long honest, size, below)) (whole honest).bytes
        (λ content image. image_is_reads start.history.now content (clean honest) image)
        (λ content torn _ torn_size is. subst (λ (list : List ℕ). Closes (overwrite (512 * at) torn list)) (sym is) (closes honest torn (torn_size ∙ size)))))

    reads_written : {S : Type 0} (F : Type 0) (u : S) (at : ℕ) (bytes : List ℕ) (two : Disk) → WriteCall at bytes (success F u) one two → IsHonest start → reads_of two ≡ overwrite (512 * at) bytes (reads_of start)
    reads_written F u at bytes two call honest =
        ap (λ (h : History). h.now.reads) (history_written F u at bytes one two call (honest_after start one keeps honest))
        ∙ ap (λ (h : History). overwrite (512 * at) bytes h.now.reads) (same honest)

    -- both gates, where the half gate was open
    pub both_written : {S F : Type 0} (answer : Result S F) (at : ℕ) (bytes : List ℕ) (two : Disk) → at ≡ gate_at geometry half → bytes ≡ replicate 1024 0 → WriteCall at bytes answer one two
        → (IsHonest start → is_open_gate (gate_of geometry half (reads_of start)) ≡ true) → Stretch start two Closes
    both_written answer at bytes two place zeros call opened =
        let size : length bytes ≡ 1024 = ap length zeros in
        gates_written answer at bytes two call (omega (arith, place, size))
        (λ honest torn torn_size.
        subst (λ (n : ℕ). Closes (overwrite (512 * n) torn (reads_of start))) (sym place)
        (closing_both geometry half (reads_of start) (long honest) (true_open (gate_of geometry half (reads_of start)) (opened honest)) torn (torn_size ∙ size)))

    pub both_closed : {S F : Type 0} (answer : Result S F) (at : ℕ) (bytes : List ℕ) (two : Disk) → at ≡ gate_at geometry half → bytes ≡ replicate 1024 0 → WriteCall at bytes answer one two
        → OnOk answer (IsHonest start → HasClosedGates geometry half (reads_of two))
    both_closed (Err _) at bytes two place zeros call = tt
    both_closed {S} {F} (Ok u) at bytes two place zeros call = λ honest.
        let is = reads_written F u at bytes two call honest ∙ (λ i. overwrite (512 * place i) (zeros i) (reads_of start)) in
        record {
          gate = subst (λ (list : List ℕ). IsOpenGate (gate_of geometry half list) → ⊥) (sym is)
              (zero_there (512 * gate_at geometry half) 1024 (gate_at geometry half) (reads_of start) (omega arith) (omega arith) (omega (arith, long honest)));
          journal = λ opened. zero_there (512 * gate_at geometry half) 1024 (gate_at geometry half + 1) (reads_of start) (omega arith) (omega arith) (omega (arith, long honest))
              (subst (λ (list : List ℕ). IsOpenGate (sector_at (gate_at geometry half + 1) list)) is
              (subst IsOpenGate (first_gate geometry half (reads_of two) (omega (arith, allowed))) opened));
        }

    -- the journal's first gate alone
    pub first_written : {S F : Type 0} (answer : Result S F) (at : ℕ) (bytes : List ℕ) (two : Disk) → at ≡ gate_at geometry half + 1 → bytes ≡ replicate 512 0 → WriteCall at bytes answer one two → Stretch start two Closes
    first_written answer at bytes two place zeros call =
        let size : length bytes ≡ 512 = ap length zeros in
        gates_written answer at bytes two call (omega (arith, place, size))
        (λ honest torn torn_size.
        subst (λ (n : ℕ). Closes (overwrite (512 * n) torn (reads_of start))) (sym place)
        (closing_first geometry half (reads_of start) (long honest) torn (torn_size ∙ size)))

    pub first_closed : {S F : Type 0} (answer : Result S F) (at : ℕ) (bytes : List ℕ) (two : Disk) → at ≡ gate_at geometry half + 1 → bytes ≡ replicate 512 0 → WriteCall at bytes answer one two
        → (IsHonest start → is_open_gate (gate_of geometry half (reads_of start)) ≡ false) → OnOk answer (IsHonest start → HasClosedGates geometry half (reads_of two))
    first_closed (Err _) at bytes two place zeros call closed = tt
    first_closed {S} {F} (Ok u) at bytes two place zeros call closed = λ honest.
        let is = reads_written F u at bytes two call honest ∙ (λ i. overwrite (512 * place i) (zeros i) (reads_of start)) in
        let size : length (replicate {A = ℕ} 512 0) ≡ 512 = length-replicate {A = ℕ} 512 0 in
        record {
          gate = λ opened. false_open (gate_of geometry half (reads_of start)) (closed honest)
              (subst IsOpenGate (ap (gate_of geometry half) is
              ∙ part_below (512 * (gate_at geometry half + 1)) (replicate 512 0) (reads_of start) (512 * gate_at geometry half) 512 (omega (arith, long honest, size)) (omega arith)) opened);
          journal = λ opened. zero_there (512 * (gate_at geometry half + 1)) 512 (gate_at geometry half + 1) (reads_of start) (omega arith) (omega arith) (omega (arith, long honest))
              (subst (λ (list : List ℕ). IsOpenGate (sector_at (gate_at geometry half + 1) list)) is
              (subst IsOpenGate (first_gate geometry half (reads_of two) (omega (arith, allowed))) opened));
        }

    -- no gate, where both read closed
    pub none_closed : (IsHonest start → is_open_gate (gate_of geometry half (reads_of start)) ≡ false) → (IsHonest start → is_open_gate (sector_at (gate_at geometry half + 1) (reads_of start)) ≡ false)
        → IsHonest start → HasClosedGates geometry half (reads_of one)
    none_closed closed first honest =
        let is : reads_of one ≡ reads_of start = ap (λ (h : History). h.now.reads) (same honest) in
        subst (HasClosedGates geometry half) (sym is)
        (record {
          gate = false_open (gate_of geometry half (reads_of start)) (closed honest);
          journal = λ opened. false_open (sector_at (gate_at geometry half + 1) (reads_of start)) (first honest) (subst IsOpenGate (first_gate geometry half (reads_of start) (omega (arith, allowed))) opened);
        })

  -- a gate that reads open is not one of two that are closed
  pub gate_isnt_closed : (IsHonest start → is_open_gate (gate_of geometry half (reads_of start)) ≡ true) → IsHonest start → HasClosedGates geometry half (reads_of start) → ⊥
  gate_isnt_closed opened honest closed = closed.gate (true_open (gate_of geometry half (reads_of start)) (opened honest))

  pub first_isnt_closed : (IsHonest start → is_open_gate (sector_at (gate_at geometry half + 1) (reads_of start)) ≡ true) → IsHonest start → HasClosedGates geometry half (reads_of start) → ⊥
  first_isnt_closed opened honest closed =
      closed.journal
      (subst IsOpenGate (sym (first_gate geometry half (reads_of start) (omega (arith, allowed)))) (true_open (sector_at (gate_at geometry half + 1) (reads_of start)) (opened honest)))

-- the result of reading a gate, where reads still return the same bytes
pub told : (sector at : ℕ) (reads now : List ℕ) (found answer : Bool) → sector ≡ at → now ≡ reads → found ≡ is_open_gate (sector_at sector now) → found ≡ answer → is_open_gate (sector_at at reads) ≡ answer
told sector at reads now found answer place same so is = (λ i. is_open_gate (sector_at (sym place i) (sym same i))) ∙ sym so ∙ is
