-- A store is copied: what a stop leaves of the copy, and what is answered.
use Rattle.std.proofs.Common.{◌≡◌, inl, inr, ℕ, List, [], length, Option, Result, Ok, Err, OnOk, IfErr, IsErrAnd, refl, sym, subst}
use Rattle.std.specs.Io.KnownBytes.{Appends}
use Rattle.sector_dev.specs.Disk.{Disk, IsHonest, reads_of}
use Rattle.sector_dev.specs.Stretch.{Stretch}
use Rattle.sector_dev.proofs.Stretches.{stretch_here, stretch_weaker}
use Rattle.store_layout.specs.Layout.{Geometry}
use Rattle.store_open.specs.PathStores.{IsStoreOf}
use Rattle.store_open.specs.declared.folded.Folded.{Folded}
use Rattle.store_open.specs.Folded.{IsSeenOn}
use Rattle.store_open.specs.Copying.{IsBeingMade, FormatsWith}
use Rattle.store_open.specs.declared.copying.CopyError.{CopyError}
use Rattle.store_open.specs.declared.copying.CopyError.TheVariants as copy
use Rattle.store_open.proofs.Copies.{untitled}
use Rattle.whole_writes.specs.Written.{IsWrittenInPart}
use Rattle.cli_store.specs.Text.{copied_line}
use Rattle.cli_store.specs.Writing.{TextWriteFails}
use Rattle.cli_store.specs.Fault.{fault_of_copy}
use Rattle.cli_store.specs.Devices.{faults_after_command, faults_after_fault}
use Rattle.cli_store.specs.Copying.{IsCopied, FailsToCopy, IsBeingCopied}
use Rattle.cli_store.specs.declared.error.Fault.{Fault}
use Rattle.cli_store.specs.declared.error.Fault.TheVariants.{Output}

-- no error of the copy is a fault of the device that is read
by_copy : (e : CopyError) (old new : ℕ) → new ≡ old → new ≡ faults_after_fault (fault_of_copy e) old
by_copy copy.BadGeometry old new same = same
by_copy copy.TooSmall old new same = same
by_copy copy.Unfit old new same = same
by_copy copy.NoMemory old new same = same
by_copy copy.Fault old new same = same

pub copy_faults : (result : Result (Unit {0}) Fault) (e : CopyError) (old new : ℕ) → IsErrAnd result (λ fault. fault ≡ fault_of_copy e) → new ≡ old
    → new ≡ faults_after_command result old
copy_faults (Ok done) e old new is same = absurd is
copy_faults (Err fault) e old new is same = subst (λ (f : Fault). new ≡ faults_after_fault f old) (sym is) (by_copy e old new same)

-- nor is one of writing
pub written_faults : (result : Result (Unit {0}) Fault) (old new : ℕ) → IfErr result (λ e. e ≡ Output) → new ≡ old → new ≡ faults_after_command result old
written_faults (Ok done) old new by same = same
written_faults (Err e) old new by same = subst (λ (f : Fault). new ≡ faults_after_fault f old) (sym by) same

-- before any call of the copy's device
pub copied_here : (geometry : Geometry) (from start : Disk) → Stretch start start (IsBeingCopied geometry from start)
copied_here geometry from start =
    stretch_here (IsBeingCopied geometry from start) start (λ honest content image. record {
      behind = record { before = content; image = image; related = λ at n far. refl };
      either = λ blank honest_from. inl (untitled content (blank content image 0));
    })

module _ (geometry : Geometry) (from : Disk) (folded : Folded) (seen : IsSeenOn from folded) where
  opens_so : IsHonest from → IsStoreOf folded.db folded.place (reads_of from)
  opens_so honest = record { opening = seen.opening; is = seen.opens honest; stands_for = (seen.tells from).value }

  pub being_copied : (start end : Disk) → Stretch start end (IsBeingMade geometry folded.db folded.place start) → Stretch start end (IsBeingCopied geometry from start)
  being_copied start end making =
      stretch_weaker (IsBeingMade geometry folded.db folded.place start) (IsBeingCopied geometry from start) start end
      (λ content made. record {
        behind = made.behind;
        either = λ blank honest. elim (made.either blank) [
          | inl none ↦ inl none
          | inr whole ↦ inr (record { rows = folded.db; place = folded.place; first = opens_so honest; second = whole })
        ];
      })
      making

  -- no copy is made, for a reason of the copy's device or of the rows
  pub refused_copy : (e : CopyError) (old new : Disk) (output output_left : Option (List ℕ)) → FormatsWith geometry folded.db folded.place (Err e) old new → Appends output output_left []
      → FailsToCopy (fault_of_copy e) geometry from old new output output_left
  refused_copy copy.BadGeometry old new output output_left refused nothing = (record { rows = folded.db; place = folded.place; opens = opens_so; refused = refused }, nothing)
  refused_copy copy.TooSmall old new output output_left refused nothing = (record { rows = folded.db; place = folded.place; opens = opens_so; refused = refused }, nothing)
  refused_copy copy.Unfit old new output output_left refused nothing = (record { rows = folded.db; place = folded.place; opens = opens_so; refused = refused }, nothing)
  refused_copy copy.NoMemory old new output output_left refused nothing = (refused.1, nothing)
  refused_copy copy.Fault old new output output_left refused nothing = (record { rows = folded.db; place = folded.place; opens = opens_so; refused = refused }, nothing)

  pub refused_so : (result : Result (Unit {0}) Fault) (e : CopyError) (old new : Disk) (output output_left : Option (List ℕ)) → IsErrAnd result (λ fault. fault ≡ fault_of_copy e)
      → FormatsWith geometry folded.db folded.place (Err e) old new → Appends output output_left [] → IfErr result (λ fault. FailsToCopy fault geometry from old new output output_left)
  refused_so (Ok done) e old new output output_left is refused nothing = absurd is
  refused_so (Err fault) e old new output output_left is refused nothing =
      subst (λ (f : Fault). FailsToCopy f geometry from old new output output_left) (sym is) (refused_copy e old new output output_left refused nothing)

  -- the copy is made, and what was printed of it
  module _ (old new : Disk) (made : FormatsWith geometry folded.db folded.place (Ok tt) old new) (keeps : IsHonest new → IsHonest old) (Prints : List ℕ → Type 0) (line : List ℕ)
      (is : line ≡ copied_line (length folded.db) folded.place) where
    copied_so : Prints line → IsCopied geometry from new Prints
    copied_so printed = record {
      rows = folded.db;
      place = folded.place;
      opens = opens_so;
      copied = λ honest. made.2 (keeps honest);
      printed = subst Prints is printed;
    }

  module _ (old new : Disk) (made : FormatsWith geometry folded.db folded.place (Ok tt) old new) (keeps : IsHonest new → IsHonest old) (output output_left : Option (List ℕ)) (line : List ℕ)
      (is : line ≡ copied_line (length folded.db) folded.place) where
    pub copied_whole : (result : Result (Unit {0}) Fault) → OnOk result (Appends output output_left line) → OnOk result (IsCopied geometry from new (Appends output output_left))
    copied_whole (Ok done) printed = copied_so old new made keeps (Appends output output_left) line is printed
    copied_whole (Err e) printed = tt

    pub copied_in_part : (result : Result (Unit {0}) Fault) → IfErr result (λ e. e ≡ Output) → IfErr result (TextWriteFails output output_left line)
        → IfErr result (λ fault. FailsToCopy fault geometry from old new output output_left)
    copied_in_part (Ok done) by printed = tt
    copied_in_part (Err e) by printed =
        subst (λ fault. FailsToCopy fault geometry from old new output output_left) (sym by)
        (copied_so old new made keeps (IsWrittenInPart output output_left) line is printed.part)
