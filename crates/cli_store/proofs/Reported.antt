-- The status that a look gives is that of what the device opens with.
use Rattle.std.proofs.Common.{◌≡◌, ℕ, ◌*◌, ◌-◌, Bool, List, length, Option, Result, Ok, Err, IfErr, OnOk, sym, ap, ◌∙◌, subst}
use Rattle.std.specs.Io.KnownBytes.{Appends}
use Rattle.sector_dev.specs.Disk.{Disk}
use Rattle.row_map.specs.Database.{RowView}
use Rattle.path_db.specs.declared.command.Command.{Command}
use Rattle.store_layout.specs.Opening.{Opening, StoreValue, opening_value}
use Rattle.store_layout.specs.Layout.{Geometry}
use Rattle.store_layout.specs.Geometry.{geometry_view}
use Rattle.store_layout.specs.Checkpoint.{Head}
use Rattle.store_layout.specs.StoreGrowth.{last_reading}
use Rattle.ckpt_pair.specs.Heads.{head_view}
use Rattle.store_open.specs.PathStores.{store_format}
use Rattle.store_open.specs.Store.{counted_len}
use Rattle.store_open.specs.declared.folded.Folded.{Folded}
use Rattle.store_open.specs.Folded.{TellsOnAny, IsSeenOn}
use Rattle.cli_store.specs.FoldedStatus.{folded_status}
use Rattle.cli_store.specs.Status.{Status, status_of, status_text, ReportsSo}
use Rattle.cli_store.specs.Writing.{TextWriteFails}
use Rattle.cli_store.specs.declared.error.Fault.{Fault}
use Rattle.cli_store.specs.declared.error.Fault.TheVariants.{Output}

-- the numbers, by what they are read from
abbrev status_from : Geometry → Head → Bool → ℕ → StoreValue (List RowView) → Status
status_from geometry head sealed gate value = record {
  version = head.version;
  epoch = head.epoch;
  place = value.place;
  rows = length value.db;
  bytes = counted_len value.db;
  most_bytes = 512 * geometry.checkpoint - 32;
  used = gate;
  journal = geometry.journal;
  sealed = sealed;
}

pub same_status : (disk : Disk) (folded : Folded) (opening : Opening (List RowView) Command) → TellsOnAny folded opening → folded_status folded ≡ status_of opening
same_status disk folded opening tells =
    let t = tells disk in
    let value = opening_value store_format opening in
    let gate = (last_reading opening).tail in
    let head = opening.checkpoint.head in
    sym
    (ap (λ (g : Geometry). status_from g head opening.journal.sealed gate value) t.geometry
    ∙ ap (λ (h : Head). status_from (geometry_view folded.geometry) h opening.journal.sealed gate value) t.head
    ∙ ap (λ (b : Bool). status_from (geometry_view folded.geometry) (head_view folded.head) b gate value) t.sealed
    ∙ ap (λ (n : ℕ). status_from (geometry_view folded.geometry) (head_view folded.head) folded.sealed n value) t.gate
    ∙ ap (λ (v : StoreValue (List RowView)). status_from (geometry_view folded.geometry) (head_view folded.head) folded.sealed folded.gate v) t.value)

module _ (disk : Disk) (folded : Folded) (seen : IsSeenOn disk folded) (output output_left : Option (List ℕ)) where
  same : status_text (folded_status folded) ≡ status_text (status_of seen.opening)
  same = ap status_text (same_status disk folded seen.opening seen.tells)

  pub reported : (r : Result (Unit {0}) Fault) → OnOk r (Appends output output_left (status_text (folded_status folded)))
      → IfErr r (TextWriteFails output output_left (status_text (folded_status folded))) → IfErr r (λ e. e ≡ Output) → ReportsSo r disk output output_left
  reported (Ok done) written fails is = record {
    opening = seen.opening;
    opens = seen.opens;
    written = subst (Appends output output_left) same written;
  }
  reported (Err e) written fails is =
      subst (λ (x : Fault). ReportsSo (Err x) disk output output_left) (sym is)
      (record {
        opening = seen.opening;
        opens = seen.opens;
        written = (subst (λ (text : List ℕ). TextWriteFails output output_left text e) same fails).part;
      })
