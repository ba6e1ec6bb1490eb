-- A new store opens with its one opening. For new_store and start.
use Rattle.std.proofs.Common.{◌≡◌, ℕ, ◌+◌, ◌*◌, ◌≤◌, false, List, None, Result, Ok, Err, refl, sym, ap, ◌∙◌, subst, arith}
use Rattle.byte_lists.specs.Content.{AreBytes}
use Rattle.row_map.specs.Database.{RowView}
use Rattle.path_db.specs.declared.command.Command.{Command}
use Rattle.store_layout.specs.declared.half.Half.TheVariants.{First}
use Rattle.store_layout.specs.Layout.{Geometry, journal_of}
use Rattle.store_layout.specs.Checkpoint.{first_checkpoint}
use Rattle.store_layout.specs.Opening.{Opening, IsOpening, limits_in, StoreValue}
use Rattle.store_layout.specs.OpeningReading.{opening_of}
use Rattle.store_layout.specs.TakeOver.{IsFormatted, empty_journal}
use Rattle.store_layout.proofs.Exports.{empty_read}
use Rattle.store_layout.proofs.Opened.{is_opened_so}
use Rattle.store_layout.specs.Limits.{latest}
use Rattle.store_open.specs.NewStore.{IsNewStore}
use Rattle.store_open.specs.PathStores.{store_format}
use Rattle.store_open.specs.Store.{StoreView, HasOpening}
use Rattle.store_open.specs.Open.{IsOpened}
use Rattle.store_open.proofs.NewStores.{formatted_in_any}
use Rattle.once_store.specs.Resting.{sizes}
use Rattle.once_store.specs.Starting.{IsFirst, IsFirstState}
use Rattle.std.proofs.Common.{Bool, true}
use Rattle.row_map.specs.Database.{rows_len}
use Rattle.sector_dev.specs.declared.mem_device.MemDevice.{MemDevice}
use Rattle.sector_dev.specs.Disk.{IsHonest}
use Rattle.sector_dev.specs.MemDevice.{memory_disk}
use Rattle.store_layout.specs.Checkpoint.{Head}
use Rattle.group_core.specs.StateView.{StateView}
use Rattle.group_core.specs.Starting.{CanContinue, IsStarted, check_in}
use Rattle.group_core.specs.Starting.{started as started_state}
use Rattle.once_store.specs.Resting.{CheckRests}

abbrev first_opening : Opening (List RowView) Command
first_opening = record { geometry = sizes; chosen = First; checkpoint = first_checkpoint store_format latest; journal = empty_journal 0; tail = None }

opens_first : (image : List ℕ) → IsNewStore sizes image → IsOpening store_format latest image first_opening
opens_first image new =
    let is : IsFormatted store_format latest sizes image = formatted_in_any (List RowView) Command store_format sizes image new in
    record {
      half = record { store = is.store; gate = is.gate; begins = is.begins; known = omega arith; older = λ opened. absurd (is.second opened) };
      journal = empty_read store_format.commands (limits_in (first_checkpoint store_format latest)) (journal_of sizes First image) 0 is.journal;
      tail = refl;
    }

pub reads_first : (image : List ℕ) → AreBytes image → IsNewStore sizes image → opening_of store_format latest image ≡ Ok first_opening
reads_first image bytes new = (is_opened_so (List RowView) Command store_format latest image first_opening bytes).1 (opens_first image new)

one_ok : {A B : Type 0} (a b : A) (reading : Result A B) → reading ≡ Ok a → reading ≡ Ok b → a ≡ b
one_ok a b (Ok x) first second =
    let one : x ≡ a = cc in
    let other : x ≡ b = cc in
    sym one ∙ other
one_ok a b (Err e) first second = absurd cc

pub first_store : (image : List ℕ) (store : StoreView) → AreBytes image → IsNewStore sizes image → IsOpened image store → store.broken ≡ false → IsFirst store
first_store image store bytes new opened whole =
    let there = (is_opened_so (List RowView) Command store_format latest image opened.rest.opening bytes).1 opened.same in
    let one : opened.rest.opening ≡ first_opening = one_ok opened.rest.opening first_opening (opening_of store_format latest image) there (reads_first image bytes new) in
    let tells : HasOpening store first_opening = subst (λ (o : Opening (List RowView) Command). HasOpening store o) one opened.rest.tells in
    record {
      geometry = sym tells.geometry;
      head = sym tells.head;
      unsealed = sym tells.sealed;
      gate = sym tells.gate;
      place = sym (ap (λ (v : StoreValue (List RowView)). v.place) tells.value);
      rows = sym (ap (λ (v : StoreValue (List RowView)). v.db) tells.value);
      whole = whole;
    }

pub is_honest : (device : MemDevice) → IsHonest (memory_disk device)
is_honest device = refl

differ : true ≡ false → ⊥
differ e = absurd cc

-- its state rests, with no rows at place 0
pub first_state : (store : StoreView) (home : ℕ) (state : StateView) → IsFirst store → IsStarted store home state → IsFirstState state
first_state store home state first started =
    let goes : CanContinue store = record {
      whole = first.whole;
      rows = subst (λ (r : List RowView). 32 + rows_len r ≤ 512 * store.geometry.checkpoint) (sym first.rows) (omega (arith, ap (λ (g : Geometry). g.checkpoint) first.geometry));
      sealed = λ sealed. absurd (differ (sym sealed ∙ first.unsealed));
    } in
    let going = started.going.1 goes in
    let is : state ≡ started_state store home false = started.is ∙ ap (started_state store home) going in
    subst IsFirstState (sym is) (record {
      lone = record {
        steady = record {
          geometry = first.geometry;
          version = ap (λ (h : Head). h.version) first.head;
          going = refl;
          plan = refl;
          check = subst (λ (b : Bool). CheckRests (check_in b) (started_state store home false)) (sym first.unsealed)
              (omega (arith, ap (λ (h : Head). h.epoch) first.head), λ some. absurd (omega (arith, some, first.gate)));
        };
        holds = (refl, refl, refl);
      };
      empty = λ i. record { rows = first.rows i; place = first.place i + 0 };
    })
