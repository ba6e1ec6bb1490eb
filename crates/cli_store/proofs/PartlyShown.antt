-- What was shown of a store where a write failed.
use Rattle.std.proofs.Common.{ℕ, List, Option, inr}
use Rattle.row_map.specs.Database.{RowView}
use Rattle.sector_dev.specs.Disk.{Disk, IsHonest, reads_of}
use Rattle.store_open.specs.Open.{IsOpened}
use Rattle.store_open.specs.PathStores.{IsStoreOf}
use Rattle.store_open.specs.Store.{StoreView}
use Rattle.row_lines.specs.declared.form.RowForm.{RowForm}
use Rattle.cli_store.specs.declared.error.Fault.{Fault}
use Rattle.cli_store.specs.declared.error.Fault.TheVariants.{Format, Copy, Open, Checkpoint, File, Taken, Declined, Memory, Output}
use Rattle.cli_store.specs.Showing.{FailsToShow}
use Rattle.cli_store.specs.Text.{store_text}
use Rattle.cli_store.specs.Writing.{TextWriteFails}

-- a store that was opened has the rows and the place to which what was read opens
pub opened_stands_for : (reads : List ℕ) (view : StoreView) → IsOpened reads view → IsStoreOf view.rows view.place reads
opened_stands_for reads view opened = record { opening = opened.rest.opening; is = opened.same; stands_for = opened.rest.tells.value }

-- a front of the text of these was written
pub shown_in_part : (form : RowForm) (fault : Fault) (disk : Disk) (output left : Option (List ℕ)) (rows : List RowView) (place : ℕ) → (IsHonest disk → IsStoreOf rows place (reads_of disk))
    → TextWriteFails output left (store_text form rows place) fault → FailsToShow form fault disk output left
shown_in_part form (Format e) disk output left rows place opens fails = absurd fails.of_writing
shown_in_part form (Copy e) disk output left rows place opens fails = absurd fails.of_writing
shown_in_part form (Open e) disk output left rows place opens fails = absurd fails.of_writing
shown_in_part form (Checkpoint e) disk output left rows place opens fails = absurd fails.of_writing
shown_in_part form File disk output left rows place opens fails = absurd fails.of_writing
shown_in_part form Taken disk output left rows place opens fails = absurd fails.of_writing
shown_in_part form Declined disk output left rows place opens fails = absurd fails.of_writing
shown_in_part form Memory disk output left rows place opens fails = inr (record { rows = rows; place = place; opens = opens; written = fails.part })
shown_in_part form Output disk output left rows place opens fails = record { rows = rows; place = place; opens = opens; written = fails.part }
