-- The program's words for a fault, and the fault of each error.
use Rattle.std.specs.Prelude.{ℕ, List, ◌++◌, codes}
use Rattle.std.specs.Fmt.{decimal}
use Rattle.gate_journal.specs.ErrorNumber as journal
use Rattle.ckpt_pair.specs.ErrorNumber as pair
use Rattle.store_open.specs.declared.error.OpenError.{OpenError}
use Rattle.store_open.specs.declared.error.OpenError.TheVariants.{NotAStore, Device, Pair, Journal, NoMemory}
use Rattle.store_open.specs.declared.error.StoreError.{StoreError}
use Rattle.store_open.specs.declared.error.StoreError.TheVariants as checkpoint
use Rattle.store_open.specs.declared.new_store.FormatError.{FormatError}
use Rattle.store_open.specs.declared.new_store.FormatError.TheVariants as format
use Rattle.store_open.specs.declared.copying.CopyError.{CopyError}
use Rattle.store_open.specs.declared.copying.CopyError.TheVariants as copy
use Rattle.cli_store.specs.declared.error.Fault.{Fault}
use Rattle.cli_store.specs.declared.error.Fault.TheVariants.{Format, Copy, Open, Checkpoint, File, Taken, Declined, Memory, Output}

-- The numbers of an error of opening, the outer one first.
abbrev pub open_numbers : OpenError → List ℕ
open_numbers NotAStore = decimal 1
open_numbers Device = decimal 2
open_numbers (Pair e) = codes "3 " ++ decimal (pair.pair_error_number e)
open_numbers (Journal e) = codes "4 " ++ decimal (journal.journal_error_number e)
open_numbers NoMemory = decimal 5

-- The number of an error of making a store.
abbrev pub format_number : FormatError → ℕ
format_number format.BadGeometry = 1
format_number format.TooSmall = 2
format_number format.Fault = 3

-- The number of an error of making a store with given rows.
abbrev pub copy_number : CopyError → ℕ
copy_number copy.BadGeometry = 1
copy_number copy.TooSmall = 2
copy_number copy.Unfit = 3
copy_number copy.NoMemory = 4
copy_number copy.Fault = 5

-- The number of an error of making a checkpoint.
abbrev pub checkpoint_number : StoreError → ℕ
checkpoint_number checkpoint.Fault = 1
checkpoint_number checkpoint.Sealed = 2
checkpoint_number checkpoint.NoMemory = 3
checkpoint_number checkpoint.Exhausted = 4
checkpoint_number checkpoint.Unfit = 5
checkpoint_number checkpoint.Broken = 6

-- The words of a fault.
abbrev pub store_fault_text : Fault → List ℕ
store_fault_text (Format e) = codes "format " ++ decimal (format_number e)
store_fault_text (Copy e) = codes "copy " ++ decimal (copy_number e)
store_fault_text (Open e) = codes "open " ++ open_numbers e
store_fault_text (Checkpoint e) = codes "device " ++ decimal (checkpoint_number e)
store_fault_text File = codes "device 1"
store_fault_text Taken = codes "format 4"
store_fault_text Declined = codes "format 5"
store_fault_text Memory = codes "memory"
store_fault_text Output = codes "output"

-- The fault of an error of opening. Refused memory is that fault, whichever step was refused it.
abbrev pub fault_of_opening : OpenError → Fault
fault_of_opening NotAStore = Open NotAStore
fault_of_opening Device = Open Device
fault_of_opening (Pair e) = Open (Pair e)
fault_of_opening (Journal e) = Open (Journal e)
fault_of_opening NoMemory = Memory

-- The fault of an error of making a checkpoint.
abbrev pub fault_of_checkpoint : StoreError → Fault
fault_of_checkpoint checkpoint.Fault = Checkpoint checkpoint.Fault
fault_of_checkpoint checkpoint.Sealed = Checkpoint checkpoint.Sealed
fault_of_checkpoint checkpoint.NoMemory = Memory
fault_of_checkpoint checkpoint.Exhausted = Checkpoint checkpoint.Exhausted
fault_of_checkpoint checkpoint.Unfit = Checkpoint checkpoint.Unfit
fault_of_checkpoint checkpoint.Broken = Checkpoint checkpoint.Broken

-- The fault of an error of making a store with given rows.
abbrev pub fault_of_copy : CopyError → Fault
fault_of_copy copy.BadGeometry = Copy copy.BadGeometry
fault_of_copy copy.TooSmall = Copy copy.TooSmall
fault_of_copy copy.Unfit = Copy copy.Unfit
fault_of_copy copy.NoMemory = Memory
fault_of_copy copy.Fault = Copy copy.Fault
