-- The numbers of the errors of opening.
use Rattle.std.specs.Prelude.{ℕ}
use Rattle.store_open.specs.declared.error.OpenError.{OpenError}
use Rattle.store_open.specs.declared.error.OpenError.TheVariants.{NotAStore, Device, Pair, Journal, NoMemory}

-- The number of each error.
abbrev pub open_error_number : OpenError → ℕ
open_error_number NotAStore = 1
open_error_number Device = 2
open_error_number (Pair e) = 3
open_error_number (Journal e) = 4
open_error_number NoMemory = 5
