-- A drawing begins with its title, and what ends it behind the device's last call is of writing it.
use Rattle.std.proofs.Common.{◌≡◌, ℕ, List, ◌++◌, Result, Ok, Err, IfOk, IfErr, refl, ap, ◌∙◌}
use Rattle.store_layout.specs.Layout.{Geometry}
use Rattle.cli_store.specs.Devices.{faults_after_command}
use Rattle.cli_store.specs.Drawing.{title_line, BeginsWithTitle}
use Rattle.cli_store.specs.Writing.{IsOfWriting}
use Rattle.cli_store.specs.declared.error.Fault.{Fault}
use Rattle.cli_store.specs.declared.error.Fault.TheVariants.{Format, Copy, Open, Checkpoint, File, Taken, Declined, Memory, Output}

pub begins : {T E : Type 0} (bytes : T → List ℕ) (geometry : Geometry) (title behind : List ℕ) (r : Result T E) → title ≡ title_line geometry
    → IfOk r (λ text. bytes text ≡ title ++ behind) → IfOk r (λ text. BeginsWithTitle geometry (bytes text))
begins bytes geometry title behind (Ok text) is so = record { behind = behind; is = so ∙ ap (λ (list : List ℕ). list ++ behind) is }
begins bytes geometry title behind (Err e) is so = so

pub no_faults_by_writing : (r : Result (Unit {0}) Fault) (faults : ℕ) → IfErr r IsOfWriting → faults ≡ faults_after_command r faults
no_faults_by_writing (Ok done) faults of_writing = refl
no_faults_by_writing (Err (Format e)) faults of_writing = absurd of_writing
no_faults_by_writing (Err (Copy e)) faults of_writing = absurd of_writing
no_faults_by_writing (Err (Open e)) faults of_writing = absurd of_writing
no_faults_by_writing (Err (Checkpoint e)) faults of_writing = absurd of_writing
no_faults_by_writing (Err File) faults of_writing = absurd of_writing
no_faults_by_writing (Err Taken) faults of_writing = absurd of_writing
no_faults_by_writing (Err Declined) faults of_writing = absurd of_writing
no_faults_by_writing (Err Memory) faults of_writing = refl
no_faults_by_writing (Err Output) faults of_writing = refl
