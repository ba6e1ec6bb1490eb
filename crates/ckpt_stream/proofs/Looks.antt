-- A device that is looked at by several calls.
use Rattle.std.proofs.Common.{◌≡◌, ◌∙◌, ℕ, List, Ok, Err, refl, sym, ap, subst}
use Rattle.std.specs.Prelude.{Result, IfErr}
use Rattle.row_map.specs.Database.{RowView}
use Rattle.ckpt_pair.specs.Stream.{StreamView}
use Rattle.ckpt_stream.specs.OldRows.{RefusesRows}
use Rattle.ckpt_stream.specs.declared.error.PieceError.{PieceError}
use Rattle.ckpt_stream.specs.declared.error.PieceError.TheVariants as piece
use Rattle.ckpt_stream.specs.Merge.{LooksForPiece}
use Rattle.sector_dev.specs.Disk.{History, Disk, IsHonest, reads_of}
use Rattle.sector_dev.specs.Calls.{Keeps, one_more}
use Rattle.sector_dev.proofs.Stretches.{keeps_then, honest_after}
use Rattle.store_open.specs.declared.error.OpenError.{OpenError}
use Rattle.store_open.specs.declared.error.OpenError.TheVariants as opening
use Rattle.store_open.specs.declared.error.SealedError.{SealedError}
use Rattle.store_open.specs.declared.error.SealedError.TheVariants.{Fault, NoMemory, Damaged}
use Rattle.store_open.specs.Looking.{LooksAt}
use Rattle.store_open.specs.Refusals.{LooksFor}
use Rattle.store_open.specs.Sealed.{LooksAtHalf, sealed_error_of}

-- No call of the device failed, and nothing on it changed.
pub record Stays (old new : Disk) : Type 0 where
  pub keeps : Keeps old new
  pub faults : new.faults ≡ old.faults
  pub history : IsHonest old → new.history ≡ old.history

pub stays_for : {T : Type 0} (x : T) (old new : Disk) → LooksFor {T = T} (Ok x) old new → Stays old new
stays_for x old new looks = record { keeps = looks.keeps; faults = looks.faults; history = looks.history }

pub stays_at : {T E : Type 0} (x : T) (old new : Disk) → LooksAt {T = T} {E = E} (Ok x) old new → Stays old new
stays_at x old new looks = record { keeps = looks.keeps; faults = looks.faults; history = looks.history }

pub stays_half : {T : Type 0} (x : T) (old new : Disk) → LooksAtHalf {T = T} (Ok x) old new → Stays old new
stays_half x old new looks = record { keeps = looks.keeps; faults = looks.faults; history = looks.history }

pub stays_same : (disk : Disk) → Stays disk disk
stays_same disk = record { keeps = record { is_honest = refl; sectors = refl }; faults = refl; history = λ honest. refl }

pub stays_then : (old mid new : Disk) → Stays old mid → Stays mid new → Stays old new
stays_then old mid new first second = record {
  keeps = keeps_then old mid new first.keeps second.keeps;
  faults = second.faults ∙ first.faults;
  history = λ honest. second.history (honest_after old mid first.keeps honest) ∙ first.history honest;
}

-- what holds of the reads now held of those at the start
pub at_start : (P : List ℕ → Type 0) (old new : Disk) → Stays old new → (IsHonest new → P (reads_of new)) → IsHonest old → P (reads_of old)
at_start P old new stays so honest = subst (λ (h : History). P h.now.reads) (stays.history honest) (so (honest_after old new stays.keeps honest))

-- each way out
pub looks_ok : {T : Type 0} (x : T) (old new : Disk) → Stays old new → LooksAtHalf {T = T} (Ok x) old new
looks_ok x old new stays = record { keeps = stays.keeps; faults = stays.faults; history = stays.history }

pub looks_damaged : {T : Type 0} (old new : Disk) → Stays old new → LooksAtHalf {T = T} (Err Damaged) old new
looks_damaged old new stays = record { keeps = stays.keeps; faults = stays.faults; history = stays.history }

pub looks_refused : {T : Type 0} (result : Result T SealedError) (old new : Disk) → result ≡ Err NoMemory → Stays old new → LooksAtHalf {T = T} result old new
looks_refused {T} result old new is stays =
    subst (λ (r : Result T SealedError). LooksAtHalf {T = T} r old new) (sym is) (record { keeps = stays.keeps; faults = stays.faults; history = stays.history })

pub looks_fault : {T U E : Type 0} (e : E) (old mid new : Disk) → Stays old mid → LooksAt {T = U} {E = E} (Err e) mid new → LooksAtHalf {T = T} (Err Fault) old new
looks_fault e old mid new stays looks = record {
  keeps = keeps_then old mid new stays.keeps looks.keeps;
  faults = looks.faults ∙ ap one_more stays.faults;
  history = λ honest. looks.history (honest_after old mid stays.keeps honest) ∙ stays.history honest;
}

errs : {T U : Type 0} (e : OpenError) (old mid new : Disk) → Stays old mid → LooksFor {T = U} (Err e) mid new → LooksAtHalf {T = T} (Err (sealed_error_of e)) old new
errs opening.NotAStore old mid new stays looks = looks_damaged old new (stays_then old mid new stays (record { keeps = looks.keeps; faults = looks.faults; history = looks.history }))
errs opening.Device old mid new stays looks = record {
  keeps = keeps_then old mid new stays.keeps looks.keeps;
  faults = looks.faults ∙ ap one_more stays.faults;
  history = λ honest. looks.history (honest_after old mid stays.keeps honest) ∙ stays.history honest;
}
errs (opening.Pair e) old mid new stays looks = looks_damaged old new (stays_then old mid new stays (record { keeps = looks.keeps; faults = looks.faults; history = looks.history }))
errs (opening.Journal e) old mid new stays looks = looks_damaged old new (stays_then old mid new stays (record { keeps = looks.keeps; faults = looks.faults; history = looks.history }))
errs opening.NoMemory old mid new stays looks = looks_refused (Err NoMemory) old new refl (stays_then old mid new stays (record { keeps = looks.keeps; faults = looks.faults; history = looks.history }))

pub looks_err : {T U : Type 0} (result : Result T SealedError) (e : OpenError) (old mid new : Disk) → result ≡ Err (sealed_error_of e) → Stays old mid → LooksFor {T = U} (Err e) mid new → LooksAtHalf {T = T} result old new
looks_err {T} {U} result e old mid new is stays looks =
    subst (λ (r : Result T SealedError). LooksAtHalf {T = T} r old new) (sym is) (errs {T = T} {U = U} e old mid new stays looks)

-- ways out of a reading that is an opening's

pub looks_device : {T U E : Type 0} (result : Result T OpenError) (e : E) (old new : Disk) → result ≡ Err opening.Device → LooksAt {T = U} {E = E} (Err e) old new → LooksFor {T = T} result old new
looks_device {T} result e old new is looks =
    subst (λ (r : Result T OpenError). LooksFor {T = T} r old new) (sym is) (record { keeps = looks.keeps; faults = looks.faults; history = looks.history })

pub looks_memory : {T : Type 0} (result : Result T OpenError) (old new : Disk) → result ≡ Err opening.NoMemory → Stays old new → LooksFor {T = T} result old new
looks_memory {T} result old new is stays =
    subst (λ (r : Result T OpenError). LooksFor {T = T} r old new) (sym is) (record { keeps = stays.keeps; faults = stays.faults; history = stays.history })

pub looks_seen : {T : Type 0} (result : Result T OpenError) (given : List RowView) (stream : StreamView) (old new : Disk) → IfErr result (RefusesRows given stream) → Stays old new
    → LooksFor {T = T} result old new
looks_seen (Ok x) given stream old new refused stays = record { keeps = stays.keeps; faults = stays.faults; history = stays.history }
looks_seen (Err opening.NotAStore) given stream old new refused stays = absurd refused
looks_seen (Err opening.Device) given stream old new refused stays = absurd refused
looks_seen (Err (opening.Pair e)) given stream old new refused stays = record { keeps = stays.keeps; faults = stays.faults; history = stays.history }
looks_seen (Err (opening.Journal e)) given stream old new refused stays = absurd refused
looks_seen (Err opening.NoMemory) given stream old new refused stays = record { keeps = stays.keeps; faults = stays.faults; history = stays.history }

-- rows that are refused by bytes that were read before
pub looks_refused_rows : {T : Type 0} (result : Result T SealedError) (e : OpenError) (given : List RowView) (stream : StreamView) (old new : Disk) → result ≡ Err (sealed_error_of e)
    → RefusesRows given stream e → Stays old new → LooksAtHalf {T = T} result old new
looks_refused_rows {T} result e given stream old new is refused stays =
    subst (λ (r : Result T SealedError). LooksAtHalf {T = T} r old new) (sym is) (by e refused)
  where
    by : (e : OpenError) → RefusesRows given stream e → LooksAtHalf {T = T} (Err (sealed_error_of e)) old new
    by opening.NotAStore so = absurd so
    by opening.Device so = absurd so
    by (opening.Pair e) so = looks_damaged old new stays
    by (opening.Journal e) so = absurd so
    by opening.NoMemory so = looks_refused (Err NoMemory) old new refl stays

-- reading for a piece
pub stays_piece : (old new : Disk) → LooksForPiece (Ok tt) old new → Stays old new
stays_piece old new looks = record { keeps = looks.keeps; faults = looks.faults; history = looks.history }

pub stays_damaged : (e : PieceError) (old new : Disk) → e ≡ piece.Damaged → LooksForPiece (Err e) old new → Stays old new
stays_damaged e old new is looks =
    let so = subst (λ (x : PieceError). LooksForPiece (Err x) old new) is looks in
    record { keeps = so.keeps; faults = so.faults; history = so.history }

pub fault_piece : {T : Type 0} (e : PieceError) (old new : Disk) → e ≡ piece.Fault → LooksForPiece (Err e) old new → LooksAtHalf {T = T} (Err Fault) old new
fault_piece e old new is looks =
    let so = subst (λ (x : PieceError). LooksForPiece (Err x) old new) is looks in
    record { keeps = so.keeps; faults = so.faults; history = so.history }
