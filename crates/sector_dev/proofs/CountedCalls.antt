-- The effect of one call of a file on the file with a count of its failures, which is f before the
-- call and g after it.
use Rattle.std.proofs.Common.{◌≡◌, ℕ, ◌≤◌, List, length, sym, subst, Result, Ok, Err, IfOk}
use Rattle.sector_dev.specs.Disk.{ByteRange}
use Rattle.sector_dev.specs.Calls.{one_more}
use Rattle.sector_dev.specs.Image.{IsClean}
use Rattle.sector_dev.specs.PositionedFile.{FileState, IsHonestFile, FileGoesOn, IsWriteMoment, IsSyncMoment, StaysClean, TransfersIn, SyncsFile, failures_after_transfer}
use Rattle.sector_dev.specs.FileCalls.{LandsCall, SyncsCall}
use Rattle.sector_dev.proofs.Images.{clean_none}
use Rattle.sector_dev.proofs.Results.{success, failure}
use Rattle.sector_dev.proofs.FileMoments.{goes_on_counted}
use Rattle.sector_dev.proofs.Joined.{transfer_lands}

module _ (old new : FileState) (f g : ℕ) where
  abbrev before : FileState
  before = record old { failures = f }

  abbrev after : FileState
  after = record new { failures = g }

  -- a write
  pub counted_write : {E : Type 0} (offset : ℕ) (bytes : List ℕ) (result : Result ℕ E) → g ≡ failures_after_transfer (length bytes) result f → IfOk result (λ n. n ≤ length bytes) → LandsCall offset bytes result old new
      → TransfersIn offset bytes result before after
  counted_write offset bytes result failures most call = record {
    is_honest = call.is_honest;
    failures = failures;
    most = most;
    lands = λ honest inside. call.lands honest inside;
    dirty = λ honest. call.dirty honest;
    moments = λ honest inside.
        goes_on_counted (IsWriteMoment offset bytes before) old new f g (call.step honest)
        (record { lands = transfer_lands offset bytes result old.bytes new.bytes most inside (call.lands honest inside); dirty = call.dirty honest });
  }

  -- a sync makes nothing dirty, whether it succeeds or fails
  stays_clean : {T E : Type 0} (result : Result T E) → SyncsCall result old new → IsHonestFile old → StaysClean old.dirty new.dirty
  stays_clean (Ok _) call honest i clean = subst (λ (dirty : List ByteRange). IsClean dirty i) (sym (call.done honest)) (clean_none i)
  stays_clean (Err _) call honest i clean = subst (λ (dirty : List ByteRange). IsClean dirty i) (sym (call.unchanged honest)) clean

  sync_moments : {T E : Type 0} (result : Result T E) → SyncsCall result old new → IsHonestFile old → FileGoesOn before after (IsSyncMoment before)
  sync_moments result call honest = goes_on_counted (IsSyncMoment before) old new f g (call.step honest) (record { reads = call.bytes honest; clean = stays_clean result call honest })

  -- a sync that succeeds
  pub counted_sync : {T : Type 0} (E : Type 0) (value : T) → g ≡ f → SyncsCall (success E value) old new → SyncsFile (success E value) before after
  counted_sync E value failures call = record {
    is_honest = call.is_honest;
    failures = failures;
    bytes = λ honest. call.bytes honest;
    done = λ honest. call.done honest;
    clean = λ honest. tt;
    moments = λ honest. sync_moments (success E value) call honest;
  }

  -- a sync of the counted file that fails, where the call of the file had any result
  pub counted_failed_sync : {T E F : Type 0} (U : Type 0) (error : F) (result : Result T E) → g ≡ one_more f → SyncsCall result old new → SyncsFile (failure U error) before after
  counted_failed_sync U error result failures call = record {
    is_honest = call.is_honest;
    failures = failures;
    bytes = λ honest. call.bytes honest;
    done = λ honest. tt;
    clean = λ honest. stays_clean result call honest;
    moments = λ honest. sync_moments result call honest;
  }
