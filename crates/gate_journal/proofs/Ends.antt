-- What the reading of a whole journal leads to: for `whole`.
use Rattle.std.proofs.Common.{◌≡◌, ℕ, ◌+◌, ◌-◌, ◌*◌, ◌≤◌, List, take, drop, sym, ◌∙◌, ap, subst, arith}
use Rattle.byte_lists.specs.Content.{AreBytes, part}
use Rattle.byte_lists.specs.Sectors.{whole_sectors}
use Rattle.store_layout.specs.Limits.{Limits}
use Rattle.store_layout.specs.JournalReading.{journal_scan}
use Rattle.store_layout.proofs.Exports.{journal_refused}
use Rattle.gate_journal.specs.declared.error.JournalError.{JournalError}
use Rattle.gate_journal.specs.declared.error.JournalError.TheVariants.{NoMemory, BadHeader, BadRecord, Gap, PastEnd}
use Rattle.gate_journal.specs.Commands.{command_format}
use Rattle.gate_journal.specs.Reading.{Refuses}
use Rattle.gate_journal.specs.Scanning.{MayWantMemory, MeansError}

-- an error of a piece is the scan's
pub scan_refused : (e : JournalError) (limits : Limits) (bytes : List ℕ) (start : ℕ) → AreBytes bytes → 1 ≤ whole_sectors bytes → MeansError e limits bytes start
    → Refuses e (journal_scan command_format limits bytes start)
scan_refused NoMemory limits bytes start each some is = tt
scan_refused BadHeader limits bytes start each some is = journal_refused command_format limits bytes each start _ some is
scan_refused BadRecord limits bytes start each some is = journal_refused command_format limits bytes each start _ some is
scan_refused (Gap place) limits bytes start each some is = journal_refused command_format limits bytes each start _ some is
scan_refused PastEnd limits bytes start each some is = journal_refused command_format limits bytes each start _ some is

-- want of memory comes where it may
pub scan_wants : (e : JournalError) (limits : Limits) (bytes : List ℕ) (start : ℕ) → MeansError e limits bytes start → e ≡ NoMemory → MayWantMemory limits bytes start
scan_wants e limits bytes start is same = subst (λ (x : JournalError). MeansError x limits bytes start) same is

-- the piece that was taken of the bytes is the one that was wanted
pub piece_there : (bytes : List ℕ) (first count first_there count_there : ℕ) → first ≡ first_there → count ≡ count_there
    → part (512 * first_there) (512 * count_there) bytes ≡ take (512 * first + 512 * count - 512 * first) (drop (512 * first) bytes)
piece_there bytes first count first_there count_there one other =
    let size : 512 * count_there ≡ 512 * first + 512 * count - 512 * first = omega (arith, one, other) in
    ap (λ (n : ℕ). part (512 * n) (512 * count_there) bytes) (sym one) ∙ ap (λ (n : ℕ). take n (drop (512 * first) bytes)) size
