-- The number of segments that were found is the number that the entries have.
use Rattle.std.proofs.Common.{length, ap, rules}
use Rattle.seg_core.specs.Registration.{map_entry_decoding}
use Rattle.seg_core.proofs.registration.read_map_entry.Goals as goal

pub returns-in_err-read_segments : goal.returns-in_err-read_segments
unfolding map_entry_decoding
returns-in_err-read_segments c = λ entries noted rows.
    let count = ap length rows in
    search rules
