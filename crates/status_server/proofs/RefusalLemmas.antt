-- The refusals of some counts.
use Rattle.std.proofs.Common.{◌≡◌, ℕ, List, length}
use Rattle.status_page.specs.declared.counts.CodeCount.{CodeCount}
use Rattle.status_server.specs.Refusals.{refusals_below, AreRefusals}

pub are_refusals : (bound : ℕ) (refusals : List CodeCount) (counts : List ℕ) → length counts ≡ bound → refusals ≡ refusals_below bound counts
    → AreRefusals bound refusals
are_refusals bound refusals counts each are = record { counts = counts; each = each; are = are }
