-- Each committed command that is claimed is kept since its moment.
use Rattle.std.proofs.Common.{ℕ, zero, suc, ◌≤◌, List, [], ◌∷◌, arith}
use Rattle.std.specs.List.{AllByRecursion}
use Rattle.row_map.specs.Database.{RowView}
use Rattle.sector_dev.specs.Disk.{History}
use Rattle.store_layout.specs.Opening.{StoreValue}
use Rattle.command_log.specs.declared.rule.Claim.{Claim}
use Rattle.command_log.specs.Log.{Log, IsCommitted}
use Rattle.logged_state.specs.Kept.{AllKept, IsClaimKept, AllClaimsKept, IsFrontKept}

pub claim_kept : (opening : StoreValue (List RowView)) (log : Log) (history : History) (claim : Claim) → IsCommitted log claim → AllKept opening log history → IsClaimKept opening log history claim
claim_kept opening log history claim found kept = record { has = found.has; kept = kept claim.index found.below }

pub all_claims_kept : (opening : StoreValue (List RowView)) (log : Log) (history : History) (claims : List Claim) → AllByRecursion (IsCommitted log) claims → AllKept opening log history → AllClaimsKept opening log history claims
all_claims_kept opening log history [] found kept = tt
all_claims_kept opening log history (claim ∷ claims) found kept = (claim_kept opening log history claim found.0 kept, all_claims_kept opening log history claims found.1 kept)

-- so are the first commands, if they are committed
pub front_kept : (opening : StoreValue (List RowView)) (log : Log) (history : History) (count : ℕ) → count ≤ log.committed → AllKept opening log history → IsFrontKept opening log history count
front_kept opening log history zero below kept = tt
front_kept opening log history (suc index) below kept = kept index (omega (arith, below))
