-- The lemmas that other crates cite, which is all that they take from these proofs.

-- a hop has 12 bytes, and an id has 32, as each digest
pub use Rattle.seg_check.proofs.Digests.{hop-length, sha256-length, sha256-IsBytes, digest-length, digest-IsBytes}
-- no hop entry expires before its segment and one expires with it, at a moment of at most 34 bits
pub use Rattle.seg_check.proofs.Expiries.{expiry-le_hops, expiry-of_hop, expiry-fits}
-- what the first refusal of a check means
pub use Rattle.seg_check.proofs.Checks.{none-IsAccepted, IsAccepted-none, bad-HasFirstBad, HasFirstBad-bad, expired-HasExpired, HasExpired-expired}
