-- The lemmas that other crates cite, which is all that they take from these proofs.

pub use Rattle.path_db.proofs.Lists.{take_all}
-- members of what a test keeps of a list
pub use Rattle.path_db.proofs.Elements.{Contains-head, Contains-later, kept_passes, passing_kept}
