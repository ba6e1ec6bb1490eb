-- The lemmas that other crates cite, which is all that they take from these proofs.

-- pages, of one row more than they have
pub use Rattle.seg_lookup.proofs.OneMore.{page_segments, page_more, page_some}
