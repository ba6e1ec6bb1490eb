-- When a segment is refused for the path that its entries form.
use Rattle.std.specs.Prelude.{◌≡◌, ℕ, List, Ok}
use Rattle.seg_core.specs.Steps.{each}
use Rattle.seg_core.specs.SegmentView.{EntryView}
use Rattle.seg_core.specs.Entry.{as_entry_decoding}
use Rattle.seg_core.specs.Segment.{SegmentOutline, segment_outline}
use Rattle.seg_core.specs.WellFormed.{IsEntryChain, HasNoLoop}

-- The outline of a message is valid, and the entries in it are read as these.
pub record HasEntries (message : List ℕ) (entries : List EntryView) : Type 0 where
  pub outline : SegmentOutline
  pub outline_is : segment_outline message ≡ Ok outline
  pub entries_are : each as_entry_decoding outline.entries ≡ Ok entries

-- The entries of a message are read, and they are no chain.
pub record HasNoChain (message : List ℕ) : Type 0 where
  pub entries : List EntryView
  pub read : HasEntries message entries
  pub no_chain : ¬ IsEntryChain entries

-- The entries of a message are read, and they are a chain in which an AS occurs twice.
pub record HasLoop (message : List ℕ) : Type 0 where
  pub entries : List EntryView
  pub read : HasEntries message entries
  pub chain : IsEntryChain entries
  pub loop : ¬ HasNoLoop entries
