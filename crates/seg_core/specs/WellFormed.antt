-- When the entries of a segment are one path: each leads to the next, and no AS occurs twice.
use Rattle.std.specs.Prelude.{◌≡◌, ◌≢◌, ℕ, ◌<◌, ◌≤◌, ◌^◌, ◌/◌, ◌%◌, List, [], ◌∷◌, ◌++◌, length, map, All, AllPairs, Bool, true, ◌==◌, ◌&&◌, not, nat_le}
use Rattle.std.specs.List.{list_any}
use Rattle.seg_core.specs.declared.format.TheConstants.{MOST_ENTRIES}
use Rattle.seg_core.specs.SegmentView.{EntryView, SegmentView}

-- ---- the definitions

-- From an entry the path leads to the entry after it: the second entry's AS is the first entry's
-- next AS, and neither the egress of the first nor the ingress of the second is 0.
pub record LeadsTo (e f : EntryView) : Type 0 where
  pub next : e.next ≡ f.ia
  pub egress : e.egress ≢ 0
  pub ingress : f.ingress ≢ 0

-- The path ends at an entry: it has no next AS, and no egress.
abbrev pub EndsAt : EntryView → Type 0
EndsAt e = (e.next ≡ 0) × (e.egress ≡ 0)

-- The first entry has no ingress, each leads to the one after it, and the last one ends the path.
pub record IsEntryChain (entries : List EntryView) : Type 0 where
  pub first : (e : EntryView) (after : List EntryView) → entries ≡ e ∷ after → e.ingress ≡ 0
  pub joined : (before after : List EntryView) (e f : EntryView) → entries ≡ before ++ e ∷ f ∷ after → LeadsTo e f
  pub last : (before : List EntryView) (e : EntryView) → entries ≡ before ++ e ∷ [] → EndsAt e

-- No number occurs twice in the list.
abbrev pub HasNoRepeats : List ℕ → Type 0
HasNoRepeats ns = AllPairs (λ m n. m ≢ n) ns

-- No AS occurs twice in the entries.
abbrev pub HasNoLoop : List EntryView → Type 0
HasNoLoop entries = HasNoRepeats (map (λ e. e.ia) entries)

-- There are 1 to 64 entries.
abbrev pub HasEntryCount : List EntryView → Type 0
HasEntryCount entries = (1 ≤ length entries) × (length entries ≤ MOST_ENTRIES)

-- The numbers of an entry have their widths, and neither its ISD nor its AS is 0.
pub record IsEntryInRange (e : EntryView) : Type 0 where
  pub ia : e.ia < 2 ^ 64
  pub isd : e.ia / 2 ^ 48 ≢ 0
  pub asn : e.ia % 2 ^ 48 ≢ 0
  pub next : e.next < 2 ^ 64
  pub ingress : e.ingress < 2 ^ 16
  pub egress : e.egress < 2 ^ 16
  pub exp_time : e.exp_time < 2 ^ 8

-- The numbers of a segment have their widths.
pub record IsInRange (s : SegmentView) : Type 0 where
  pub timestamp : s.timestamp < 2 ^ 32
  pub segment_id : s.segment_id < 2 ^ 16
  pub entries : All IsEntryInRange s.entries

-- A segment is 1 to 64 entries that are one path without a loop, and its numbers are in their
-- ranges.
pub record IsWellFormed (s : SegmentView) : Type 0 where
  pub counted : HasEntryCount s.entries
  pub chain : IsEntryChain s.entries
  pub no_loop : HasNoLoop s.entries
  pub in_range : IsInRange s

-- ---- the tests of these definitions

-- `HasEntryCount` as a test of the number of entries.
abbrev pub is_entry_count : ℕ → Bool
is_entry_count n = nat_le 1 n && nat_le n MOST_ENTRIES

-- Each entry leads to the one after it, and the last one ends the path.
abbrev pub is_linked : List EntryView → Bool
is_linked [] = true
is_linked (e ∷ []) = e.next == 0 && e.egress == 0
is_linked (e ∷ f ∷ es) = (e.next == f.ia && (not (e.egress == 0) && not (f.ingress == 0))) && is_linked (f ∷ es)

-- `IsEntryChain` as a test: the entries are linked, and the first one has no ingress.
abbrev pub is_chain : List EntryView → Bool
is_chain [] = true
is_chain (e ∷ es) = e.ingress == 0 && is_linked (e ∷ es)

-- `HasNoLoop` as a test.
abbrev pub has_no_loop : List EntryView → Bool
has_no_loop [] = true
has_no_loop (e ∷ es) = not (list_any (λ f. f.ia == e.ia) es) && has_no_loop es
