-- The first and the last entry of a segment: for `Wanted::is_shown`.
use Rattle.std.proofs.Common.{◌≡◌, ℕ, ◌-◌, List, [], ◌∷◌, length, Option, Some, None, Bor, refl, ap, ◌∙◌}
use Rattle.std.specs.List.{slice_get}
use Rattle.std.specs.Option.{option_map, option_copied}
use Rattle.seg_core.specs.declared.entry.Entry.{Entry}
use Rattle.seg_core.specs.SegmentView.{EntryView}
use Rattle.seg_core.specs.EntryView.{entry_view, entry_views}
use Rattle.seg_core.specs.Message.{last_of}
use Rattle.path_db.specs.Answer.{covers_entry}
use Rattle.row_map.proofs.Exports.{last_seen}
use Rattle.row_map.specs.Ends.{first_entry_of}

-- the view of the entry that a reference refers to
abbrev pub seen : Option (Bor Entry) → Option EntryView
seen found = option_map (λ e. entry_view e.now) found

seen_copied : (found : Option (Bor Entry)) (there : Option Entry) → option_copied found ≡ there → seen found ≡ option_map entry_view there
seen_copied None there e = ap (λ o. option_map entry_view o) e
seen_copied (Some x) there e = ap (λ o. option_map entry_view o) e

begins_first : (ia : ℕ) (entries : List Entry) → covers_entry ia (option_map entry_view (slice_get entries 0)) ≡ covers_entry ia (first_entry_of (entry_views entries))
begins_first ia [] = refl
begins_first ia (e ∷ entries) = refl

pub begins_is : (ia : ℕ) (entries : List Entry) (found : Option (Bor Entry)) → option_copied found ≡ slice_get entries 0 → covers_entry ia (seen found) ≡ covers_entry ia (first_entry_of (entry_views entries))
begins_is ia entries found e = ap (covers_entry ia) (seen_copied found (slice_get entries 0) e) ∙ begins_first ia entries

pub ends_is : (ia : ℕ) (entries : List Entry) (found : Option (Bor Entry)) → option_copied found ≡ slice_get entries (length entries - 1) → covers_entry ia (seen found) ≡ covers_entry ia (last_of (entry_views entries))
ends_is ia entries found e = ap (covers_entry ia) (seen_copied found (slice_get entries (length entries - 1)) e ∙ last_seen entry_view entries)
