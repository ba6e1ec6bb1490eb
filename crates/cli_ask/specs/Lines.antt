-- The lines that are printed of replies.
use Rattle.std.specs.Prelude.{ℕ, ◌-◌, List, [], ◌∷◌, ◌++◌, codes, length, take, drop, if◌then◌else◌, nat_eq}
use Rattle.std.specs.List.{flat_map}
use Rattle.std.specs.Fmt.{decimal}
use Rattle.seg_core.specs.declared.seg_type.SegType.{SegType}
use Rattle.seg_core.specs.SegmentView.{SegmentView}
use Rattle.session_core.specs.declared.service.Ack.{Ack}
use Rattle.session_core.specs.declared.service.TheConstants.{MOST_SEGMENTS}
use Rattle.cli_ask.specs.declared.asking.Answer.{Answer}
use Rattle.cli_ask.specs.declared.asking.Answer.TheVariants.{Whole, Cut}
use Rattle.row_lines.specs.declared.form.RowForm.{RowForm}
use Rattle.row_lines.specs.declared.form.RowForm.TheVariants.{Text, Dated, Json, JsonOfMore}
use Rattle.row_lines.specs.Form.{line_as, of_more}
use Rattle.row_lines.specs.Json.{number_member, joined, object_line}

-- What a command put: how many segments it inserted and updated.
abbrev pub put_text : Ack → List ℕ
put_text ack = decimal ack.outcome.inserted ++ (codes " inserted, " ++ (decimal ack.outcome.updated ++ codes " updated"))

-- How many segments it left, and how many it dropped.
abbrev pub left_text : Ack → List ℕ
left_text ack = decimal ack.outcome.kept ++ (codes " kept, " ++ (decimal ack.outcome.purged ++ codes " purged"))

-- The line of an acknowledgement as text, as `place 0: 1 inserted, 0 updated, 0 kept, 0 purged`.
abbrev pub ack_text : Ack → List ℕ
ack_text ack = codes "place " ++ (decimal ack.place ++ (codes ": " ++ (put_text ack ++ (codes ", " ++ (left_text ack ++ 0x0a ∷ [])))))

-- What a command put, as members of an object of JSON.
unfoldable pub put_json : Ack → List ℕ
put_json ack = joined (number_member (codes "inserted") ack.outcome.inserted) (number_member (codes "updated") ack.outcome.updated)

-- What it left and dropped, as members of an object of JSON.
unfoldable pub left_json : Ack → List ℕ
left_json ack = joined (number_member (codes "kept") ack.outcome.kept) (number_member (codes "purged") ack.outcome.purged)

-- All four counts as members of an object of JSON.
unfoldable pub counts_json : Ack → List ℕ
counts_json ack = joined (put_json ack) (left_json ack)

-- The line of an acknowledgement as an object of JSON.
abbrev pub ack_json : Ack → List ℕ
ack_json ack = object_line (joined (number_member (codes "place") ack.place) (counts_json ack))

-- The line of an acknowledgement.
abbrev pub ack_line : RowForm → Ack → List ℕ
ack_line Text ack = ack_text ack
ack_line Dated ack = ack_text ack
ack_line Json ack = ack_json ack
ack_line JsonOfMore ack = ack_json ack

-- The lines of segments of a type, in their order.
abbrev pub segment_lines : RowForm → SegType → List SegmentView → List ℕ
segment_lines form kind segments = flat_map (λ s. line_as form (kind, s)) segments

-- The lines of what a lookup finds. Where these are as many as a reply may have, the last one says
-- that there may be more.
abbrev pub found_lines : RowForm → SegType → List SegmentView → List ℕ
found_lines form kind segments =
    if nat_eq (length segments) MOST_SEGMENTS
    then segment_lines form kind (take (MOST_SEGMENTS - 1) segments) ++ segment_lines (of_more form) kind (drop (MOST_SEGMENTS - 1) segments)
    else segment_lines form kind segments

-- Whether these are all segments that a lookup could have found.
abbrev pub answer_of : List SegmentView → Answer
answer_of segments = if nat_eq (length segments) MOST_SEGMENTS then Cut else Whole
