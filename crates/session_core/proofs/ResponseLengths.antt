-- The length of a response to a lookup: for `answer`.
use Rattle.std.proofs.Common.{◌≡◌, ◌≤◌, List, [], ◌∷◌, length, refl, arith}
use Rattle.std.specs.List.{AllByRecursion}
use Rattle.std.proofs.lemmas.List.{length-map}
use Rattle.seg_core.specs.declared.seg_type.SegType.{SegType}
use Rattle.seg_core.specs.SegmentView.{SegmentView}
use Rattle.seg_core.specs.Registration.{typed_segments}
use Rattle.seg_core.specs.Encoding.{IsSegment, response_encoding}
use Rattle.seg_core.proofs.ResponseLengths.{short_response-one_type}

rows_are_of_type : (kind : SegType) (segments : List SegmentView) → AllByRecursion (λ row. row.0 ≡ kind) (typed_segments kind segments)
rows_are_of_type kind [] = tt
rows_are_of_type kind (s ∷ segments) = (refl, rows_are_of_type kind segments)

rows_are_whole : (kind : SegType) (segments : List SegmentView) → AllByRecursion IsSegment segments → AllByRecursion (λ row. IsSegment row.1) (typed_segments kind segments)
rows_are_whole kind [] all = tt
rows_are_whole kind (s ∷ segments) all = (all.0, rows_are_whole kind segments all.1)

pub short_found : (kind : SegType) (segments : List SegmentView) → AllByRecursion IsSegment segments → length segments ≤ 64 → length (response_encoding (typed_segments kind segments)) ≤ 1048842
short_found kind segments all few =
    let row : SegmentView → SegType × SegmentView = λ s. (kind, s) in
    let many : length (typed_segments kind segments) ≤ 64 = omega (arith, length-map segments row, few) in
    omega (arith, many, short_response-one_type kind (typed_segments kind segments) (rows_are_of_type kind segments) (rows_are_whole kind segments all) (omega (arith, many)))
