-- A response of segments of one type has the map entry of that type alone: for
-- `write_response_of_type`.
use Rattle.std.proofs.Common.{◌≡◌, true, false, List, [], ◌∷◌, ◌++◌, length, refl, ap, ◌∙◌}
use Rattle.std.specs.Prelude.{◌==◌}
use Rattle.std.proofs.lemmas.List.{append-nil}
use Rattle.seg_core.specs.declared.seg_type.SegType.{SegType}
use Rattle.seg_core.specs.declared.seg_type.SegType.TheVariants.{Up, Down, Core}
use Rattle.seg_core.specs.SegmentView.{SegmentView}
use Rattle.seg_core.specs.Registration.{type_number, typed_segments}
use Rattle.seg_core.specs.Encoding.{segments_encoding, of_type, map_entry_encoding, response_encoding}
use Rattle.seg_core.proofs.Responses.{one_of_type, not_of_type, some_bytes}

number_same : (kind : SegType) → (type_number kind == type_number kind) ≡ true
number_same Up = refl
number_same Down = refl
number_same Core = refl

-- all segments are of their type
all_of_type : (kind : SegType) (ss : List SegmentView) → of_type kind (typed_segments kind ss) ≡ ss
all_of_type kind [] = refl
all_of_type kind (s ∷ ss) =
    one_of_type kind (kind, s) (typed_segments kind ss) (number_same kind) ∙ ap (λ ts. s ∷ ts) (all_of_type kind ss)

-- no segments are of another type
none_of_other : (kind other : SegType) (ss : List SegmentView) → (type_number kind == type_number other) ≡ false → of_type other (typed_segments kind ss) ≡ []
none_of_other kind other [] differs = refl
none_of_other kind other (s ∷ ss) differs =
    not_of_type other (kind, s) (typed_segments kind ss) differs ∙ none_of_other kind other ss differs

-- the entries of the types, by the segments of each
by_parts : (up down core : List SegmentView) (rows : List (SegType × SegmentView)) → of_type Up rows ≡ up → of_type Down rows ≡ down → of_type Core rows ≡ core
    → response_encoding rows ≡ map_entry_encoding Up up ++ (map_entry_encoding Down down ++ map_entry_encoding Core core)
unfolding response_encoding
by_parts up down core rows u d c =
    ap (λ ss. map_entry_encoding Up ss ++ (map_entry_encoding Down (of_type Down rows) ++ map_entry_encoding Core (of_type Core rows))) u
    ∙ ap (λ ss. map_entry_encoding Up up ++ (map_entry_encoding Down ss ++ map_entry_encoding Core (of_type Core rows))) d
    ∙ ap (λ ss. map_entry_encoding Up up ++ (map_entry_encoding Down down ++ map_entry_encoding Core ss)) c

pub response-one_type : (kind : SegType) (ss : List SegmentView) → response_encoding (typed_segments kind ss) ≡ map_entry_encoding kind ss
response-one_type Up ss =
    by_parts ss [] [] (typed_segments Up ss) (all_of_type Up ss) (none_of_other Up Down ss refl) (none_of_other Up Core ss refl)
    ∙ append-nil (map_entry_encoding Up ss)
response-one_type Down ss =
    by_parts [] ss [] (typed_segments Down ss) (none_of_other Down Up ss refl) (all_of_type Down ss) (none_of_other Down Core ss refl)
    ∙ append-nil (map_entry_encoding Down ss)
response-one_type Core ss =
    by_parts [] [] ss (typed_segments Core ss) (none_of_other Core Up ss refl) (none_of_other Core Down ss refl) (all_of_type Core ss)

-- a response without segments
pub response-nothing : (kind : SegType) (ss : List SegmentView) → length ss ≡ 0 → response_encoding (typed_segments kind ss) ≡ []
response-nothing kind [] none = response-one_type kind []
response-nothing kind (s ∷ ss) none = cc

-- segments have bytes
pub not_nothing : (ss : List SegmentView) → (length ss ≡ 0 → ⊥) → length (segments_encoding ss) ≡ 0 → ⊥
not_nothing [] some none = some refl
not_nothing (s ∷ ss) some none = some_bytes s ss none
