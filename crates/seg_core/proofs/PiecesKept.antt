-- A piece that is in some bytes is in the same range of these bytes with more bytes after them.
use Rattle.std.proofs.Common.{◌≡◌, ℕ, ◌+◌, ◌-◌, ◌≤◌, List, [], ◌∷◌, ◌++◌, length, take, drop, Result, Ok, Err, Option, Some, None, refl, sym, ap, ◌∙◌, subst, arith, append_assoc, length-append, length-drop}
use Rattle.std.specs.Prelude.{All}
use Rattle.std.specs.Option.{option_map, ForSome}
use Rattle.std.proofs.lemmas.Grind.{flat_map-append}
use Rattle.std.proofs.lemmas.List.{append-nil, map-append, take-append-le, drop-append-le}
use Rattle.std.proofs.lemmas.List.Concat.{flat_map-cons}
use Rattle.std.proofs.lemmas.List.Elements.{All-head, All-tail, All-weaker, All-push}
use Rattle.std.proofs.lemmas.List.Sums.{sum_by-cons}
use Rattle.pw_wire.specs.Field.{bytes_field_encoding}
use Rattle.seg_core.specs.declared.entry.MarkedEntry.{MarkedEntry}
use Rattle.seg_core.specs.declared.error.SegError.{SegError}
use Rattle.seg_core.specs.declared.pieces.Span.{Span}
use Rattle.seg_core.specs.declared.pieces.Spans.{Spans}
use Rattle.seg_core.specs.Steps.{◌>>=◌, each}
use Rattle.seg_core.specs.SegmentView.{EntryView}
use Rattle.seg_core.specs.Pieces.{piece_at, pieces_at, IsSpanWithin, AreWithin}
use Rattle.seg_core.specs.Entry.{as_entry_decoding}
use Rattle.seg_core.specs.EntryView.{entry_of, marked_view, marked_views}
use Rattle.seg_core.specs.Encoding.{as_entry_encoding, entries_encoding}
use Rattle.seg_core.proofs.Sizes.{encoded_len}

-- ---- a piece

pub IsWithin-kept : (bytes more : List ℕ) (span : Span) → IsSpanWithin bytes span → IsSpanWithin (bytes ++ more) span
IsWithin-kept bytes more span is = record { ordered = is.ordered; within = omega (arith, length-append bytes more) }

pub piece-kept : (bytes more : List ℕ) (span : Span) → IsSpanWithin bytes span → piece_at (bytes ++ more) span ≡ piece_at bytes span
piece-kept bytes more span is =
    let from : span.start ≤ length bytes = omega arith in
    let ordered = is.ordered in
    let le : span.end - span.start ≤ length (drop span.start bytes) = omega (arith, length-drop span.start bytes) in
    ap (λ xs. take (span.end - span.start) xs) (drop-append-le span.start bytes more from)
    ∙ take-append-le (span.end - span.start) (drop span.start bytes) more le

-- ---- the pieces of an entry

unsigned-kept : (bytes more : List ℕ) (span : Option Span) → ForSome span (λ s. IsSpanWithin bytes s) → option_map (λ s. piece_at (bytes ++ more) s) span ≡ option_map (λ s. piece_at bytes s) span
unsigned-kept bytes more None are = refl
unsigned-kept bytes more (Some span) are = ap (λ s. Some s) (piece-kept bytes more span (are span refl))

pieces-kept : (bytes more : List ℕ) (spans : Spans) → AreWithin bytes spans → pieces_at (bytes ++ more) spans ≡ pieces_at bytes spans
pieces-kept bytes more spans are = λ i. record {
  signed = piece-kept bytes more spans.signed are.signed i;
  signature = piece-kept bytes more spans.signature are.signature i;
  unsigned = unsigned-kept bytes more spans.unsigned are.unsigned i;
}

AreWithin-kept : (bytes more : List ℕ) (spans : Spans) → AreWithin bytes spans → AreWithin (bytes ++ more) spans
AreWithin-kept bytes more spans are = record {
  signed = IsWithin-kept bytes more spans.signed are.signed;
  signature = IsWithin-kept bytes more spans.signature are.signature;
  unsigned = λ span is. IsWithin-kept bytes more span (are.unsigned span is);
}

-- ---- entries

-- the pieces of all entries are within the bytes
abbrev pub AllWithin : List ℕ → List MarkedEntry → Type 0
AllWithin bytes es = All (λ e. AreWithin bytes e.spans) es

AllWithin-kept : (bytes more : List ℕ) (es : List MarkedEntry) → AllWithin bytes es → AllWithin (bytes ++ more) es
AllWithin-kept bytes more es are = All-weaker (λ e. AreWithin bytes e.spans) (λ e. AreWithin (bytes ++ more) e.spans) (λ e. AreWithin-kept bytes more e.spans) es are

views-kept : (bytes more : List ℕ) (es : List MarkedEntry) → AllWithin bytes es → marked_views (bytes ++ more) es ≡ marked_views bytes es
views-kept bytes more [] are = refl
views-kept bytes more (e ∷ es) are =
    let first = ap (entry_of e.body) (pieces-kept bytes more e.spans (All-head (λ e. AreWithin bytes e.spans) e es are)) in
    ap (λ v. v ∷ marked_views (bytes ++ more) es) first
    ∙ ap (λ vs. marked_view bytes e ∷ vs) (views-kept bytes more es (All-tail (λ e. AreWithin bytes e.spans) e es are))

-- ---- one more entry, after the bytes that were put for the entries before it

-- an entry that was put after these bytes
pub record IsPut (bytes more : List ℕ) (e : MarkedEntry) : Type 0 where
  pub put : more ≡ bytes ++ bytes_field_encoding 2 (as_entry_encoding (marked_view more e))
  pub within : AreWithin more e.spans

pub AllWithin-more : (bytes more : List ℕ) (es : List MarkedEntry) (e : MarkedEntry) → IsPut bytes more e → AllWithin bytes es → AllWithin more (es ++ e ∷ [])
AllWithin-more bytes more es e one are =
    let behind = bytes_field_encoding 2 (as_entry_encoding (marked_view more e)) in
    All-push (λ e. AreWithin more e.spans) es e (subst (λ bs. AllWithin bs es) (sym one.put) (AllWithin-kept bytes behind es are)) one.within

views-more : (bytes more : List ℕ) (es : List MarkedEntry) (e : MarkedEntry) → IsPut bytes more e → AllWithin bytes es
    → marked_views more (es ++ e ∷ []) ≡ marked_views bytes es ++ marked_view more e ∷ []
views-more bytes more es e one are =
    let behind = bytes_field_encoding 2 (as_entry_encoding (marked_view more e)) in
    map-append (λ e. marked_view more e) es (e ∷ [])
    ∙ ap (λ vs. vs ++ marked_view more e ∷ []) (ap (λ bs. marked_views bs es) one.put ∙ views-kept bytes behind es are)

append-one : (vs : List EntryView) (v : EntryView) (r : Result (List EntryView) SegError)
    → ((r >>= λ others. Ok (v ∷ others)) >>= λ others. Ok (vs ++ others)) ≡ (r >>= λ others. Ok ((vs ++ v ∷ []) ++ others))
append-one vs v (Ok others) = ap (λ all. Ok all) (sym (append_assoc vs (v ∷ []) others))
append-one vs v (Err refusal) = refl

pub decoding-more : (all rest left : List (List ℕ)) (message bytes more : List ℕ) (es : List MarkedEntry) (e : MarkedEntry) → IsPut bytes more e → AllWithin bytes es
    → rest ≡ message ∷ left → as_entry_decoding message ≡ Ok (marked_view more e)
    → each as_entry_decoding all ≡ (each as_entry_decoding rest >>= λ others. Ok (marked_views bytes es ++ others))
    → each as_entry_decoding all ≡ (each as_entry_decoding left >>= λ others. Ok (marked_views more (es ++ e ∷ []) ++ others))
decoding-more all rest left message bytes more es e one are split read so_far =
    let vs = marked_views bytes es in
    so_far
    ∙ ap (λ messages. each as_entry_decoding messages >>= λ others. Ok (vs ++ others)) split
    ∙ ap (λ (r : Result EntryView SegError). (r >>= λ first. each as_entry_decoding left >>= λ others. Ok (first ∷ others)) >>= λ others. Ok (vs ++ others)) read
    ∙ append-one vs (marked_view more e) (each as_entry_decoding left)
    ∙ ap (λ (vs : List EntryView). each as_entry_decoding left >>= λ others. Ok (vs ++ others)) (sym (views-more bytes more es e one are))

pub put-more : (out bytes more : List ℕ) (es : List MarkedEntry) (e : MarkedEntry) → IsPut bytes more e → AllWithin bytes es
    → bytes ≡ out ++ entries_encoding (marked_views bytes es) → more ≡ out ++ entries_encoding (marked_views more (es ++ e ∷ []))
put-more out bytes more es e one are so_far =
    let vs = marked_views bytes es in
    let v = marked_view more e in
    let field : EntryView → List ℕ = λ e. bytes_field_encoding 2 (as_entry_encoding e) in
    one.put
    ∙ ap (λ bs. bs ++ field v) so_far
    ∙ append_assoc out (entries_encoding vs) (field v)
    ∙ ap (λ bs. out ++ (entries_encoding vs ++ bs)) (sym (flat_map-cons field v [] ∙ append-nil (field v)))
    ∙ ap (λ bs. out ++ bs) (sym (flat_map-append field vs (v ∷ [])))
    ∙ ap (λ vs. out ++ entries_encoding vs) (sym (views-more bytes more es e one are))

pub room-more : (rest left : List (List ℕ)) (message : List ℕ) (n m : ℕ) → rest ≡ message ∷ left → m ≤ n + length (bytes_field_encoding 2 message)
    → n + encoded_len 2 rest ≤ 16384 → m + encoded_len 2 left ≤ 16384
room-more rest left message n m split short room =
    omega (arith, ap (λ messages. encoded_len 2 messages) split, sum_by-cons (λ t. length (bytes_field_encoding 2 t)) message left)
