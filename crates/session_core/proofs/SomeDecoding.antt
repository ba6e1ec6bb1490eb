-- Any bytes are the frames of some messages and an ending: for the laws.
use Rattle.std.proofs.Common.{◌≡◌, ℕ, zero, suc, ◌+◌, ◌<◌, ◌≤◌, ◌⊎◌, inl, inr, List, [], ◌∷◌, ◌-◌, length, drop, slice_range, refl, sym, subst, arith}
use Rattle.std.proofs.lemmas.List.{length-drop}
use Rattle.std.proofs.lemmas.Bool.{cases_lt, cases_eq}
use Rattle.session_core.specs.declared.message_kinds.Kinds.{Kinds}
use Rattle.session_core.specs.Frames.{MessageView, length_at, frame_kind_at, greatest_kind, IsFrameLength, IsMessageKind, IsListLength, IsLengthOf, HasRightLength, Ending, Rest, BadLength, BadKind, FramesEndAs, AreFrames}
use Rattle.session_core.specs.Front.{BeginsWithFrame}
use Rattle.session_core.proofs.FrameLemmas.{AreBytes, take_below, drop_below, length-body_at, begins, message_with, message_with_is}
use Rattle.session_core.proofs.Streams.{AreWholeFrames-none, AreWholeFrames-one, AreFrames-behind}

frame_length_cases : (n : ℕ) → IsFrameLength n ⊎ (¬ IsFrameLength n)
frame_length_cases n =
    elim (cases_lt n 1) [
      | inl low ↦ inr (λ h. omega (arith, h.0, low))
      | inr some ↦ elim (cases_lt 131073 n) [ inl high ↦ inr (λ h. omega (arith, h.1, high)) | inr fits ↦ inl (some, fits) ]
    ]

list_length_cases : (len : ℕ) → IsListLength len ⊎ (¬ IsListLength len)
list_length_cases len =
    elim (cases_eq len 18) [
      | inl short ↦ inl (inl short)
      | inr not_short ↦ elim (cases_eq len 50) [
        | inl long ↦ inl (inr long)
        | inr not_long ↦ inr (λ h. elim h [ inl short ↦ not_short short | inr long ↦ not_long long ])
      ]
    ]

length_of_cases : (kind len : ℕ) → IsLengthOf kind len ⊎ (¬ IsLengthOf kind len)
length_of_cases kind len =
    elim (cases_eq kind 3) [
      | inl three ↦ elim (cases_eq len 9) [
        | inl nine ↦ inl (λ _. nine, (λ four. absurd (omega (arith, three, four)), λ five. absurd (omega (arith, three, five))))
        | inr other ↦ inr (λ h. other (h.0 three))
      ]
      | inr not_three ↦ elim (cases_eq kind 4) [
        | inl four ↦ elim (cases_eq len 34) [
          | inl size ↦ inl (λ three. absurd (not_three three), (λ _. size, λ five. absurd (omega (arith, four, five))))
          | inr other ↦ inr (λ h. other (h.1.0 four))
        ]
        | inr not_four ↦ elim (cases_eq kind 5) [
          | inl five ↦ elim (list_length_cases len) [
            | inl size ↦ inl (λ three. absurd (not_three three), (λ four. absurd (not_four four), λ _. size))
            | inr other ↦ inr (λ h. other (h.1.1 five))
          ]
          | inr not_five ↦ inl (λ three. absurd (not_three three), (λ four. absurd (not_four four), λ five. absurd (not_five five)))
        ]
      ]
    ]

module _ (kinds : Kinds) where
  -- the messages at the front, and the ending after them
  pub record Decoding (bytes : List ℕ) : Type 0 where
    pub messages : List MessageView
    pub ending : Ending
    pub framed : AreFrames kinds bytes messages ending

  decoding_none : (bytes : List ℕ) (ending : Ending) → FramesEndAs kinds bytes ending → Decoding bytes
  decoding_none bytes ending ends = record { messages = []; ending = ending; framed = record { rest = bytes; whole = AreWholeFrames-none bytes; ends = ends } }

  decoding_short : (bytes : List ℕ) → length bytes < 4 → Decoding bytes
  decoding_short bytes short = decoding_none bytes (Rest bytes)
      (refl, record { length_is_right = λ h. absurd (omega arith); kind_is_right = λ h. absurd (omega arith); incomplete = λ h. absurd (omega arith) })

  decoding_bad_length : (bytes : List ℕ) → 4 ≤ length bytes → ¬ HasRightLength kinds bytes → Decoding bytes
  decoding_bad_length bytes long bad = decoding_none bytes BadLength (record { long = long; bad = bad })

  decoding_bad_kind : (bytes : List ℕ) → 5 ≤ length bytes → HasRightLength kinds bytes → ¬ IsMessageKind kinds (frame_kind_at bytes) → Decoding bytes
  decoding_bad_kind bytes long sized bad = decoding_none bytes BadKind (record { long = long; length_is_right = sized; bad = bad })

  decoding_partial : (bytes : List ℕ) → 4 ≤ length bytes → HasRightLength kinds bytes → (5 ≤ length bytes → IsMessageKind kinds (frame_kind_at bytes)) → length bytes < 4 + length_at bytes → Decoding bytes
  decoding_partial bytes long sized kind short = decoding_none bytes (Rest bytes)
      (refl, record { length_is_right = λ _. sized; kind_is_right = kind; incomplete = λ _. short })

  decoding_more : (bytes : List ℕ) (m : MessageView) (len : ℕ) → BeginsWithFrame kinds bytes m len → Decoding (drop len bytes) → Decoding bytes
  decoding_more bytes m len f rest = record {
    messages = m ∷ rest.messages;
    ending = rest.ending;
    framed = AreFrames-behind (m ∷ []) rest.messages bytes (drop len bytes) rest.ending (AreWholeFrames-one bytes m len f) rest.framed;
  }

  -- a whole frame of a known kind
  frame_of_kind : (bytes : List ℕ) → AreBytes bytes → HasRightLength kinds bytes → 5 ≤ length bytes → 4 + length_at bytes ≤ length bytes → IsMessageKind kinds (frame_kind_at bytes)
      → (m : MessageView) × BeginsWithFrame kinds bytes m (4 + length_at bytes)
  frame_of_kind bytes b right long whole known =
      let body = slice_range bytes 5 (4 + length_at bytes) in
      let size : 1 + length body ≡ length_at bytes = length-body_at bytes (length_at bytes) right.in_range.0 whole in
      let below : AreBytes body = take_below (4 + length_at bytes - 5) (drop 5 bytes) (drop_below 5 bytes b) in
      let is = message_with_is (frame_kind_at bytes) body below known (subst IsFrameLength (sym size) right.in_range) (subst (IsLengthOf (frame_kind_at bytes)) (sym size) (right.of_kind long known)) in
      (message_with (frame_kind_at bytes) body, begins bytes (length_at bytes) (message_with (frame_kind_at bytes) body) b refl right.in_range.0 whole is.kind_is is.body_is is.fits)

  kind_cases : (n : ℕ) → IsMessageKind kinds n ⊎ (¬ IsMessageKind kinds n)
  kind_cases n =
      elim (cases_lt n 1) [
        | inl low ↦ inr (λ h. omega (arith, h.0, low))
        | inr some ↦ elim (cases_lt (greatest_kind kinds) n) [ inl high ↦ inr (λ h. omega (arith, h.1, high)) | inr known ↦ inl (some, known) ]
      ]

  right_length_cases : (bytes : List ℕ) → HasRightLength kinds bytes ⊎ (¬ HasRightLength kinds bytes)
  right_length_cases bytes =
      elim (frame_length_cases (length_at bytes)) [
        | inr bad ↦ inr (λ h. bad h.in_range)
        | inl fits ↦ elim (cases_lt (length bytes) 5) [
          | inl short ↦ inl (record { in_range = fits; of_kind = λ h. absurd (omega (arith, h, short)) })
          | inr long ↦ elim (kind_cases (frame_kind_at bytes)) [
            | inr strange ↦ inl (record { in_range = fits; of_kind = λ _ known. absurd (strange known) })
            | inl known ↦ elim (length_of_cases (frame_kind_at bytes) (length_at bytes)) [
              | inr bad ↦ inr (λ h. bad (h.of_kind long known))
              | inl right ↦ inl (record { in_range = fits; of_kind = λ _ _. right })
            ]
          ]
        ]
      ]

  decoding_whole : (fuel : ℕ) (bytes : List ℕ) → length bytes ≤ suc fuel → AreBytes bytes → ((rest : List ℕ) → length rest ≤ fuel → AreBytes rest → Decoding rest) → Decoding bytes
  decoding_whole fuel bytes enough b again =
      elim (cases_lt (length bytes) 4) [
        | inl short ↦ decoding_short bytes short
        | inr long ↦ elim (right_length_cases bytes) [
          | inr bad ↦ decoding_bad_length bytes long bad
          | inl sized ↦ elim (cases_lt (length bytes) 5) [
            | inl four ↦ decoding_partial bytes long sized (λ h. absurd (omega arith)) (omega (arith, sized.in_range.0))
            | inr five ↦ elim (kind_cases (frame_kind_at bytes)) [
              | inr bad ↦ decoding_bad_kind bytes five sized bad
              | inl kind ↦ elim (cases_lt (length bytes) (4 + length_at bytes)) [
                | inl short ↦ decoding_partial bytes long sized (λ _. kind) short
                | inr whole ↦
                    let m = frame_of_kind bytes b sized five whole kind in
                    decoding_more bytes m.0 (4 + length_at bytes) m.1 (again (drop (4 + length_at bytes) bytes) (omega (arith, sized.in_range.0, length-drop (4 + length_at bytes) bytes)) (drop_below (4 + length_at bytes) bytes b))
              ]
            ]
          ]
        ]
      ]

  decoding_of : (fuel : ℕ) (bytes : List ℕ) → length bytes ≤ fuel → AreBytes bytes → Decoding bytes
  decoding_of zero bytes enough b = decoding_short bytes (omega arith)
  decoding_of (suc fuel) bytes enough b = decoding_whole fuel bytes enough b (λ rest h c. decoding_of fuel rest h c)

  pub decoding_in : (bytes : List ℕ) → AreBytes bytes → Decoding bytes
  decoding_in bytes b = decoding_of (length bytes) bytes (omega arith) b
