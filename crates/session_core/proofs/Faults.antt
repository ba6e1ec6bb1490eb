-- A fault of a frame stays, whatever bytes come after: for `Framer` and the laws.
use Rattle.std.proofs.Common.{◌≡◌, ℕ, ◌≤◌, List, ◌++◌, length, sym, ap, subst, ◌∙◌, arith}
use Rattle.std.proofs.lemmas.List.{length-append, take-append-le, get_or_append_left}
use Rattle.std.specs.Int.{w32, from_be_bytes}
use Rattle.session_core.specs.declared.message_kinds.Kinds.{Kinds}
use Rattle.session_core.specs.Frames.{MessageView, length_at, frame_kind_at, IsFrameLength, IsMessageKind, IsLengthOf, HasRightLength, HasBadLength, HasBadKind, BadLength, BadKind, AreFrames}
use Rattle.session_core.proofs.Streams.{AreWholeFrames-more}

length_at-more : (bytes more : List ℕ) → 4 ≤ length bytes → length_at (bytes ++ more) ≡ length_at bytes
length_at-more bytes more long = ap (from_be_bytes w32) (take-append-le 4 bytes more long)

kind_at-more : (bytes more : List ℕ) → 5 ≤ length bytes → frame_kind_at (bytes ++ more) ≡ frame_kind_at bytes
kind_at-more bytes more long = get_or_append_left bytes more 0 4 (omega arith)

length_of-more : (bytes more : List ℕ) → 5 ≤ length bytes → IsLengthOf (frame_kind_at (bytes ++ more)) (length_at (bytes ++ more)) ≡ IsLengthOf (frame_kind_at bytes) (length_at bytes)
length_of-more bytes more long =
    ap (λ (k : ℕ). IsLengthOf k (length_at (bytes ++ more))) (kind_at-more bytes more long) ∙ ap (IsLengthOf (frame_kind_at bytes)) (length_at-more bytes more (omega arith))

module _ {kinds : Kinds} where
  -- a wrong length stays wrong, whatever bytes come after
  HasRightLength-front : (bytes more : List ℕ) → 4 ≤ length bytes → HasRightLength kinds (bytes ++ more) → HasRightLength kinds bytes
  HasRightLength-front bytes more four h = record {
    in_range = subst IsFrameLength (length_at-more bytes more four) h.in_range;
    of_kind = λ long known. subst (λ (P : Type 0). P) (length_of-more bytes more long) (h.of_kind (omega (arith, length-append bytes more, long)) (subst (IsMessageKind kinds) (sym (kind_at-more bytes more long)) known));
  }

  HasRightLength-more : (bytes more : List ℕ) → 5 ≤ length bytes → HasRightLength kinds bytes → HasRightLength kinds (bytes ++ more)
  HasRightLength-more bytes more long h = record {
    in_range = subst IsFrameLength (sym (length_at-more bytes more (omega arith))) h.in_range;
    of_kind = λ _ known. subst (λ (P : Type 0). P) (sym (length_of-more bytes more long)) (h.of_kind long (subst (IsMessageKind kinds) (kind_at-more bytes more long) known));
  }

  HasBadLength-more : (bytes more : List ℕ) → HasBadLength kinds bytes → HasBadLength kinds (bytes ++ more)
  HasBadLength-more bytes more h = record {
    long = omega (arith, h.long, length-append bytes more);
    bad = λ right. h.bad (HasRightLength-front bytes more h.long right);
  }

  HasBadKind-more : (bytes more : List ℕ) → HasBadKind kinds bytes → HasBadKind kinds (bytes ++ more)
  HasBadKind-more bytes more h = record {
    long = omega (arith, h.long, length-append bytes more);
    length_is_right = HasRightLength-more bytes more h.long h.length_is_right;
    bad = λ known. h.bad (subst (IsMessageKind kinds) (kind_at-more bytes more h.long) known);
  }

  pub AreFrames-bad_length : (bytes more : List ℕ) (ms : List MessageView) → AreFrames kinds bytes ms BadLength → AreFrames kinds (bytes ++ more) ms BadLength
  AreFrames-bad_length bytes more ms p = record {
    rest = p.rest ++ more;
    whole = AreWholeFrames-more ms bytes p.rest more p.whole;
    ends = HasBadLength-more p.rest more p.ends;
  }

  pub AreFrames-bad_kind : (bytes more : List ℕ) (ms : List MessageView) → AreFrames kinds bytes ms BadKind → AreFrames kinds (bytes ++ more) ms BadKind
  AreFrames-bad_kind bytes more ms p = record {
    rest = p.rest ++ more;
    whole = AreWholeFrames-more ms bytes p.rest more p.whole;
    ends = HasBadKind-more p.rest more p.ends;
  }
