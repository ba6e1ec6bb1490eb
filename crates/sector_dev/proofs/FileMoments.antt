-- The moments of a file, from one state to a later one.
use Rattle.std.proofs.Common.{◌≡◌, inl, inr, ℕ, List, [], ◌∷◌, ◌++◌, sym, ◌∙◌, ap, append_assoc}
use Rattle.std.proofs.lemmas.List.{append-nil}
use Rattle.std.proofs.lemmas.List.Elements.{All-nil, All-cons, All-append, All-weaker}
use Rattle.sector_dev.specs.Disk.{Moment}
use Rattle.sector_dev.specs.PositionedFile.{FileState, FileGoesOn, file_moment, file_moments}
use Rattle.sector_dev.specs.FileCalls.{IsOneStep}

module _ (P : Moment → Type 0) where
  -- one call of the file
  goes_on_by_call : (old new : FileState) → IsOneStep old new → P (file_moment new) → FileGoesOn old new P
  goes_on_by_call old new (inl one) now = record {
    later = file_moment new ∷ [];
    goes_on = ap (λ (list : List Moment). list ++ file_moment new ∷ []) one;
    each = All-cons P (file_moment new) [] now (All-nil P);
  }
  goes_on_by_call old new (inr none) now = record { later = []; goes_on = ap file_moments none ∙ sym (append-nil (file_moments old)); each = All-nil P }

  -- one call, whatever the counts of failures before and after it
  pub goes_on_counted : (old new : FileState) (f g : ℕ) → IsOneStep old new → P (file_moment new) → FileGoesOn (record old { failures = f }) (record new { failures = g }) P
  goes_on_counted old new f g step now = let by_call = goes_on_by_call old new step now in record { later = by_call.later; goes_on = by_call.goes_on; each = by_call.each }

  -- one part of a call, and then the next
  pub goes_on_then : (old mid new : FileState) → FileGoesOn old mid P → FileGoesOn mid new P → FileGoesOn old new P
  goes_on_then old mid new first second = record {
    later = first.later ++ second.later;
    goes_on = second.goes_on ∙ ap (λ (list : List Moment). list ++ second.later) first.goes_on ∙ append_assoc (file_moments old) first.later second.later;
    each = All-append P first.later second.later first.each second.each;
  }

-- each later moment has what follows
pub goes_on_weaker : (P Q : Moment → Type 0) (old new : FileState) → ((m : Moment) → P m → Q m) → FileGoesOn old new P → FileGoesOn old new Q
goes_on_weaker P Q old new follows moments = record { later = moments.later; goes_on = moments.goes_on; each = All-weaker P Q follows moments.later moments.each }
