-- The combined effect of several writes in pieces.
use Rattle.std.proofs.Common.{◌≡◌, ℕ, List, ◌++◌, take, drop, Option, sym, ap, ◌∙◌, append_assoc, take-append-drop}
use Rattle.std.specs.Io.KnownBytes.{Appends}
use Rattle.std.proofs.KnownBytes.{Appends-trans}

-- A front of the bytes was written, and this rest is left.
pub record HasWritten (output output_left : Option (List ℕ)) (bytes rest : List ℕ) : Type 0 where
  pub front : List ℕ
  pub parts : bytes ≡ front ++ rest
  pub appended : Appends output output_left front

pub HasWritten-more : (a b c : Option (List ℕ)) (bytes rest : List ℕ) (n : ℕ) → HasWritten a b bytes rest → Appends b c (take n rest) → HasWritten a c bytes (drop n rest)
HasWritten-more a b c bytes rest n w more = record {
  front = w.front ++ take n rest;
  parts = w.parts ∙ ap (λ (t : List ℕ). w.front ++ t) (sym (take-append-drop n rest)) ∙ sym (append_assoc w.front (take n rest) (drop n rest));
  appended = Appends-trans a b c w.front (take n rest) w.appended more;
}

-- the next bytes of the rest, and what is left after them
pub HasWritten-next : (a b c : Option (List ℕ)) (bytes next rest : List ℕ) → HasWritten a b bytes (next ++ rest) → Appends b c next → HasWritten a c bytes rest
HasWritten-next a b c bytes next rest w more = record {
  front = w.front ++ next;
  parts = w.parts ∙ sym (append_assoc w.front next rest);
  appended = Appends-trans a b c w.front next w.appended more;
}
