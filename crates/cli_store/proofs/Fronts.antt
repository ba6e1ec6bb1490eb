-- What writes in turn have done together: for what writes by `write_all`.
use Rattle.std.proofs.Common.{ℕ, List, ◌++◌, Option, Result, Ok, Err, IfErr, sym, ap, ◌∙◌, append_assoc}
use Rattle.std.specs.Io.KnownBytes.{Appends}
use Rattle.std.proofs.KnownBytes.{Appends-trans}
use Rattle.whole_writes.proofs.Fronts.{HasWritten}
use Rattle.cli_store.specs.declared.error.Fault.{Fault}
use Rattle.cli_store.specs.Writing.{TextWriteFails}

-- ---- what fails behind a front

pub fails_behind : (a b c : Option (List ℕ)) (bytes next rest : List ℕ) (fault : Fault) → HasWritten a b bytes (next ++ rest) → TextWriteFails b c next fault → TextWriteFails a c bytes fault
fails_behind a b c bytes next rest fault w f = record {
  part = record {
    front = w.front ++ f.part.front;
    rest = f.part.rest ++ rest;
    begins = w.parts
        ∙ ap (λ (t : List ℕ). w.front ++ (t ++ rest)) f.part.begins
        ∙ ap (λ (t : List ℕ). w.front ++ t) (append_assoc f.part.front f.part.rest rest)
        ∙ sym (append_assoc w.front f.part.front (f.part.rest ++ rest));
    appended = Appends-trans a b c w.front f.part.front w.appended f.part.appended;
  };
  of_writing = f.of_writing;
}

-- ---- two byte strings

pub fails_first : (a b : Option (List ℕ)) (head body : List ℕ) (fault : Fault) → TextWriteFails a b head fault → TextWriteFails a b (head ++ body) fault
fails_first a b head body fault f = record {
  part = record {
    front = f.part.front;
    rest = f.part.rest ++ body;
    begins = ap (λ (t : List ℕ). t ++ body) f.part.begins ∙ append_assoc f.part.front f.part.rest body;
    appended = f.part.appended;
  };
  of_writing = f.of_writing;
}

pub fails_second : (a b c : Option (List ℕ)) (head body : List ℕ) (fault : Fault) → Appends a b head → TextWriteFails b c body fault → TextWriteFails a c (head ++ body) fault
fails_second a b c head body fault w f = record {
  part = record {
    front = head ++ f.part.front;
    rest = f.part.rest;
    begins = ap (λ (t : List ℕ). head ++ t) f.part.begins ∙ sym (append_assoc head f.part.front f.part.rest);
    appended = Appends-trans a b c head f.part.front w f.part.appended;
  };
  of_writing = f.of_writing;
}

pub fails_second_of : {T : Type 0} (r : Result T Fault) (a b c : Option (List ℕ)) (head body : List ℕ) → Appends a b head → IfErr r (TextWriteFails b c body) → IfErr r (TextWriteFails a c (head ++ body))
fails_second_of (Ok x) a b c head body w f = f
fails_second_of (Err e) a b c head body w f = fails_second a b c head body e w f
