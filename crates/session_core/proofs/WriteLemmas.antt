-- The effect of two writes, one after the other: for the functions that use `write_all`.
use Rattle.std.proofs.Common.{ℕ, List, ◌++◌, Option, Result, Ok, Err, IfErr, sym, ap, ◌∙◌, append_assoc}
use Rattle.std.specs.Io.KnownBytes.{Appends}
use Rattle.std.proofs.KnownBytes.{Appends-trans}
use Rattle.session_core.specs.declared.error.FrameError.{FrameError}
use Rattle.session_core.specs.Answered.{ReplyWriteFails}

pub fails_first : (a b : Option (List ℕ)) (head body : List ℕ) (e : FrameError) → ReplyWriteFails a b head e → ReplyWriteFails a b (head ++ body) e
fails_first a b head body e f = record {
  part = record {
    front = f.part.front;
    rest = f.part.rest ++ body;
    begins = ap (λ (t : List ℕ). t ++ body) f.part.begins ∙ append_assoc f.part.front f.part.rest body;
    appended = f.part.appended;
  };
  fault = f.fault;
}

pub fails_second : (a b c : Option (List ℕ)) (head body : List ℕ) (e : FrameError) → Appends a b head → ReplyWriteFails b c body e → ReplyWriteFails a c (head ++ body) e
fails_second a b c head body e w f = record {
  part = record {
    front = head ++ f.part.front;
    rest = f.part.rest;
    begins = ap (λ (t : List ℕ). head ++ t) f.part.begins ∙ sym (append_assoc head f.part.front f.part.rest);
    appended = Appends-trans a b c head f.part.front w f.part.appended;
  };
  fault = f.fault;
}

pub fails_second_of : {T : Type 0} (r : Result T FrameError) (a b c : Option (List ℕ)) (head body : List ℕ) → Appends a b head → IfErr r (ReplyWriteFails b c body) → IfErr r (ReplyWriteFails a c (head ++ body))
fails_second_of (Ok x) a b c head body w f = f
fails_second_of (Err e) a b c head body w f = fails_second a b c head body e w f
