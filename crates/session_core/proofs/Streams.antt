-- Whole frames, one after the other, and the bytes after them: for `Framer`, `serve` and the laws.
use Rattle.std.proofs.Common.{◌≡◌, ℕ, ◌+◌, ◌≤◌, List, [], ◌∷◌, ◌++◌, length, drop, refl, sym, ap, ◌∙◌, arith, append_assoc}
use Rattle.std.proofs.lemmas.List.{append-nil, length-append}
use Rattle.std.proofs.lemmas.List.Concat.{flat_map-append}
use Rattle.std.specs.List.{flat_map, AllByRecursion}
use Rattle.session_core.specs.declared.message_kinds.Kinds.{Kinds}
use Rattle.session_core.specs.Frames.{MessageView, message_body, message_frame, FitsFrame, Ending, AreWholeFrames, AreFrames}
use Rattle.session_core.specs.Front.{BeginsWithFrame}

pub sized-append : (kinds : Kinds) (ms ns : List MessageView) → AllByRecursion (FitsFrame kinds) ms → AllByRecursion (FitsFrame kinds) ns → AllByRecursion (FitsFrame kinds) (ms ++ ns)
sized-append kinds [] ns p q = q
sized-append kinds (m ∷ ms) ns p q = (p.0, sized-append kinds ms ns p.1 q)

module _ {kinds : Kinds} where
  -- the bytes before the first whole frame
  pub AreWholeFrames-none : (bytes : List ℕ) → AreWholeFrames kinds bytes [] bytes
  AreWholeFrames-none bytes = record { joined = refl; sized = tt }

  -- frames, and then the frames of the bytes after them
  pub AreWholeFrames-append : (ms ns : List MessageView) (bytes mid rest : List ℕ) → AreWholeFrames kinds bytes ms mid → AreWholeFrames kinds mid ns rest → AreWholeFrames kinds bytes (ms ++ ns) rest
  AreWholeFrames-append ms ns bytes mid rest p q = record {
    joined = p.joined ∙ ap (λ (t : List ℕ). flat_map message_frame ms ++ t) q.joined
        ∙ sym (append_assoc (flat_map message_frame ms) (flat_map message_frame ns) rest)
        ∙ ap (λ (t : List ℕ). t ++ rest) (sym (flat_map-append message_frame ms ns));
    sized = sized-append kinds ms ns p.sized q.sized;
  }

  -- the same frames with more bytes after them
  pub AreWholeFrames-more : (ms : List MessageView) (bytes rest more : List ℕ) → AreWholeFrames kinds bytes ms rest → AreWholeFrames kinds (bytes ++ more) ms (rest ++ more)
  AreWholeFrames-more ms bytes rest more p = record {
    joined = ap (λ (t : List ℕ). t ++ more) p.joined ∙ append_assoc (flat_map message_frame ms) rest more;
    sized = p.sized;
  }

  -- the frame at the front
  pub AreWholeFrames-one : (bytes : List ℕ) (m : MessageView) (len : ℕ) → BeginsWithFrame kinds bytes m len → AreWholeFrames kinds bytes (m ∷ []) (drop len bytes)
  AreWholeFrames-one bytes m len f = record {
    joined = f.frame ∙ ap (λ (t : List ℕ). t ++ drop len bytes) (sym (append-nil (message_frame m)));
    sized = (f.sized, tt);
  }

  -- one more frame after others
  pub AreWholeFrames-next : (ms : List MessageView) (m : MessageView) (bytes mid : List ℕ) (len : ℕ) → AreWholeFrames kinds bytes ms mid → BeginsWithFrame kinds mid m len → AreWholeFrames kinds bytes (ms ++ m ∷ []) (drop len mid)
  AreWholeFrames-next ms m bytes mid len p f = AreWholeFrames-append ms (m ∷ []) bytes mid (drop len mid) p (AreWholeFrames-one mid m len f)

  -- a frame ends within the bytes
  pub BeginsWithFrame-within : (bytes : List ℕ) (m : MessageView) (len : ℕ) → BeginsWithFrame kinds bytes m len → len ≤ length bytes
  BeginsWithFrame-within bytes m len f =
      let whole : length bytes ≡ length (message_frame m) + length (drop len bytes) = ap length f.frame ∙ length-append (message_frame m) (drop len bytes) in
      let parts : length (message_frame m) ≡ 5 + length (message_body m) = omega arith in
      omega (arith, whole, parts, f.len_is)

  -- whole frames, and then frames with this ending
  pub AreFrames-behind : (ms ns : List MessageView) (bytes mid : List ℕ) (ending : Ending) → AreWholeFrames kinds bytes ms mid → AreFrames kinds mid ns ending → AreFrames kinds bytes (ms ++ ns) ending
  AreFrames-behind ms ns bytes mid ending p q = record {
    rest = q.rest;
    whole = AreWholeFrames-append ms ns bytes mid q.rest p q.whole;
    ends = q.ends;
  }
