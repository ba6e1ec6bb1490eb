-- Sessions that end before the first read: for `serve` and `serve_in_lines`, and for the crates
-- above.
use Rattle.std.proofs.Common.{◌≡◌, ℕ, List, [], Option, Err, refl, sym, subst, arith}
use Rattle.std.proofs.KnownBytes.{Appends-nil}
use Rattle.session_core.specs.declared.error.FrameError.{FrameError}
use Rattle.session_core.specs.declared.error.FrameError.TheVariants as error
use Rattle.session_core.specs.declared.message_kinds.Kinds.{Kinds}
use Rattle.session_core.specs.Frames.{MessageView, IsPartial}
use Rattle.session_core.specs.Reply.{ReplyView}
use Rattle.session_core.specs.Session.{IsPrompt, IsServed}
use Rattle.session_core.specs.Lines.{IsServedInLines}
use Rattle.session_core.proofs.AheadLemmas.{none_ahead}
use Rattle.session_core.proofs.Streams.{AreWholeFrames-none}

module _ {kinds : Kinds} where
  -- no bytes are less than a frame
  pub nothing_is_partial : IsPartial kinds []
  nothing_is_partial = record { length_is_right = λ h. absurd (omega arith); kind_is_right = λ h. absurd (omega arith); incomplete = λ h. absurd (omega arith) }

  no_prompt : IsPrompt kinds [] [] []
  no_prompt = record {
    earlier = [];
    last = [];
    pieces_are = refl;
    one = omega arith;
    told = [];
    others = [];
    exchanges_are = refl;
    rest = [];
    framed = record { rest = []; whole = AreWholeFrames-none []; ends = (refl, nothing_is_partial) };
    kept = ([], refl);
  }

  module _ {S R : Type 0} (answers : S → MessageView → ReplyView → S → Type 0) (gives : R → List ℕ → R → Type 0) where
    -- no memory for the first read
    pub ends_at_once : (turns : ℕ) (s : S) (r : R) (i : Type 0) (o : Option (List ℕ)) (e : FrameError) → e ≡ error.NoMemory → IsServed kinds answers gives turns s s r r i o o (Err e)
    ends_at_once turns s r i o e is = subst (λ (x : FrameError). IsServed kinds answers gives turns s s r r i o o (Err x)) (sym is) (record {
      pieces = [];
      exchanges = [];
      rest = [];
      handed = [];
      ahead = none_ahead [];
      written = [];
      read = record { made = refl; few = omega arith; short = tt };
      framed = AreWholeFrames-none [];
      answered = refl;
      sized = tt;
      appended = Appends-nil o;
      told = record { before = []; last = []; parts = refl; one = omega arith; written_is = refl };
      prompt = no_prompt;
      ended = tt;
    })

    -- nothing can be read
    pub fails_at_once : (turns : ℕ) (s : S) (r : R) (i : Type 0) (o : Option (List ℕ)) → IsServed kinds answers gives turns s s r r i o o (Err error.Read)
    fails_at_once turns s r i o = record {
      pieces = [];
      exchanges = [];
      rest = [];
      handed = [];
      ahead = refl;
      written = [];
      read = record { made = refl; few = omega arith; short = tt };
      framed = AreWholeFrames-none [];
      answered = refl;
      sized = tt;
      appended = Appends-nil o;
      told = refl;
      prompt = no_prompt;
      ended = nothing_is_partial;
    }

  -- no memory for a session over bytes in memory
  pub ends_in_lines_at_once : {S : Type 0} (answers : S → MessageView → ReplyView → S → Type 0) (bytes : List ℕ) (s : S) (o : Option (List ℕ)) (e : FrameError) → e ≡ error.NoMemory → IsServedInLines kinds answers bytes s s o o (Err e)
  ends_in_lines_at_once answers bytes s o e is = subst (λ (x : FrameError). IsServedInLines kinds answers bytes s s o o (Err x)) (sym is) (record {
    exchanges = [];
    rest = bytes;
    handed = [];
    ahead = none_ahead bytes;
    written = [];
    framed = AreWholeFrames-none bytes;
    answered = refl;
    sized = tt;
    appended = Appends-nil o;
    told = record { before = []; last = []; parts = refl; one = omega arith; written_is = refl };
    ended = tt;
  })
