-- A session over a connection, by the session over what reads it and what writes it: for
-- `serve_connection`.
use Rattle.std.proofs.Common.{◌≡◌, ℕ, List, [], ◌∷◌, ◌++◌, Some, Result, Ok, Err, refl, sym, ap, subst}
use Rattle.std.specs.List.{FoldsTo}
use Rattle.std.proofs.lemmas.List.{append-nil}
use Rattle.session_core.specs.declared.error.FrameError.{FrameError}
use Rattle.session_core.specs.declared.error.FrameError.TheVariants as error
use Rattle.session_core.specs.declared.message_kinds.Kinds.{Kinds}
use Rattle.session_core.specs.declared.source.TheConstants.{MOST_READS}
use Rattle.session_core.specs.Frames.{MessageView}
use Rattle.session_core.specs.HandedIn.{HandsInFromSource}
use Rattle.session_core.specs.Reply.{ReplyView}
use Rattle.session_core.specs.Session.{IsServed, IsSentFor}
use Rattle.session_core.proofs.AtOnce.{ends_at_once, fails_at_once}
use Rattle.session_core.proofs.HandedInLemmas.{hands_in_at_once}
use Rattle.paced_stream.specs.Connection.{IsConnectionServed}

-- ---- before the first read

module _ {S T : Type 0} {kinds : Kinds} (answers : S → MessageView → ReplyView → S → Type 0) (given taken : T → List ℕ) (is_at_end : T → Type 0) where
  -- a session that has written nothing leaves nothing unsent
  connected : (s : S) (input output : T) (e : FrameError)
      → IsServed kinds answers (λ old bytes new. given new ≡ given old ++ bytes) MOST_READS s s input input (is_at_end input) (Some (taken output)) (Some (taken output)) (Err e)
      → IsSentFor (◌≡◌ {A = List ℕ} [] []) (Err e) → IsConnectionServed kinds answers given taken is_at_end s s input input output output (Err e)
  connected s input output e served sent = record {
    unsent = [];
    served = subst (λ (written : List ℕ). IsServed kinds answers (λ old bytes new. given new ≡ given old ++ bytes) MOST_READS s s input input (is_at_end input) (Some (taken output)) (Some written) (Err e)) (sym (append-nil (taken output))) served;
    sent = sent;
  }

  -- and it leaves the connection as it was
  left_as_it_was : (s : S) (input input_left output output_left : T) (e : FrameError) → input_left ≡ input → output_left ≡ output
      → IsConnectionServed kinds answers given taken is_at_end s s input input output output (Err e) → IsConnectionServed kinds answers given taken is_at_end s s input input_left output output_left (Err e)
  left_as_it_was s input input_left output output_left e i o served =
      subst (λ (u : T). IsConnectionServed kinds answers given taken is_at_end s s input u output output_left (Err e)) (sym i)
      (subst (λ (u : T). IsConnectionServed kinds answers given taken is_at_end s s input input output u (Err e)) (sym o) served)

  -- the connection could not be set up
  pub not_set_up : (s : S) (input input_left output output_left : T) → input_left ≡ input → output_left ≡ output
      → IsConnectionServed kinds answers given taken is_at_end s s input input_left output output_left (Err error.Read)
  not_set_up s input input_left output output_left i o =
      left_as_it_was s input input_left output output_left error.Read i o (connected s input output error.Read (fails_at_once answers _ MOST_READS s input (is_at_end input) (Some (taken output))) refl)

  -- there is no memory for the buffer
  pub without_buffer : (s : S) (input input_left output output_left : T) → input_left ≡ input → output_left ≡ output
      → IsConnectionServed kinds answers given taken is_at_end s s input input_left output output_left (Err error.NoMemory)
  without_buffer s input input_left output output_left i o =
      left_as_it_was s input input_left output output_left error.NoMemory i o (connected s input output error.NoMemory (ends_at_once answers _ MOST_READS s input (is_at_end input) (Some (taken output)) error.NoMemory refl) refl)

-- nothing was handed in from a connection that is left as it was
pub hands_in_nothing : {X T : Type 0} (kinds : Kinds) (hands_in : X → MessageView → X → Type 0) (gives : T → List ℕ → T → Type 0) (input input_left : T) (x : X)
    → input_left ≡ input → HandsInFromSource kinds hands_in gives MOST_READS input input_left x x
hands_in_nothing kinds hands_in gives input input_left x i =
    subst (λ (u : _). HandsInFromSource kinds hands_in gives MOST_READS input u x x) (sym i) (hands_in_at_once hands_in gives MOST_READS input x)

-- ---- a whole session

-- what is not held back is sent
pub sent_through : (P Q : Type 0) (result : Result ℕ FrameError) → (P → Q) → IsSentFor P result → IsSentFor Q result
sent_through P Q (Ok count) f p = f p
sent_through P Q (Err error.NoMemory) f p = f p
sent_through P Q (Err error.Length) f p = f p
sent_through P Q (Err error.Kind) f p = f p
sent_through P Q (Err error.Read) f p = f p
sent_through P Q (Err error.Write) f p = tt
sent_through P Q (Err error.Turns) f p = f p

module _ {S P T : Type 0} (kinds : Kinds) (answers : S → MessageView → ReplyView → S → Type 0) (given taken : T → List ℕ) (is_at_end : T → Type 0) (stream : P → T) where
  -- reads of what reads the connection are reads of the connection
  reads_through : (old : P) (pieces : List (List ℕ)) (new : P)
      → FoldsTo (λ a bytes b. given (stream b) ≡ given (stream a) ++ bytes) old pieces new → FoldsTo (λ a bytes b. given b ≡ given a ++ bytes) (stream old) pieces (stream new)
  reads_through old [] new same = ap stream same
  reads_through old (piece ∷ pieces) new (next, first, rest) = (stream next, first, reads_through next pieces new rest)

  -- what was handed in from what reads the connection was handed in from the connection
  pub handed_in_through : {X : Type 0} (hands_in : X → MessageView → X → Type 0) (reader reader_left : P) (input input_left : T) (x y : X)
      → HandsInFromSource kinds hands_in (λ a bytes b. given (stream b) ≡ given (stream a) ++ bytes) MOST_READS reader reader_left x y → stream reader ≡ input → input_left ≡ stream reader_left
      → HandsInFromSource kinds hands_in (λ a bytes b. given b ≡ given a ++ bytes) MOST_READS input input_left x y
  handed_in_through hands_in reader reader_left input input_left x y h begins ends =
      subst (λ (u : T). HandsInFromSource kinds hands_in (λ a bytes b. given b ≡ given a ++ bytes) MOST_READS input u x y) (sym ends)
      (subst (λ (u : T). HandsInFromSource kinds hands_in (λ a bytes b. given b ≡ given a ++ bytes) MOST_READS u (stream reader_left) x y) begins (record {
        pieces = h.pieces;
        read = record { made = reads_through reader h.pieces reader_left h.read.made; few = h.read.few; short = h.read.short };
        rest = h.rest;
        front = h.front;
      }))

  abbrev Over : S → S → T → T → List ℕ → List ℕ → Result ℕ FrameError → Type 0
  Over s t input input_left written written_left result = IsServed kinds answers (λ a bytes b. given b ≡ given a ++ bytes) MOST_READS s t input input_left (is_at_end input_left) (Some written) (Some written_left) result

  over_stream : (s t : S) (reader reader_left : P) (written written_left : List ℕ) (result : Result ℕ FrameError)
      → IsServed kinds answers (λ a bytes b. given (stream b) ≡ given (stream a) ++ bytes) MOST_READS s t reader reader_left (is_at_end (stream reader_left)) (Some written) (Some written_left) result
      → Over s t (stream reader) (stream reader_left) written written_left result
  over_stream s t reader reader_left written written_left result x = record {
    pieces = x.pieces;
    exchanges = x.exchanges;
    rest = x.rest;
    handed = x.handed;
    written = x.written;
    read = record { made = reads_through reader x.pieces reader_left x.read.made; few = x.read.few; short = x.read.short };
    framed = x.framed;
    answered = x.answered;
    ahead = x.ahead;
    sized = x.sized;
    appended = x.appended;
    told = x.told;
    prompt = x.prompt;
    ended = x.ended;
  }

  pub served_through : (s t : S) (reader reader_left : P) (input input_left output output_left : T) (written written_left unsent : List ℕ) (Held : Type 0) (result : Result ℕ FrameError)
      → IsServed kinds answers (λ a bytes b. given (stream b) ≡ given (stream a) ++ bytes) MOST_READS s t reader reader_left (is_at_end (stream reader_left)) (Some written) (Some written_left) result
      → IsSentFor Held result
      → stream reader ≡ input → input_left ≡ stream reader_left → written ≡ taken output → taken output_left ++ unsent ≡ written_left → (Held → unsent ≡ [])
      → IsConnectionServed kinds answers given taken is_at_end s t input input_left output output_left result
  served_through s t reader reader_left input input_left output output_left written written_left unsent Held result x sent begins ends first last none = record {
    unsent = unsent;
    sent = sent_through Held (unsent ≡ []) result none sent;
    served =
        subst (λ (o : List ℕ). Over s t input input_left o (taken output_left ++ unsent) result) first
        (subst (λ (o : List ℕ). Over s t input input_left written o result) (sym last)
        (subst (λ (u : T). Over s t input u written written_left result) (sym ends)
        (subst (λ (u : T). Over s t u (stream reader_left) written written_left result) begins
        (over_stream s t reader reader_left written written_left result x))));
  }
