-- A segment is refused as no chain, or for a loop, exactly when its entries are read and are no
-- chain, or have a loop. For the law `path_refusals_are_exact`.
use Rattle.std.proofs.Common.{◌≡◌, ℕ, Bool, true, false, List, Result, Ok, Err, refl, sym, ◌∙◌}
use Rattle.std.specs.Prelude.{◌↔◌}
use Rattle.std.proofs.lemmas.Bool.{false≢true}
use Rattle.seg_core.specs.declared.error.SegError.{SegError}
use Rattle.seg_core.specs.declared.error.SegError.TheVariants.{Chain, Loop}
use Rattle.seg_core.specs.Steps.{◌>>=◌, must_hold, each}
use Rattle.seg_core.specs.SegmentView.{EntryView, SegmentView}
use Rattle.seg_core.specs.Entry.{as_entry_decoding}
use Rattle.seg_core.specs.Segment.{segment_outline, segment_decoding}
use Rattle.seg_core.specs.WellFormed.{is_chain, has_no_loop}
use Rattle.seg_core.specs.PathRefusals.{HasEntries, HasNoChain, HasLoop}
use Rattle.seg_core.proofs.Paths.{chain-IsChain, chain-from, no_loop-HasNoLoop, no_loop-from}
use Rattle.seg_core.proofs.Refusals.{FailsWithin, is_plain, each_within, plain_as_entry, plain_segment_outline}
use Rattle.seg_core.proofs.RoundTrip.{goes_on}

-- the step after a step whose failures are all plain
later_err : {A B : Type 0} (r : Result A SegError) (f : A → Result B SegError) (e : SegError) → FailsWithin is_plain r → is_plain e ≡ false → (r >>= f) ≡ Err e → (x : A) × (r ≡ Ok x) × (f x ≡ Err e)
later_err (Ok x) f e plain isnt is = (x, refl, is)
later_err (Err d) f e plain isnt is = absurd (false≢true (sym isnt ∙ plain.passes e (cc)))

-- the tests of the path, and the segment that is the result after them
abbrev path : List EntryView → SegmentView → Result SegmentView SegError
path es s = must_hold (is_chain es) Chain >>= λ _. must_hold (has_no_loop es) Loop >>= λ _. Ok s

-- what was read of a segment that is refused for its path
record WasRead (message : List ℕ) (e : SegError) : Type 0 where
  entries : List EntryView
  segment : SegmentView
  read : HasEntries message entries
  refused : path entries segment ≡ Err e

was_read : (message : List ℕ) (e : SegError) → is_plain e ≡ false → segment_decoding message ≡ Err e → WasRead message e
unfolding segment_decoding
was_read message e isnt is =
    let outline = later_err (segment_outline message) _ e (plain_segment_outline message) isnt is in
    let entries = later_err (each as_entry_decoding outline.0.entries) _ e (each_within is_plain as_entry_decoding outline.0.entries plain_as_entry) isnt outline.2 in
    record {
      entries = entries.0;
      segment = record { timestamp = outline.0.timestamp; segment_id = outline.0.segment_id; info = outline.0.info; entries = entries.0 };
      read = record { outline = outline.0; outline_is = outline.1; entries_are = entries.1 };
      refused = entries.2;
    }

no_chain : (a b : Bool) (s : SegmentView) → (must_hold a Chain >>= λ _. must_hold b Loop >>= λ _. Ok s) ≡ Err Chain → a ≡ false
no_chain false b s is = refl
no_chain true true s is = absurd cc
no_chain true false s is = absurd cc

loop : (a b : Bool) (s : SegmentView) → (must_hold a Chain >>= λ _. must_hold b Loop >>= λ _. Ok s) ≡ Err Loop → (a ≡ true) × (b ≡ false)
loop false b s is = absurd cc
loop true true s is = absurd cc
loop true false s is = (refl, refl)

-- a test that is not true is false
fails : (b : Bool) → (b ≡ true → ⊥) → b ≡ false
fails true isnt = absurd (isnt refl)
fails false isnt = refl

goes_to : (message : List ℕ) (es : List EntryView) (e : SegError) → HasEntries message es → ((s : SegmentView) → path es s ≡ Err e) → segment_decoding message ≡ Err e
unfolding segment_decoding
goes_to message es e read refused =
    goes_on (segment_outline message) _ read.outline (Err e) read.outline_is
    (goes_on (each as_entry_decoding read.outline.entries) _ es (Err e) read.entries_are
    (refused (record { timestamp = read.outline.timestamp; segment_id = read.outline.segment_id; info = read.outline.info; entries = es })))

to_chain : (message : List ℕ) → segment_decoding message ≡ Err Chain → HasNoChain message
to_chain message is =
    let was = was_read message Chain refl is in
    let isnt = no_chain (is_chain was.entries) (has_no_loop was.entries) was.segment was.refused in
    record { entries = was.entries; read = was.read; no_chain = λ chain. false≢true (sym isnt ∙ chain-from was.entries chain) }

from_chain : (message : List ℕ) → HasNoChain message → segment_decoding message ≡ Err Chain
from_chain message has =
    let isnt = fails (is_chain has.entries) (λ is. has.no_chain (chain-IsChain has.entries is)) in
    goes_to message has.entries Chain has.read (λ s. rw isnt refl)

to_loop : (message : List ℕ) → segment_decoding message ≡ Err Loop → HasLoop message
to_loop message is =
    let was = was_read message Loop refl is in
    let tests = loop (is_chain was.entries) (has_no_loop was.entries) was.segment was.refused in
    record {
      entries = was.entries;
      read = was.read;
      chain = chain-IsChain was.entries tests.0;
      loop = λ none. false≢true (sym tests.1 ∙ no_loop-from was.entries none);
    }

from_loop : (message : List ℕ) → HasLoop message → segment_decoding message ≡ Err Loop
from_loop message has =
    let chained = chain-from has.entries has.chain in
    let isnt = fails (has_no_loop has.entries) (λ is. has.loop (no_loop-HasNoLoop has.entries is)) in
    goes_to message has.entries Loop has.read (λ s. rw (chained, isnt) refl)

pub chain_refusal-iff : (message : List ℕ) → (segment_decoding message ≡ Err Chain) ↔ HasNoChain message
chain_refusal-iff message = (to_chain message, from_chain message)

pub loop_refusal-iff : (message : List ℕ) → (segment_decoding message ≡ Err Loop) ↔ HasLoop message
loop_refusal-iff message = (to_loop message, from_loop message)
