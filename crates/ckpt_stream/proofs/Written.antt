-- A piece that is written and taken, and what is made after it.
use Rattle.std.proofs.Common.{◌≡◌, ℕ, ◌+◌, ◌*◌, List, length, min, drop, sym, ap, subst, ◌∙◌, arith, Ok, Err}
use Rattle.std.proofs.lemmas.List.{drop_min}
use Rattle.std.specs.Prelude.{Result, OnOk}
use Rattle.byte_lists.specs.Content.{part}
use Rattle.sector_dev.specs.Disk.{Disk, History, IsHonest}
use Rattle.sector_dev.proofs.Stretches.{honest_before}
use Rattle.sector_dev.specs.Calls.{Keeps}
use Rattle.ckpt_stream.specs.Rewriting.{RewriteView, untaken}
use Rattle.ckpt_stream.specs.Merge.{after_piece, MakesOn}

-- what was made without its next piece
pub taken_piece : (rewrite : RewriteView) (count : ℕ) → count ≡ min (length rewrite.out) 131072 → record rewrite { out = drop count rewrite.out } ≡ after_piece rewrite
taken_piece rewrite count is =
    ap (λ (out : List ℕ). record rewrite { out = out })
    (ap (λ (n : ℕ). drop n rewrite.out) (let same : count ≡ min 131072 (length rewrite.out) = omega (arith, is) in same) ∙ drop_min 131072 rewrite.out)

-- what is made from an honest device is made from the same bytes after the reads
made_after : (old new : Disk) (area size : ℕ) (before after : RewriteView) → Keeps old new → (IsHonest old → new.history ≡ old.history) → MakesOn old area size before after → MakesOn new area size before after
made_after old new area size before after keeps history made = record {
  same = λ honest.
      let was = honest_before old new keeps honest in
      subst (λ (h : History). untaken after (part (512 * area + 32) size h.now.reads) ≡ untaken before (part (512 * area + 32) size h.now.reads))
      (sym (history was)) (made.same was);
  len = made.len;
}

-- A piece was taken, and more was made.
pub made_on : {T E : Type 0} (result : Result T E) (old new : Disk) (area size count : ℕ) (rewrite after : RewriteView) → count ≡ min (length rewrite.out) 131072 → Keeps old new → (IsHonest old → new.history ≡ old.history)
    → MakesOn old area size (record rewrite { out = drop count rewrite.out }) after → OnOk result (MakesOn new area size (after_piece rewrite) after)
made_on {T} {E} result old new area size count rewrite after is keeps history made = on_ok result
    (subst (λ (p : RewriteView). MakesOn new area size p after) (taken_piece rewrite count is) (made_after old new area size (record rewrite { out = drop count rewrite.out }) after keeps history made))
  where
    on_ok : {P : Type 0} (r : Result T E) → P → OnOk r P
    on_ok (Ok x) holds = holds
    on_ok (Err e) holds = tt
