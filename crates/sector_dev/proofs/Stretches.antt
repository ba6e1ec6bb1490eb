-- Lemmas that lead from one call to the next. For the crates above.
use Rattle.std.proofs.Common.{◌≡◌, ℕ, ◌+◌, ◌*◌, ◌≤◌, ◌^◌, ◌-◌, List, [], ◌∷◌, ◌++◌, length, drop, Bool, IsTrue, refl, sym, ◌∙◌, ap, subst, arith, append_assoc, Result, Ok, Err, OnOk, OnErr, All}
use Rattle.std.proofs.lemmas.List.{drop_at, append-nil, same_from_push}
use Rattle.std.proofs.lemmas.List.Elements.{All-nil, All-cons, All-head, All-tail, All-append, All-same, All-weaker}
use Rattle.byte_lists.specs.Content.{overwrite}
use Rattle.sector_dev.specs.Disk.{Moment, History, Disk, IsHonest, IsWhole, reads_of, moments, after_write, after_sync}
use Rattle.sector_dev.specs.Image.{EveryImage, IsFromImage}
use Rattle.sector_dev.specs.Calls.{count_after, Keeps, ReadCall, WriteCall, SyncCall}
use Rattle.sector_dev.specs.Stretch.{Leaves, Stretch}
use Rattle.sector_dev.proofs.Images.{image_synced, every_written}

-- An honest device stays honest.
pub honest_after : (old new : Disk) → Keeps old new → IsHonest old → IsHonest new
honest_after old new keeps honest = subst (λ (b : Bool). IsTrue b) (sym keeps.is_honest) honest

pub honest_before : (old new : Disk) → Keeps old new → IsHonest new → IsHonest old
honest_before old new keeps honest = subst (λ (b : Bool). IsTrue b) keeps.is_honest honest

pub keeps_here : (disk : Disk) → Keeps disk disk
keeps_here disk = record { is_honest = refl; sectors = refl }

pub keeps_then : (old mid new : Disk) → Keeps old mid → Keeps mid new → Keeps old new
keeps_then old mid new first second = record { is_honest = second.is_honest ∙ first.is_honest; sectors = second.sectors ∙ first.sectors }

-- The count of failed calls never falls, and rises where a call failed.
pub count_never_falls : {T E : Type 0} (result : Result T E) (faults : ℕ) → faults ≤ 2 ^ 64 - 1 → faults ≤ count_after result faults
count_never_falls (Ok _) faults small = omega arith
count_never_falls (Err _) faults small = omega arith

-- each image of each of these moments has P
abbrev pub AllLeave : (List ℕ → Type 0) → List Moment → Type 0
AllLeave P list = All (λ (moment : Moment). EveryImage moment P) list

module _ (P : List ℕ → Type 0) where
  abbrev ImagesHave : Moment → Type 0
  ImagesHave moment = EveryImage moment P

  -- the moments from a state on are the state's own and the later ones
  moments_since : (old new : History) (later : List Moment) → moments new ≡ moments old ++ later → drop (length old.past) (moments new) ≡ old.now ∷ later
  moments_since old new later goes_on =
      ap (λ (list : List Moment). drop (length old.past) list) (goes_on ∙ append_assoc old.past (old.now ∷ []) later)
      ∙ drop_at old.past (old.now ∷ later) (length old.past) refl

  -- a stretch of moments, given as a list
  pub leaves_by : (old new : History) (later : List Moment) → moments new ≡ moments old ++ later → EveryImage old.now P → AllLeave P later → Leaves old new P
  leaves_by old new later goes_on here after = record {
    later = later;
    goes_on = goes_on;
    every = All-same ImagesHave (drop (length old.past) (moments new)) (old.now ∷ later) (moments_since old new later goes_on) (All-cons ImagesHave old.now later here after);
  }

  all_since : (old new : History) (leaves : Leaves old new P) → AllLeave P (old.now ∷ leaves.later)
  all_since old new leaves =
      All-same ImagesHave (old.now ∷ leaves.later) (drop (length old.past) (moments new)) (sym (moments_since old new leaves.later leaves.goes_on)) leaves.every

  -- each image at the start of a stretch has P
  pub leaves_at_entry : (old new : History) → Leaves old new P → EveryImage old.now P
  leaves_at_entry old new leaves = All-head ImagesHave old.now leaves.later (all_since old new leaves)

  -- each image at the end of a stretch has P
  pub leaves_at_exit : (old new : History) → Leaves old new P → EveryImage new.now P
  leaves_at_exit old new leaves = last old.past old.now leaves.later leaves.goes_on (all_since old new leaves)
    where
      last : (past : List Moment) (now : Moment) (later : List Moment) → moments new ≡ (past ++ now ∷ []) ++ later → AllLeave P (now ∷ later) → EveryImage new.now P
      last past now [] goes_on all =
          let same : new.now ≡ now = (same_from_push new.past past new.now now (goes_on ∙ append-nil (past ++ now ∷ []))).1 in
          subst ImagesHave (sym same) (All-head ImagesHave now [] all)
      last past now (m ∷ later) goes_on all = last (past ++ now ∷ []) m later (goes_on ∙ sym (append_assoc (past ++ now ∷ []) (m ∷ []) later)) (All-tail ImagesHave now (m ∷ later) all)

  pub leaves_here : (history : History) → EveryImage history.now P → Leaves history history P
  leaves_here history here = leaves_by history history [] (sym (append-nil (moments history))) here (All-nil ImagesHave)

  pub leaves_then : (old mid new : History) → Leaves old mid P → Leaves mid new P → Leaves old new P
  leaves_then old mid new first second =
      leaves_by old new (first.later ++ second.later)
      (second.goes_on ∙ ap (λ (list : List Moment). list ++ second.later) first.goes_on ∙ append_assoc (moments old) first.later second.later)
      (leaves_at_entry old mid first)
      (All-append ImagesHave first.later second.later (All-tail ImagesHave old.now first.later (all_since old mid first)) (All-tail ImagesHave mid.now second.later (all_since mid new second)))

  -- one more moment
  leaves_more : (old new : History) → new.past ≡ moments old → EveryImage old.now P → EveryImage new.now P → Leaves old new P
  leaves_more old new past here after =
      leaves_by old new (new.now ∷ []) (ap (λ (list : List Moment). list ++ new.now ∷ []) past) here
      (All-cons ImagesHave new.now [] after (All-nil ImagesHave))

  leaves_same : (old new : History) → new ≡ old → EveryImage old.now P → Leaves old new P
  leaves_same old new same here = subst (λ (h : History). Leaves old h P) (sym same) (leaves_here old here)

  pub leaves_synced : (old new : History) → new ≡ after_sync old → EveryImage old.now P → Leaves old new P
  leaves_synced old new same here =
      subst (λ (h : History). Leaves old h P) (sym same)
      (leaves_more old (after_sync old) refl here (λ content image. here content (image_synced old content image)))

  pub leaves_written : (old new : History) (at : ℕ) (landed : List ℕ) → new ≡ after_write at landed old → EveryImage old.now P → EveryImage (after_write at landed old).now P → Leaves old new P
  leaves_written old new at landed same here after =
      subst (λ (h : History). Leaves old h P) (sym same) (leaves_more old (after_write at landed old) refl here after)

  -- What holds at the start and at the end of a stretch.
  pub at_entry : (old new : Disk) → Stretch old new P → IsHonest old → EveryImage old.history.now P
  at_entry old new so_far honest = leaves_at_entry old.history new.history (so_far.leaves honest)

  pub at_exit : (old new : Disk) → Stretch old new P → IsHonest old → EveryImage new.history.now P
  at_exit old new so_far honest = leaves_at_exit old.history new.history (so_far.leaves honest)

  -- The stretch of no calls.
  pub stretch_here : (disk : Disk) → (IsHonest disk → EveryImage disk.history.now P) → Stretch disk disk P
  stretch_here disk here = record { keeps = keeps_here disk; leaves = λ honest. leaves_here disk.history (here honest) }

  -- Two stretches, one after the other.
  pub stretch_then : (old mid new : Disk) → Stretch old mid P → Stretch mid new P → Stretch old new P
  stretch_then old mid new first second = record {
    keeps = keeps_then old mid new first.keeps second.keeps;
    leaves = λ honest. leaves_then old.history mid.history new.history (first.leaves honest) (second.leaves (honest_after old mid first.keeps honest));
  }

  -- A read adds no moment.
  pub stretch_read : {T E : Type 0} (old mid new : Disk) (sector : ℕ) (into : List ℕ) (result : Result T E) → Stretch old mid P → ReadCall sector into result mid new → Stretch old new P
  stretch_read old mid new sector into result so_far call =
      stretch_then old mid new so_far
      (record { keeps = call.keeps; leaves = λ honest. leaves_same mid.history new.history (call.history honest) (at_exit old mid so_far (honest_before old mid so_far.keeps honest)) })

  -- A sync only removes images, whatever it returns.
  pub stretch_sync : {T E : Type 0} (old mid new : Disk) (result : Result T E) → Stretch old mid P → SyncCall result mid new → Stretch old new P
  stretch_sync {T} {E} old mid new result so_far call =
      stretch_then old mid new so_far (record { keeps = call.keeps; leaves = λ honest. by_result result call.done call.unchanged honest })
    where
      here : IsHonest mid → EveryImage mid.history.now P
      here honest = at_exit old mid so_far (honest_before old mid so_far.keeps honest)

      by_result : (r : Result T E) → (IsHonest mid → OnOk r (new.history ≡ after_sync mid.history)) → (IsHonest mid → OnErr r (new.history ≡ mid.history)) → IsHonest mid → Leaves mid.history new.history P
      by_result (Ok _) done unchanged honest = leaves_synced mid.history new.history (done honest) (here honest)
      by_result (Err _) done unchanged honest = leaves_same mid.history new.history (unchanged honest) (here honest)

  -- A write: whatever bytes land in its range, each image has P.
  pub stretch_write : {T E : Type 0} (old mid new : Disk) (sector : ℕ) (bytes : List ℕ) (result : Result T E) → Stretch old mid P → WriteCall sector bytes result mid new
      → (IsHonest mid → (landed : List ℕ) → length landed ≡ length bytes → EveryImage (after_write (512 * sector) landed mid.history).now P) → Stretch old new P
  stretch_write old mid new sector bytes result so_far call after =
      stretch_then old mid new so_far
      (record {
        keeps = call.keeps;
        leaves = λ honest. let lands = call.lands honest in
            leaves_written mid.history new.history (512 * sector) lands.landed lands.history
            (at_exit old mid so_far (honest_before old mid so_far.keeps honest)) (after honest lands.landed lands.size);
      })

-- A stretch in which each image is related to an image at the start.
module _ (R : List ℕ → List ℕ → Type 0) (start : Disk) where
  abbrev From : List ℕ → Type 0
  From = IsFromImage start.history.now R

  pub from_here : ((content : List ℕ) → R content content) → Stretch start start From
  from_here same = stretch_here From start (λ honest content image. record { before = content; image = image; related = same content })

  -- a write that keeps the relation, whatever bytes land
  pub from_write : {T E : Type 0} (mid new : Disk) (sector : ℕ) (bytes : List ℕ) (result : Result T E) → 512 * sector + length bytes ≤ 512 * start.sectors → (IsHonest mid → IsWhole mid) → Stretch start mid From → WriteCall sector bytes result mid new
      → ((before content torn : List ℕ) → length content ≡ 512 * start.sectors → length torn ≡ length bytes → R before content → R before (overwrite (512 * sector) torn content)) → Stretch start new From
  from_write mid new sector bytes result inside whole so_far call step =
      stretch_write From start mid new sector bytes result so_far call
      (λ honest landed size.
      let long : length (reads_of mid) ≡ 512 * start.sectors = omega (arith, (whole honest).size, so_far.keeps.sectors) in
      every_written From From mid.history (512 * sector) landed (omega (arith, long, size)) (whole honest).bytes
      (at_exit From start mid so_far (honest_before start mid so_far.keeps honest))
      (λ content torn same_size torn_size old. record {
        before = old.before;
        image = old.image;
        related = step old.before content torn (same_size ∙ long) (torn_size ∙ size) old.related;
      }))

-- Images that have P have each property that follows from P.
pub stretch_weaker : (P Q : List ℕ → Type 0) (old new : Disk) → ((content : List ℕ) → P content → Q content) → Stretch old new P → Stretch old new Q
stretch_weaker P Q old new follows so_far = record {
  keeps = so_far.keeps;
  leaves = λ honest.
      let leaves = so_far.leaves honest in
      leaves_by Q old.history new.history leaves.later leaves.goes_on
      (λ content image. follows content (leaves_at_entry P old.history new.history leaves content image))
      (All-weaker (λ (m : Moment). EveryImage m P) (λ (m : Moment). EveryImage m Q) (λ m each content image. follows content (each content image)) leaves.later (All-tail (λ (m : Moment). EveryImage m P) old.history.now leaves.later (all_since P old.history new.history leaves)));
}

-- The same where the property follows on an honest device alone.
pub stretch_honest : (P Q : List ℕ → Type 0) (old new : Disk) → (IsHonest old → (content : List ℕ) → P content → Q content) → Stretch old new P → Stretch old new Q
stretch_honest P Q old new follows so_far = record {
  keeps = so_far.keeps;
  leaves = λ honest. (stretch_weaker P Q old new (follows honest) so_far).leaves honest;
}

-- Images that have P and have Q have both.
pub stretch_both : (P Q : List ℕ → Type 0) (old new : Disk) → Stretch old new P → Stretch old new Q → Stretch old new (λ content. P content × Q content)
stretch_both P Q old new one two = record {
  keeps = one.keeps;
  leaves = λ honest.
      let first = one.leaves honest in
      let second = two.leaves honest in
      record {
        later = first.later;
        goes_on = first.goes_on;
        every = λ k other inside content image. (first.every k other inside content image, second.every k other inside content image);
      };
}
