-- A device that is opened: what a stop leaves while the device is brought to rest, and what the
-- store then has.
use Rattle.std.proofs.Common.{◌≡◌, inl, inr, ℕ, ◌≤◌, Bool, true, false, List, [], Result, Ok, Err, Option, Some, None, OnOk, refl, sym, ◌∙◌, ap, subst, arith}
use Rattle.byte_lists.specs.Content.{part}
use Rattle.row_map.specs.Database.{RowView}
use Rattle.path_db.specs.declared.command.Command.{Command}
use Rattle.sector_dev.specs.Disk.{History, Disk, IsHonest, IsWhole, reads_of}
use Rattle.sector_dev.specs.Image.{IsFromImage}
use Rattle.sector_dev.specs.Calls.{Keeps, SyncCall}
use Rattle.sector_dev.specs.Stretch.{Leaves, Stretch}
use Rattle.sector_dev.proofs.Images.{image_of_reads, image_is_reads}
use Rattle.sector_dev.proofs.Results.{success}
use Rattle.sector_dev.proofs.Parts.{history_synced, reads_synced}
use Rattle.sector_dev.proofs.Stretches.{honest_after, honest_before, leaves_here, at_exit, stretch_here, stretch_then, stretch_sync, stretch_weaker, from_here, stretch_honest}
use Rattle.store_layout.specs.declared.half.Half.{Half}
use Rattle.store_layout.specs.Limits.{Limits, latest}
use Rattle.store_layout.specs.Journal.{Reading}
use Rattle.store_layout.specs.Layout.{Geometry, other}
use Rattle.store_layout.specs.Opening.{Opening, limits_in, IsTail, IsOpening}
use Rattle.store_layout.specs.OpeningReading.{opening_of}
use Rattle.store_layout.proofs.Exports.{opening_read, opening_from}
use Rattle.gate_journal.specs.Commands.{command_format}
use Rattle.store_layout.specs.Checkpoint.{Head}
use Rattle.store_open.specs.Closing.{IsClosing, IsClosingUnused, HasClosedGates, HasNoGateToClose, synced_by}
use Rattle.store_open.specs.declared.folded.Folded.{Folded}
use Rattle.store_open.specs.Folded.{store_on, TellsOnAny}
use Rattle.store_layout.specs.Geometry.{geometry_view}
use Rattle.store_open.specs.Open.{OpensAlike, IsOpened, HasNothingToClose}
use Rattle.store_open.specs.PathStores.{store_format}
use Rattle.store_open.specs.Store.{StoreView, IsAtRest, IsSound}
use Rattle.store_open.specs.Behind.{SameBehind}
use Rattle.store_open.proofs.Gates.{gates_inside}
use Rattle.store_open.proofs.Kept.{kept_opening}

-- A device on which nothing is dirty was only read: what a stop leaves is the bytes that reads
-- return.
pub stretch_looked : (P : List ℕ → Type 0) (start mid : Disk) → Keeps start mid → (IsHonest start → mid.history ≡ start.history) → (IsHonest start → start.history.now.dirty ≡ [])
    → (IsHonest start → P (reads_of start)) → Stretch start mid P
stretch_looked P start mid keeps same clean holds = record {
  keeps = keeps;
  leaves = λ honest. subst (λ (h : History). Leaves start.history h P) (sym (same honest))
      (leaves_here P start.history (λ content image. subst P (sym (image_is_reads start.history.now content (clean honest) image)) (holds honest)));
}

-- an image that is not changed opens alike
pub alike_itself : (content : List ℕ) → OpensAlike content content
alike_itself content = inl refl

-- ---- closing the half that is not used

module _ (geometry : Geometry) (chosen : Half) (sealed : Bool) (start : Disk) where
  abbrev Unused : List ℕ → Type 0
  Unused = IsClosingUnused sealed geometry (other chosen) (reads_of start)

  -- after a seal no gate is closed
  pub left_alone : {S F : Type 0} (answer : Result S F) (two : Disk) → sealed ≡ true → (IsHonest start → start.history.now.dirty ≡ []) → SyncCall answer start two → Stretch start two Unused
  left_alone answer two is clean call =
      stretch_sync Unused start start two answer
      (stretch_here Unused start
      (λ honest content image. subst (λ (b : Bool). IsClosingUnused b geometry (other chosen) (reads_of start) content) (sym is) (image_is_reads start.history.now content (clean honest) image)))
      call

  pub being_closed : (half : Half) (one : Disk) → half ≡ other chosen → sealed ≡ false → Stretch start one (IsClosing geometry half (reads_of start)) → Stretch start one Unused
  being_closed half one same is so =
      stretch_weaker (IsClosing geometry half (reads_of start)) Unused start one
      (λ content closing. subst (λ (b : Bool). IsClosingUnused b geometry (other chosen) (reads_of start) content) (sym is)
      (subst (λ (h : Half). IsClosing geometry h (reads_of start) content) same closing))
      so

  pub closed_and_synced : {S F : Type 0} (answer : Result S F) (half : Half) (one two : Disk) → half ≡ other chosen → sealed ≡ false → Stretch start one (IsClosing geometry half (reads_of start)) → SyncCall answer one two
      → Stretch start two Unused
  closed_and_synced answer half one two same is so call = stretch_sync Unused start one two answer (being_closed half one same is so) call

-- the history after a sync, by its result
pub history_by_sync : {S F : Type 0} (answer : Result S F) (old new : Disk) → SyncCall answer old new → IsHonest old → new.history ≡ synced_by answer old.history
history_by_sync (Ok u) old new call honest = call.done honest
history_by_sync (Err e) old new call honest = call.unchanged honest

-- where no gate has to be closed, nothing is written before the sync
module _ (geometry : Geometry) (chosen : Half) (sealed : Bool) (start one : Disk) (half : Half) (same : half ≡ other chosen) (unsealed : sealed ≡ false)
    (unwritten : IsHonest start → HasClosedGates geometry half (reads_of start) → one.history ≡ start.history) where
  pub nothing_closed : IsHonest start → HasNoGateToClose sealed geometry (other chosen) (reads_of start) → one.history ≡ start.history
  nothing_closed honest none =
      unwritten honest
      (subst (λ (h : Half). HasClosedGates geometry h (reads_of start)) (sym same)
      (subst (λ (b : Bool). HasNoGateToClose b geometry (other chosen) (reads_of start)) unsealed none))

  pub nothing_closed_then : {S F : Type 0} (answer : Result S F) (two : Disk) → Keeps start one → SyncCall answer one two → IsHonest start → HasNoGateToClose sealed geometry (other chosen) (reads_of start)
      → two.history ≡ synced_by answer start.history
  nothing_closed_then answer two keeps call honest none = history_by_sync answer one two call (honest_after start one keeps honest) ∙ ap (synced_by answer) (nothing_closed honest none)

-- a sync that succeeds leaves nothing dirty
pub settled_by_sync : {S F : Type 0} (answer : Result S F) (start one two : Disk) → Keeps start one → SyncCall answer one two → OnOk answer (IsHonest start → two.history.now.dirty ≡ [])
settled_by_sync (Err _) start one two keeps call = tt
settled_by_sync {S} {F} (Ok u) start one two keeps call = λ honest. ap (λ (h : History). h.now.dirty) (history_synced F u one two call (honest_after start one keeps honest))

-- the gates that were closed stay closed
pub closed_by_sync : {S F : Type 0} (answer : Result S F) (sealed : Bool) (geometry : Geometry) (half unused : Half) (start one two : Disk) → half ≡ unused → Keeps start one → SyncCall answer one two
    → (IsHonest start → HasClosedGates geometry half (reads_of one)) → OnOk answer (IsHonest start → sealed ≡ false → HasClosedGates geometry unused (reads_of two))
closed_by_sync (Err _) sealed geometry half unused start one two same keeps call closed = tt
closed_by_sync {S} {F} (Ok u) sealed geometry half unused start one two same keeps call closed = λ honest unsealed.
    subst (λ (h : Half). HasClosedGates geometry h (reads_of two)) same
    (subst (HasClosedGates geometry half) (sym (reads_synced (success F u) one two call (honest_after start one keeps honest))) (closed honest))

pub sealed_by_sync : {S F : Type 0} (answer : Result S F) (sealed : Bool) (geometry : Geometry) (unused : Half) (start two : Disk) → sealed ≡ true
    → OnOk answer (IsHonest start → sealed ≡ false → HasClosedGates geometry unused (reads_of two))
sealed_by_sync (Err _) sealed geometry unused start two is = tt
sealed_by_sync (Ok u) sealed geometry unused start two is = λ honest unsealed. absurd (let clash = sym is ∙ unsealed in cc)

-- ---- an opening in between

-- a journal that is not sealed has no tail
no_tail_behind : (limits : Limits) (geometry : Geometry) (half : Half) (image : List ℕ) (journal : Reading Command) (tail : Option (Reading Command)) → journal.sealed ≡ false
    → IsTail command_format limits geometry half image journal tail → tail ≡ None
no_tail_behind limits geometry half image journal None unsealed is = refl
no_tail_behind limits geometry half image journal (Some behind) unsealed is = absurd (let clash = sym unsealed ∙ is.1.sealed in cc)

-- the bytes after the store are unchanged
beyond_unused : (sealed : Bool) (geometry : Geometry) (half : Half) (reads image : List ℕ) → 1 ≤ geometry.journal → IsClosingUnused sealed geometry half reads image → SameBehind geometry reads image
beyond_unused false geometry half reads image some closing at n far = closing.outside at n (inr (omega (arith, gates_inside geometry half some, far)))
beyond_unused true geometry half reads image some same at n far = ap (part at n) same

module _ (reads image : List ℕ) (opening : Opening (List RowView) Command) (is : IsOpening store_format latest reads opening) where
  kept_alone : opening.journal.sealed ≡ false → IsClosing opening.geometry (other opening.chosen) reads image → IsOpening store_format latest image opening
  kept_alone unsealed closing =
      kept_opening store_format latest reads image opening closing is
      (no_tail_behind (limits_in opening.checkpoint) opening.geometry (other opening.chosen) reads opening.journal opening.tail unsealed is.tail)

  kept : (sealed : Bool) → opening.journal.sealed ≡ sealed → IsClosingUnused sealed opening.geometry (other opening.chosen) reads image → IsOpening store_format latest image opening
  kept false so closing = kept_alone so closing
  kept true so same = subst (λ (content : List ℕ). IsOpening store_format latest content opening) (sym same) is

-- an image opens with at most one opening
same_opening : (reads : List ℕ) (one two : Opening (List RowView) Command) → IsOpening store_format latest reads one → IsOpening store_format latest reads two → one ≡ two
same_opening reads one two is_one is_two =
    let a = opening_read store_format latest reads one is_one in
    let b = opening_read store_format latest reads two is_two in
    cc

pub alike : (reads image : List ℕ) (o : Opening (List RowView) Command) (geometry : Geometry) (chosen : Half) (sealed : Bool) → IsOpening store_format latest reads o
    → o.geometry ≡ geometry → o.chosen ≡ chosen → o.journal.sealed ≡ sealed → IsClosingUnused sealed geometry (other chosen) reads image → OpensAlike reads image
alike reads image o geometry chosen sealed found its_geometry its_half its_seal closing =
    let so : IsClosingUnused sealed o.geometry (other o.chosen) reads image =
    subst (λ (g : Geometry). IsClosingUnused sealed g (other o.chosen) reads image) (sym its_geometry)
    (subst (λ (h : Half). IsClosingUnused sealed geometry (other h) reads image) (sym its_half) closing) in
    inr
    (record {
      opening = o;
      opens_before = found;
      opens_behind = kept reads image o found sealed its_seal so;
      beyond = beyond_unused sealed o.geometry (other o.chosen) reads image (omega (arith, found.half.store.limits.least_journal)) so;
    })

-- whatever opening the one has, the other has
opens_as_before : (before behind : List ℕ) → OpensAlike before behind → (opening : Opening (List RowView) Command) → IsOpening store_format latest before opening
    → IsOpening store_format latest behind opening
opens_as_before before behind (inl same) opening is = subst (λ (content : List ℕ). IsOpening store_format latest content opening) (sym same) is
opens_as_before before behind (inr both) opening is =
    subst (IsOpening store_format latest behind) (same_opening before both.opening opening both.opens_before is) both.opens_behind

-- whatever opening the other has, the one had
pub opened_as_behind : (before behind : List ℕ) → OpensAlike before behind → (opening : Opening (List RowView) Command) → IsOpening store_format latest behind opening
    → IsOpening store_format latest before opening × SameBehind opening.geometry before behind
opened_as_behind before behind (inl same) opening is = (subst (λ (content : List ℕ). IsOpening store_format latest content opening) same is, λ at n far. ap (part at n) same)
opened_as_behind before behind (inr both) opening is =
    subst (λ (o : Opening (List RowView) Command). IsOpening store_format latest before o × SameBehind o.geometry before behind)
    (same_opening behind both.opening opening both.opens_behind is) (both.opens_before, both.beyond)

-- ---- brought to rest

module _ (start mid new : Disk) (o : Opening (List RowView) Command) (folded : Folded) (keeps : Keeps start mid) (same : IsHonest start → mid.history ≡ start.history) (clean : IsHonest start → start.history.now.dirty ≡ [])
    (whole : IsHonest start → IsWhole start) (opens : IsHonest start → opening_of store_format latest (reads_of start) ≡ Ok o) (tells : TellsOnAny folded o)
    (closing : Stretch mid new (IsClosingUnused folded.sealed (geometry_view folded.geometry) (other folded.half) (reads_of mid))) where
  found : IsHonest start → IsOpening store_format latest (reads_of start) o
  found honest = opening_from store_format latest (reads_of start) o (whole honest).bytes (opens honest)

  reads_same : IsHonest start → reads_of mid ≡ reads_of start
  reads_same honest = ap (λ (h : History). h.now.reads) (same honest)

  pub rested : Stretch start new (OpensAlike (reads_of start))
  rested =
      stretch_then (OpensAlike (reads_of start)) start mid new
      (stretch_looked (OpensAlike (reads_of start)) start mid keeps same clean (λ honest. alike_itself (reads_of start)))
      (stretch_honest (IsClosingUnused folded.sealed (geometry_view folded.geometry) (other folded.half) (reads_of mid)) (OpensAlike (reads_of start)) mid new
      (λ honest_mid content so.
      let honest = honest_before start mid keeps honest_mid in
      alike (reads_of start) content o (geometry_view folded.geometry) folded.half folded.sealed (found honest) (tells start).geometry (tells start).chosen (tells start).sealed
      (subst (λ (list : List ℕ). IsClosingUnused folded.sealed (geometry_view folded.geometry) (other folded.half) list content) (reads_same honest) so))
      closing)

  pub none_to_close : IsHonest start → HasNothingToClose (reads_of start) → HasNoGateToClose folded.sealed (geometry_view folded.geometry) (other folded.half) (reads_of mid)
  none_to_close honest nothing =
      subst (HasNoGateToClose folded.sealed (geometry_view folded.geometry) (other folded.half)) (sym (reads_same honest))
      (subst (λ (g : Geometry). HasNoGateToClose folded.sealed g (other folded.half) (reads_of start)) (tells new).geometry
      (subst (λ (h : Half). HasNoGateToClose folded.sealed o.geometry (other h) (reads_of start)) (tells new).chosen
      (subst (λ (b : Bool). HasNoGateToClose b o.geometry (other o.chosen) (reads_of start)) (tells new).sealed (nothing o (found honest)))))

  pub opened_so : (IsHonest mid → new.history.now.dirty ≡ []) → (IsHonest mid → folded.sealed ≡ false → HasClosedGates (geometry_view folded.geometry) (other folded.half) (reads_of new))
      → IsHonest start → IsOpened (reads_of start) (store_on new folded)
  opened_so settled closed honest =
      let honest_mid = honest_after start mid keeps honest in
      record {
        rest = record {
          opening = o;
          tells = tells new;
          settled = settled honest_mid;
          every = λ image is. opens_as_before (reads_of start) image (at_exit (OpensAlike (reads_of start)) start new rested honest image is) o (found honest);
          unused = λ unsealed image is. subst (HasClosedGates (geometry_view folded.geometry) (other folded.half)) (sym (image_is_reads new.history.now image (settled honest_mid) is)) (closed honest_mid unsealed);
        };
        same = found honest;
      }

-- ---- from the first sync on

module _ (start mid new : Disk) (whole : IsHonest start → IsWhole start) {S F : Type 0} (answer : Result S F) (call : SyncCall answer start mid) where
  abbrev FromStart : List ℕ → Type 0
  FromStart = IsFromImage start.history.now OpensAlike

  pub only_synced : Stretch start mid FromStart
  only_synced = stretch_sync FromStart start start mid answer (from_here OpensAlike start alike_itself) call

  reads_stay : IsHonest start → reads_of mid ≡ reads_of start
  reads_stay honest = reads_synced answer start mid call honest

  pub synced_then : Stretch mid new (OpensAlike (reads_of mid)) → Stretch start new FromStart
  synced_then behind =
      stretch_then FromStart start mid new only_synced
      (stretch_honest (OpensAlike (reads_of mid)) FromStart mid new
      (λ honest_mid content related.
      let honest = honest_before start mid call.keeps honest_mid in
      record {
        before = reads_of start;
        image = image_of_reads start.history.now (whole honest).bytes;
        related = subst (λ (list : List ℕ). OpensAlike list content) (reads_stay honest) related;
      })
      behind)

-- ---- a store that was opened is sound

pub sound_at_rest : (view : StoreView) → IsAtRest view → IsSound view
sound_at_rest view rest = record {
  rest = λ whole. rest;
  every = λ image is. record {
    opens = record { opening = rest.opening; is = rest.every image is; stands_for = rest.tells.value };
    since = omega (arith, ap (λ (h : Head). h.version) rest.tells.head);
  };
}
