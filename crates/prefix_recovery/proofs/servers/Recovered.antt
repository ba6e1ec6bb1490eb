-- What is opened after a stop of a server.
use Rattle.std.proofs.Common.{◌≡◌, ℕ, zero, suc, ◌+◌, ◌-◌, ◌<◌, ◌≤◌, Bool, true, false, cond, leb, List, [], ◌∷◌, ◌++◌, length, take, drop, get_or, filter, Some, slice_get, refl, sym, ◌∙◌, ap, subst, arith, Contains}
use Rattle.std.specs.List.{AllByRecursion}
use mathlib.Core.List.{IsPrefix}
use Rattle.std.proofs.lemmas.Bool.{leb-true}
use Rattle.std.proofs.lemmas.List.{length-take-le, length-drop, get_or-take, get_or-drop}
use Rattle.std.proofs.lemmas.List.Elements.{All-contains, Contains-get_or}
use Rattle.std.proofs.lemmas.Option.{slice_get_within, slice_get-get_or, get_or_from_slice_get}
use Rattle.row_map.specs.Database.{RowView}
use Rattle.path_db.specs.declared.command.Command.{Command}
use Rattle.sector_dev.specs.Disk.{Moment, Disk, IsHonest, IsWhole, reads_of, moments}
use Rattle.sector_dev.specs.Image.{EveryImage, EveryImageSince, IsFromImage}
use Rattle.sector_dev.specs.Stretch.{Stretch}
use Rattle.sector_dev.proofs.Images.{image_of_reads}
use Rattle.sector_dev.proofs.Stretches.{stretch_weaker}
use Rattle.store_layout.specs.Opening.{StoreValue}
use Rattle.store_layout.specs.StoreValues.{value_after}
use Rattle.store_open.specs.Open.{OpensAlike}
use Rattle.store_open.specs.PathStores.{store_format}
use Rattle.store_open.specs.Store.{StoreView}
use Rattle.store_open.specs.declared.error.OpenError.{OpenError}
use Rattle.command_log.specs.declared.rule.Claim.{Claim}
use Rattle.command_log.specs.Log.{since_of}
use Rattle.group_core.specs.Starting.{value_of_store}
use Rattle.group_recovery.specs.Reopening.{HasValueOf, RefusesNoStore, SaysNothingOfTheImage}
use Rattle.group_recovery.proofs.Reopened.{alike_opens}
use Rattle.logged_state.specs.Left.{OpensToFrontOf}
use Rattle.logged_state.specs.LeftView.{LeftView}
use Rattle.logged_state.specs.Kept.{IsClaimKept, AllClaimsKept, IsFrontKept, IsShownKept, AllShownKept}
use Rattle.prefix_recovery.specs.Survival.{IsAfterFront}
use Rattle.prefix_recovery.proofs.Fronts.{after_front}
use Rattle.prefix_recovery.specs.servers.Survival.{ServerView, HoldsStopAt, Survives, acknowledged_at, committed_by, looked_at, Recovers}
use Rattle.prefix_recovery.specs.servers.Serving.{IsServed, IsLeftAt, MayHoldAt, RecoversAgain}

-- an element is in what is left from an earlier index on
in_rest : {X : Type 0} (list : List X) (s t : ℕ) (x : X) → s ≤ t → slice_get list t ≡ Some x → Contains (drop s list) x
in_rest list s t x before at =
    let within = slice_get_within list t x at in
    let same : s + (t - s) ≡ t = omega (arith, before) in
    subst (λ y. Contains (drop s list) y)
    (get_or-drop s list (t - s) x ∙ ap (λ (n : ℕ). get_or list n x) same ∙ get_or_from_slice_get list t x x at)
    (Contains-get_or (drop s list) (t - s) x (omega (arith, before, within, length-drop s list)))

-- a front has what the list has at an index within the front
in_front : {X : Type 0} (list : List X) (n i : ℕ) (x : X) → i < n → n ≤ length list → slice_get list i ≡ Some x → slice_get (take n list) i ≡ Some x
in_front list n i x below inside at =
    slice_get-get_or (take n list) i x (omega (arith, below, length-take-le n list inside))
    ∙ ap (λ y. Some y) (get_or-take n list i x below ∙ get_or_from_slice_get list i x x at)

-- a front of a list's front begins each front of the list that is as long
begins : (front list : List Command) (n k : ℕ) → IsPrefix front (take n list) → length front ≤ k → IsPrefix front (take k list)
begins [] list n k is long = (take k list, refl)
begins (x ∷ front) list zero k is long = let none : x ∷ (front ++ is.0) ≡ [] = is.1 in absurd (cc)
begins (x ∷ front) [] (suc n) k is long = let none : x ∷ (front ++ is.0) ≡ [] = is.1 in absurd (cc)
begins (x ∷ front) (y ∷ list) (suc n) zero is long = absurd (omega (arith, long))
begins (x ∷ front) (y ∷ list) (suc n) (suc k) is long =
    let rest = begins front list n k (is.0, ap (λ (l : List Command). drop 1 l) is.1) (omega (arith, long)) in
    (rest.0, ap (λ (z : Command). z ∷ (front ++ rest.0)) (ap (λ (l : List Command). get_or l 0 x) is.1) ∙ ap (λ (l : List Command). y ∷ l) rest.1)

-- what holds of each element that passes a test
all_passing : {X : Type 0} (P : X → Type 0) (test : X → Bool) (list : List X) → AllByRecursion (λ x. test x ≡ true → P x) list → AllByRecursion P (filter test list)
all_passing P test [] all = tt
all_passing P test (x ∷ list) all = by_test (test x) all.0 (all_passing P test list all.1)
  where
    by_test : (b : Bool) → (b ≡ true → P x) → AllByRecursion P (filter test list) → AllByRecursion P (cond b (x ∷ filter test list) (filter test list))
    by_test true has others = (has refl, others)
    by_test false has others = others

-- what holds of each element follows from what else does
all_weaker : {X : Type 0} (P Q : X → Type 0) → ((x : X) → P x → Q x) → (list : List X) → AllByRecursion P list → AllByRecursion Q list
all_weaker P Q follows [] all = tt
all_weaker P Q follows (x ∷ list) all = (follows x all.0, all_weaker P Q follows list all.1)

-- what a server says of its device holds of the same device by another name
pub served_so : (start : StoreView) (left : LeftView) (end other : Disk) → other ≡ end → Stretch start.disk end (OpensToFrontOf (value_of_store start) left.log.commands 0)
    → (IsHonest start.disk → AllClaimsKept (value_of_store start) left.log end.history left.acknowledged)
    → (IsHonest start.disk → AllShownKept (value_of_store start) left.log end.history left.looked) → IsServed start left other
served_so start left end other same leaves since looked =
    subst (λ (disk : Disk). IsServed start left disk) (sym same) (record { moments = leaves; since = since; looked = looked })

module _ (server : ServerView) (serves : IsServed server.start server.left server.end) (t : ℕ) (image : List ℕ) (is_left : IsLeftAt server t image) where
  abbrev opening : StoreValue (List RowView)
  opening = value_of_store server.start

  abbrev commands : List Command
  commands = server.left.log.commands

  -- what the stop left has what each image has since an earlier moment
  left_has : (P : List ℕ → Type 0) (s : ℕ) → s ≤ t → EveryImageSince s server.end.history P → P is_left.before
  left_has P s before every =
      All-contains (λ (moment : Moment). EveryImage moment P) (drop s (moments server.end.history)) is_left.stop.moment every
      (in_rest (moments server.end.history) s t is_left.stop.moment before is_left.stop.at) is_left.before is_left.stop.left

  pub opens_to_front : OpensToFrontOf opening commands 0 is_left.before
  opens_to_front =
      left_has (OpensToFrontOf opening commands 0) (length server.start.disk.history.past) is_left.stop.since
      (serves.moments.leaves is_left.stop.honest).every

  -- the store has what the image opens to
  module _ (store : StoreView) (has : HasValueOf image store) where
    value_is : (least : ℕ) (opens : OpensToFrontOf opening commands least is_left.before) → value_of_store store ≡ value_after store_format opening (take opens.count commands)
    value_is least opens = has _ (is_left.alike _ opens.opens)

    front : IsAfterFront opening commands (value_of_store store)
    front = after_front opening (value_of_store store) commands opens_to_front.count opens_to_front.inside (value_is 0 opens_to_front)

    place_is : (least : ℕ) (opens : OpensToFrontOf opening commands least is_left.before) → store.place ≡ opening.place + opens.count
    place_is least opens =
        ap (λ (v : StoreValue (List RowView)). v.place) (value_is least opens)
        ∙ ap (λ (n : ℕ). opening.place + n) (length-take-le opens.count commands opens.inside)

    claimed_there : (claim : Claim) → IsClaimKept opening server.left.log server.end.history claim → since_of server.left.log claim.index ≤ t
        → slice_get (take front.kept commands) claim.index ≡ Some claim.command
    claimed_there claim kept before =
        let opens = left_has (OpensToFrontOf opening commands (claim.index + 1)) (since_of server.left.log claim.index) before kept.kept.every in
        let enough = opens.enough in
        in_front commands front.kept claim.index claim.command
        (omega (arith, enough, front.place, place_is (claim.index + 1) opens)) front.inside kept.has

    -- the front is as long as what was committed then
    long_enough : (n : ℕ) → IsFrontKept opening server.left.log server.end.history n → committed_by server.left.log n ≤ t → n ≤ front.kept
    long_enough zero kept before = omega arith
    long_enough (suc index) kept before =
        let opens = left_has (OpensToFrontOf opening commands (index + 1)) (since_of server.left.log index) before kept.every in
        let enough = opens.enough in
        omega (arith, enough, front.place, place_is (index + 1) opens)

    shown_there : (list : List Command) → IsShownKept opening server.left.log server.end.history list → committed_by server.left.log (length list) ≤ t
        → IsPrefix list (take front.kept commands)
    shown_there list kept before =
        begins list commands server.left.log.committed front.kept kept.committed (long_enough (length list) kept.kept before)

    pub survives : Survives opening commands (acknowledged_at t server.left) (looked_at t server.left) (value_of_store store)
    survives = record {
      front = front;
      claimed =
          all_passing (λ claim. slice_get (take front.kept commands) claim.index ≡ Some claim.command)
          (λ claim. leb (since_of server.left.log claim.index) t) server.left.acknowledged
          (all_weaker (IsClaimKept opening server.left.log server.end.history) _
          (λ claim kept tells. claimed_there claim kept (leb-true (since_of server.left.log claim.index) t tells)) server.left.acknowledged (serves.since is_left.stop.honest));
      shown =
          all_passing (λ list. IsPrefix list (take front.kept commands))
          (λ list. leb (committed_by server.left.log (length list)) t) server.left.looked
          (all_weaker (IsShownKept opening server.left.log server.end.history) _
          (λ list kept tells. shown_there list kept (leb-true (committed_by server.left.log (length list)) t tells)) server.left.looked (serves.looked is_left.stop.honest));
    }

-- what a stop of the server leaves opens to itself
as_left : (server : ServerView) (t : ℕ) (disk : Disk) → HoldsStopAt server t disk → MayHoldAt server t disk
as_left server t disk holds image is = record { before = image; stop = holds image is; alike = λ value opens. opens }

module _ (server : ServerView) (serves : IsServed server.start server.left server.end) (disk : Disk) (whole : IsHonest disk → IsWhole disk) (honest : IsHonest disk) where
  reads_left : (t : ℕ) → MayHoldAt server t disk → IsLeftAt server t (reads_of disk)
  reads_left t holds = holds (reads_of disk) (image_of_reads disk.history.now (whole honest).bytes)

  pub recovers_again : (store : StoreView) → HasValueOf (reads_of disk) store → RecoversAgain server disk store
  recovers_again store has t holds = survives server serves t (reads_of disk) (reads_left t holds) store has

  pub recovers_so : (store : StoreView) → HasValueOf (reads_of disk) store → Recovers server disk store
  recovers_so store has t holds = recovers_again store has t (as_left server t disk holds)

  pub refused_again : (e : OpenError) → RefusesNoStore e (reads_of disk) → (t : ℕ) → MayHoldAt server t disk → SaysNothingOfTheImage e
  refused_again e refuses t holds =
      let is_left = reads_left t holds in
      refuses _ (is_left.alike _ (opens_to_front server serves t (reads_of disk) is_left).opens)

  pub refused_so : (e : OpenError) → RefusesNoStore e (reads_of disk) → (t : ℕ) → HoldsStopAt server t disk → SaysNothingOfTheImage e
  refused_so e refuses t holds = refused_again e refuses t (as_left server t disk holds)

-- a stop of an opening leaves what the opening began with
pub left_again : (server : ServerView) (old new : Disk) (t : ℕ) → MayHoldAt server t old → Stretch old new (IsFromImage old.history.now OpensAlike) → Stretch old new (IsLeftAt server t)
left_again server old new t holds stretch =
    stretch_weaker (IsFromImage old.history.now OpensAlike) (IsLeftAt server t) old new
    (λ content from.
    let earlier = holds from.before from.image in
    record { before = earlier.before; stop = earlier.stop; alike = λ value opens. alike_opens value from.before content (earlier.alike value opens) from.related })
    stretch
