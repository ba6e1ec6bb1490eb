-- A group that follows the one in flight, on a state.
use Rattle.std.proofs.Common.{◌≡◌, ◌≢◌, inl, ℕ, ◌+◌, ◌-◌, ◌*◌, ◌/◌, ◌≤◌, Bool, true, false, List, [], ◌++◌, length, take, drop, Result, refl, sym, ◌∙◌, ap, subst, arith, length-take, length-drop}
use Rattle.std.proofs.lemmas.List.{take_all}
use Rattle.row_map.specs.Database.{RowView}
use Rattle.path_db.specs.declared.command.Command.{Command}
use Rattle.sector_dev.specs.Disk.{Disk}
use Rattle.sector_dev.specs.Calls.{WriteCall, SyncCall}
use Rattle.store_layout.specs.Limits.{limits_of}
use Rattle.store_layout.specs.Group.{group_sectors, JournalHasRoom, CanBeGroup}
use Rattle.store_layout.specs.Layout.{journal_at, image_sectors}
use Rattle.store_layout.specs.StoreFormat.{db_after}
use Rattle.store_layout.specs.Opening.{StoreValue}
use Rattle.store_layout.specs.StoreValues.{value_after}
use Rattle.store_layout.proofs.Exports.{folds_in_parts}
use Rattle.gate_journal.specs.Commands.{command_format}
use Rattle.store_open.specs.PathStores.{store_format}
use Rattle.group_phases.specs.declared.phases.Flush.{Flush}
use Rattle.group_phases.specs.declared.phases.Flush.TheVariants.{Resting, Stable, Opened, Following, Followed, DurableFollowed}
use Rattle.group_phases.specs.Tail.{GroupOrSeal, Commands, load_bytes}
use Rattle.group_phases.specs.CommitState.{load_by, IsHeldBy}
use Rattle.group_phases.specs.HeldSteps as held
use Rattle.group_phases.specs.HeldTurns.{behind_group}
use Rattle.group_phases.proofs.Exports.{held_when_follower_is_staged, held_while_follower_is_written, held_while_followed_is_synced, held_when_followed_is_published, length-load}
use Rattle.group_core.specs.declared.bookkeeping.Turn.{Turn}
use Rattle.group_core.specs.declared.values.Commit.{Commit}
use Rattle.group_core.specs.declared.phases.AtOpened.{AtOpened}
use Rattle.group_core.specs.StateView.{StateView}
use Rattle.group_core.specs.StepCalls.{Write, follower_write}
use Rattle.group_core.specs.Stops.{config_of, commit_state_of}
use Rattle.group_core.specs.Following.{later_commands, next_gate, with_follower_in_flight, MayFollow, HasLaterCommands, TakesFollower, FollowerHasNoRoom, followed_by}
use Rattle.group_core.specs.Staging.{IsLongestFront}
use Rattle.group_core.specs.Invariant.{PrivateState, HasFollowerBytes, IsFollowerMade, FitsLoad, MayBePending, FitArea, IsState}
use Rattle.group_core.proofs.Soundness.{sound_at_work}
use Rattle.group_core.proofs.Regions.{load_inside}
use Rattle.group_core.proofs.KeptOutcomes.{take_more, committed_kept}
use Rattle.group_core.proofs.FlushSteps.{success, failure, flushed, flushed_state, none_owed}
use Rattle.group_core.proofs.Publish.{load_some, take_drop, all_drop}
use Rattle.group_core.proofs.Stage.{pending_allowed, all_take}

-- the commands after the first ones, and some of these
pub later_so : (taken : ℕ) (list given : List Command) → given ≡ list → take (length given - taken) (drop taken given) ≡ drop taken list
later_so taken list given same = take_all (length given - taken) (drop taken given) (omega (arith, length-drop taken given)) ∙ ap (drop taken) same

pub later_front_so : (taken n : ℕ) (list given : List Command) → given ≡ list → take (taken + n - taken) (drop taken given) ≡ take n (drop taken list)
later_front_so taken n list given same =
    let count : taken + n - taken ≡ n = omega arith in
    ap (λ (k : ℕ). take k (drop taken given)) count ∙ ap (λ (l : List Command). take n (drop taken l)) same

-- what publishing shows, and how it changes the bytes
record Shown : Type 0 where
  value : StoreValue (List RowView)
  list : List Command
  pending : List Command
  gate : ℕ
  place : ℕ
  owed : List Command
  staged : List ℕ
  staged_next : List ℕ

module _ (old : StateView) (hidden : PrivateState) (has : IsState old hidden) where
  abbrev front : List Command
  front = take old.taken old.pending

  abbrev next : List Command
  next = take old.following (later_commands old)

  -- a phase at which something is in flight
  flying : (phase : Flush) → old.flush ≡ phase → phase ≢ Resting → old.flush ≢ Resting
  flying phase turn other = subst (λ (p : Flush). p ≢ Resting) (sym turn) other

  -- a group in flight takes this many sectors with the gate after it
  sectors_in_flight : old.flush ≢ Resting → 1 ≤ old.taken → length hidden.staged ≡ 512 * (group_sectors command_format front + 1)
  sectors_in_flight busy some = ap length (has.shape.staged busy)
      ∙ ap (λ (load : GroupOrSeal Command). length (load_bytes command_format old.value.place load)) (load_some old.taken old.pending some) ∙ length-load command_format old.value.place (Commands front)

  pub next_gate_is : old.flush ≢ Resting → 1 ≤ old.taken → old.gate + length hidden.staged / 512 ≡ next_gate old
  next_gate_is busy some = omega (arith, sectors_in_flight busy some)

  -- which is in the journal
  pub next_gate_inside : old.flush ≢ Resting → 1 ≤ old.taken → next_gate old + 2 ≤ old.geometry.journal
  next_gate_inside busy some =
      let fits : FitsLoad (limits_of old.version) old.geometry old.value.place old.gate (Commands front) =
      subst (FitsLoad (limits_of old.version) old.geometry old.value.place old.gate) (load_some old.taken old.pending some) has.shape.load in
      omega (arith, fits.1)

  long : length front ≡ old.taken
  long = omega (arith, length-take old.taken old.pending, has.shape.taken)

  -- what follows, at a phase that is known
  abbrev MadeNow : Type 0
  MadeNow = HasFollowerBytes (limits_of old.version) old.geometry old.value.place old.gate old.pending old.taken old.following hidden.staged_next

  made_at : (phase : Flush) → old.flush ≡ phase → IsFollowerMade phase (limits_of old.version) old.geometry old.value.place old.gate old.pending old.taken old.following hidden.staged_next
  made_at phase turn = subst (λ (p : Flush). IsFollowerMade p (limits_of old.version) old.geometry old.value.place old.gate old.pending old.taken old.following hidden.staged_next) turn has.shape.follower

  module _ (sector : ℕ) (given : List ℕ) (turn : old.flush ≡ Following)
      (at : sector ≡ journal_at old.geometry old.half + (old.gate + length hidden.staged / 512 + 1)) (bytes : given ≡ hidden.staged_next) where
    made_now : MadeNow
    made_now = made_at Following turn

    busy : old.flush ≢ Resting
    busy = flying Following turn (λ (is : Following ≡ Resting). cc)

    at_so : sector ≡ journal_at old.geometry old.half + (next_gate old + 1)
    at_so = at ∙ ap (λ (n : ℕ). journal_at old.geometry old.half + (n + 1)) (next_gate_is busy made_now.some)

    -- what is written ends within the store
    pub follower_inside : 512 * sector + length given ≤ 512 * image_sectors old.geometry
    follower_inside =
        omega (
          arith,
          at_so,
          ap length (bytes ∙ made_now.made),
          load_inside (limits_of old.version) old.geometry old.half (old.value.place + length front) (next_gate old) (Commands next) made_now.load (next_gate_inside busy made_now.some),
        )

    bytes_so : given ≡ load_bytes command_format (old.value.place + length front) (load_by old.following (later_commands old))
    bytes_so = bytes ∙ made_now.made ∙ ap (load_bytes command_format (old.value.place + length front)) (sym (load_some old.following (later_commands old) made_now.many))

    -- which is the write of its step
    pub follower_write_is : follower_write old ≡ Write sector given
    follower_write_is = λ i. Write (sym at_so i) (sym bytes_so i)

    module _ (disk : Disk) where
      call_so : {T E : Type 0} (result : Result T E) → WriteCall sector given result old.disk disk
          → WriteCall (journal_at old.geometry old.half + (next_gate old + 1)) (load_bytes command_format (old.value.place + length front) (load_by old.following (later_commands old))) result old.disk disk
      call_so result call =
          subst (λ (content : List ℕ). WriteCall (journal_at old.geometry old.half + (next_gate old + 1)) content result old.disk disk)
          bytes_so
          (subst (λ (n : ℕ). WriteCall n given result old.disk disk) at_so call)

      pub follower_written : {T : Type 0} (E : Type 0) (v : T) → WriteCall sector given (success E v) old.disk disk → IsState (flushed old disk Followed old.group old.stopped) hidden
      follower_written {T} E v call =
          flushed_state old hidden has disk Followed old.group old.stopped (record { staged = λ _. busy; rests = λ (is : Followed ≡ Resting). cc; going = λ is. is; follower = made_now; paid = inl (none_owed old hidden has Following turn (λ is. is)) }) busy call.keeps
          (λ sound honest. held_while_follower_is_written T E (List RowView) Command (config_of old) (commit_state_of old) sound.behind (success E v) old.disk disk turn (call_so (success E v) call) honest sound.held)

      pub follower_not_written : {E : Type 0} (T : Type 0) (e : E) (group : Turn) (stopped : Bool) → stopped ≡ true → WriteCall sector given (failure T e) old.disk disk → IsState (flushed old disk old.flush group stopped) hidden
      follower_not_written {E} T e group stopped stops call =
          flushed_state old hidden has disk old.flush group stopped (record { staged = λ is. is; rests = λ is. is; going = λ (is : stopped ≡ false). cc; follower = has.shape.follower; paid = has.shape.paid }) busy call.keeps
          (λ sound honest. subst (λ (p : Flush). IsHeldBy (config_of old) (held.flushed (commit_state_of old) p) sound.behind disk.history.now) (sym turn)
          (held_while_follower_is_written T E (List RowView) Command (config_of old) (commit_state_of old) sound.behind (failure T e) old.disk disk turn (call_so (failure T e) call) honest sound.held))

  module _ (disk : Disk) (turn : old.flush ≡ Followed) where
    synced_busy : old.flush ≢ Resting
    synced_busy = flying Followed turn (λ (is : Followed ≡ Resting). cc)

    pub followed_synced : {T : Type 0} (E : Type 0) (v : T) → SyncCall (success E v) old.disk disk → IsState (flushed old disk DurableFollowed old.group old.stopped) hidden
    followed_synced {T} E v call =
        flushed_state old hidden has disk DurableFollowed old.group old.stopped
        (record { staged = λ _. synced_busy; rests = λ (is : DurableFollowed ≡ Resting). cc; going = λ is. is; follower = made_at Followed turn; paid = inl (none_owed old hidden has Followed turn (λ is. is)) }) synced_busy call.keeps
        (λ sound honest. held_while_followed_is_synced T E (List RowView) Command (config_of old) (commit_state_of old) sound.behind (success E v) old.disk disk turn call honest sound.held)

    pub followed_not_synced : {E : Type 0} (T : Type 0) (e : E) (group : Turn) (stopped : Bool) → stopped ≡ true → SyncCall (failure T e) old.disk disk → IsState (flushed old disk old.flush group stopped) hidden
    followed_not_synced {E} T e group stopped stops call =
        flushed_state old hidden has disk old.flush group stopped (record { staged = λ is. is; rests = λ is. is; going = λ (is : stopped ≡ false). cc; follower = has.shape.follower; paid = has.shape.paid }) synced_busy call.keeps
        (λ sound honest. subst (λ (p : Flush). IsHeldBy (config_of old) (held.flushed (commit_state_of old) p) sound.behind disk.history.now) (sym turn)
        (held_while_followed_is_synced T E (List RowView) Command (config_of old) (commit_state_of old) sound.behind (failure T e) old.disk disk turn call honest sound.held))

  -- a group is staged to follow
  module _ (value : Commit AtOpened) (may : MayFollow value old) (following : ℕ) (takes : TakesFollower old following) where
    opened : old.flush ≢ Resting
    opened = flying Opened may.turn.at (λ (is : Opened ≡ Resting). cc)

    length_behind : length (take following (later_commands old)) ≡ following
    length_behind = omega (arith, length-take following (later_commands old), takes.front.inside)

    can : CanBeGroup command_format (limits_of old.version) (old.value.place + length front) (take following (later_commands old))
    can = record {
      some = omega (arith, length_behind, takes.some);
      most = takes.front.fit.most;
      short = takes.front.fit.short;
      last = omega (arith, long, length_behind, takes.front.inside, length-drop old.taken old.pending, has.shape.taken, has.shape.last);
      allowed = pending_allowed old.version (take following (later_commands old))
          (all_take (MayBePending old.version) following (later_commands old) (all_drop (MayBePending old.version) old.taken old.pending has.shape.commands));
    }

    pub follower_staged : (bytes : List ℕ) → bytes ≡ load_bytes command_format (hidden.place + old.taken) (Commands (take following (later_commands old)))
        → IsState (followed_by old following) (record hidden { staged_next = bytes })
    follower_staged bytes same = record {
      shape = record {
        limits = has.shape.limits;
        sectors = has.shape.sectors;
        room = has.shape.room;
        place = has.shape.place;
        last = has.shape.last;
        few = has.shape.few;
        commands = has.shape.commands;
        tip = has.shape.tip;
        outcomes = has.shape.outcomes;
        fits = has.shape.fits;
        known = has.shape.known;
        taken = has.shape.taken;
        owed = has.shape.owed;
        paid = inl (none_owed old hidden has Opened may.turn.at (λ is. is));
        rests = λ (is : Following ≡ Resting). cc;
        load = has.shape.load;
        staged = λ _. has.shape.staged opened;
        follower = record {
          some = takes.has.group;
          many = takes.some;
          inside = omega (arith, takes.front.inside, length-drop old.taken old.pending, has.shape.taken);
          load = (can, takes.room);
          made = same ∙ ap (λ (place : ℕ). load_bytes command_format place (Commands (take following (later_commands old)))) (omega (arith, has.shape.place, long));
        };
        plan = has.shape.plan;
        epoch = has.shape.epoch;
        bytes = has.shape.bytes;
        merge = has.shape.merge;
      };
      sound = λ honest.
          let with = sound_at_work old hidden has (inl opened) honest in
          let sound = with.sound in
          inl (record {
            sound = record {
              behind = sound.behind;
              held = held_when_follower_is_staged (List RowView) Command (config_of old) (commit_state_of old) sound.behind old.disk.history.now following may.turn.at takes.has.group
                  (record { inside = takes.front.inside; can = can; room = takes.room }) sound.held;
              counts = sound.counts;
              fits = sound.fits;
            };
            streams = with.streams;
            prepared = with.prepared;
          });
    }

    -- where the bytes are made of a part of the pending commands
    pub follower_staged_so : (bytes : List ℕ) (given : List Command) → bytes ≡ load_bytes command_format (hidden.place + old.taken) (Commands given) → given ≡ take following (later_commands old)
        → IsState (followed_by old following) (record hidden { staged_next = bytes })
    follower_staged_so bytes given made is = follower_staged bytes (made ∙ ap (λ (list : List Command). load_bytes command_format (hidden.place + old.taken) (Commands list)) is)

  -- whether a group follows, by the commands after those in flight
  module _ (value : Commit AtOpened) (may : MayFollow value old) (group : 1 ≤ old.taken) (later : List Command) (same : later ≡ later_commands old) (some : 1 ≤ length later)
      (n : ℕ) (front : IsLongestFront (limits_of old.version) later n) where
    judged_busy : old.flush ≢ Resting
    judged_busy = flying Opened may.turn.at (λ (is : Opened ≡ Resting). cc)

    has_later : HasLaterCommands old
    has_later = record { group = group; some = subst (λ (list : List Command). 1 ≤ length list) same some }

    front_so : IsLongestFront (limits_of old.version) (later_commands old) n
    front_so = subst (λ (list : List Command). IsLongestFront (limits_of old.version) list n) same front

    abbrev HasRoomAt : ℕ → List Command → Type 0
    HasRoomAt gate list = JournalHasRoom gate (group_sectors command_format (take n list)) old.geometry.journal

    pub takes_follower : 1 ≤ n → HasRoomAt (old.gate + length hidden.staged / 512) later → TakesFollower old n
    takes_follower some_n room = record {
      has = has_later;
      some = some_n;
      front = front_so;
      room = subst (HasRoomAt (next_gate old)) same (subst (λ (gate : ℕ). HasRoomAt gate later) (next_gate_is judged_busy group) room);
    }

    pub follower_has_no_room : ¬ HasRoomAt (old.gate + length hidden.staged / 512) later → FollowerHasNoRoom old
    follower_has_no_room none = record {
      has = has_later;
      longest = n;
      front = front_so;
      room = λ room. none (subst (λ (gate : ℕ). HasRoomAt gate later) (sym (next_gate_is judged_busy group)) (subst (HasRoomAt (next_gate old)) (sym same) room));
    }

  -- and is in flight once its predecessor is published
  module _ (turn : old.flush ≡ DurableFollowed) where
    published_busy : old.flush ≢ Resting
    published_busy = flying DurableFollowed turn (λ (is : DurableFollowed ≡ Resting). cc)

    following_now : MadeNow
    following_now = made_at DurableFollowed turn

    next_is : load_by old.following (later_commands old) ≡ Commands next
    next_is = load_some old.following (later_commands old) following_now.many

    abbrev after : PrivateState
    after = record hidden { place = hidden.place + old.taken; owed = []; staged = hidden.staged_next; staged_next = hidden.staged }

    pub followed_state : IsState (with_follower_in_flight old) after
    followed_state = record {
      shape = record {
        limits = has.shape.limits;
        sectors = has.shape.sectors;
        room = next_gate_inside published_busy following_now.some;
        place = omega (arith, has.shape.place, long);
        last = omega (arith, has.shape.last, has.shape.taken, long, length-drop old.taken old.pending);
        few = omega (arith, has.shape.few, length-drop old.taken old.pending);
        commands = all_drop (MayBePending old.version) old.taken old.pending has.shape.commands;
        tip = has.shape.tip ∙ ap (db_after store_format old.value.db) (sym (take_drop old.taken old.pending)) ∙ folds_in_parts (List RowView) Command store_format old.value.db front (later_commands old);
        outcomes = committed_kept old.value old.pending old.kept old.taken has.shape.taken has.shape.outcomes;
        fits = λ going n inside.
            subst (FitArea old) (ap (db_after store_format old.value.db) (sym (take_more old.taken n old.pending)) ∙ folds_in_parts (List RowView) Command store_format old.value.db front (take n (later_commands old)))
            (has.shape.fits going (old.taken + n) (omega (arith, inside, length-drop old.taken old.pending, has.shape.taken)));
        known = has.shape.known;
        taken = omega (arith, following_now.inside, length-drop old.taken old.pending);
        owed = refl;
        paid = inl refl;
        rests = λ (is : Stable ≡ Resting). cc;
        load = subst (FitsLoad (limits_of old.version) old.geometry (old.value.place + length front) (next_gate old)) (sym next_is) following_now.load;
        staged = λ _. following_now.made ∙ ap (load_bytes command_format (old.value.place + length front)) (sym next_is);
        follower = tt;
        plan = has.shape.plan;
        epoch = has.shape.epoch;
        bytes = has.shape.bytes;
        merge = has.shape.merge;
      };
      sound = λ honest.
          let with = sound_at_work old hidden has (inl published_busy) honest in
          let sound = with.sound in
          inl (record {
            sound = record {
              behind = behind_group (commit_state_of old) sound.behind;
              held = held_when_followed_is_published (List RowView) Command (config_of old) (commit_state_of old) sound.behind old.disk.history.now turn sound.held;
              counts = sound.counts;
              fits = sound.fits;
            };
            streams = with.streams;
            prepared = with.prepared;
          });
    }

    abbrev shown_exactly : Shown
    shown_exactly = record {
      value = value_after store_format old.value front;
      list = old.shown ++ front;
      pending = later_commands old;
      gate = next_gate old;
      place = hidden.place + old.taken;
      owed = [];
      staged = hidden.staged_next;
      staged_next = hidden.staged;
    }

    abbrev shown_view : Shown → StateView
    shown_view shown = record old { value = shown.value; shown = shown.list; pending = shown.pending; taken = old.following; following = 0; flush = Stable; gate = shown.gate }

    abbrev shown_hidden : Shown → PrivateState
    shown_hidden shown = record hidden { place = shown.place; owed = shown.owed; staged = shown.staged; staged_next = shown.staged_next }

    pub followed_state_so : (value : StoreValue (List RowView)) (list pending owed : List Command) (staged staged_next : List ℕ) (gate place : ℕ) → value ≡ value_after store_format old.value front → list ≡ old.shown ++ front
        → pending ≡ later_commands old
        → gate ≡ old.gate + length hidden.staged / 512 → place ≡ hidden.place + old.taken → owed ≡ [] → staged ≡ hidden.staged_next → staged_next ≡ hidden.staged
        → IsState (shown_view (record { value = value; list = list; pending = pending; gate = gate; place = place; owed = owed; staged = staged; staged_next = staged_next }))
        (shown_hidden (record { value = value; list = list; pending = pending; gate = gate; place = place; owed = owed; staged = staged; staged_next = staged_next }))
    followed_state_so value list pending owed staged staged_next gate place value_is list_is pending_is gate_is place_is owed_is staged_is next_staged_is =
        subst (λ (shown : Shown). IsState (shown_view shown) (shown_hidden shown))
        (λ i. record {
          value = sym value_is i;
          list = sym list_is i;
          pending = sym pending_is i;
          gate = sym gate_so i;
          place = sym place_is i;
          owed = sym owed_is i;
          staged = sym staged_is i;
          staged_next = sym next_staged_is i;
        })
        followed_state
      where
        gate_so : gate ≡ next_gate old
        gate_so = gate_is ∙ next_gate_is published_busy following_now.some
