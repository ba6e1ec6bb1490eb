-- From both parts to what every image opens to.
use Rattle.std.proofs.Common.{◌≡◌, inl, inr, ℕ, zero, suc, ◌+◌, false, List, [], length, take, refl, sym, ◌∙◌, ap, subst, arith}
use Rattle.store_layout.specs.Journal.{Reading, all_of}
use Rattle.store_layout.specs.StoreFormat.{db_after}
use Rattle.store_layout.specs.StoreValues.{value_after}
use Rattle.store_layout.specs.Limits.{limits_of}
use Rattle.store_layout.proofs.Exports.{folds_in_parts}
use Rattle.group_phases.specs.declared.phases.Flush.{Flush}
use Rattle.group_phases.specs.declared.phases.Flush.TheVariants.{Resting, Staged, Written, Stable, Opened, Doubtful, Durable, Following, Followed, DurableFollowed}
use Rattle.group_phases.specs.declared.phases.Check.{Check}
use Rattle.group_phases.specs.declared.phases.Check.TheVariants.{Ready, Sealed, Planned, Laid, Switched, SwitchFailed, Live, Closing, CloseFailed}
use Rattle.group_phases.specs.Tail.{GroupOrSeal, Commands, Seal, group_commands, Tail, without_load, with_load}
use Rattle.group_phases.specs.FlusherPart.{JournalReadsAs, MayRead}
use Rattle.group_phases.specs.BasePart.{CheckpointPair, MayBeSealed}
use Rattle.group_phases.specs.CommitState.{load_by, load_of, is_seal, seals, tail_of, checkpoint_pair_of, MayKeep, OpensSince, OpensToFront}
use Rattle.group_phases.specs.StandingLaws.{OpensByBothParts}
use Rattle.group_phases.proofs.TailReads.{reads_by_its_part}
use Rattle.group_phases.proofs.Openings.{base_images}

pub unsealed_may : (check : Check) → MayBeSealed check false
unsealed_may Ready = tt
unsealed_may Sealed = refl
unsealed_may Planned = refl
unsealed_may Laid = refl
unsealed_may Switched = refl
unsealed_may SwitchFailed = refl
unsealed_may Live = refl
unsealed_may Closing = refl
unsealed_may CloseFailed = refl

-- the commands in flight are a front of the pending ones
load_front : {C : Type 0} (taken : ℕ) (pending : List C) → group_commands (load_by taken pending) ≡ take taken pending
load_front zero pending = refl
load_front (suc n) pending = refl

pub opens_by_both_parts : (Db C : Type 0) → OpensByBothParts Db C
opens_by_both_parts Db C config state moment held image is =
    by_phase state.flush refl (reads_by_its_part C state.flush config.format.commands (limits_of state.version) config.geometry tail (load_of state) moment held.by.title held.by.flusher image is) held.by.seal
  where
    tail : Tail C
    tail = tail_of state held.behind

    base : CheckpointPair Db C
    base = checkpoint_pair_of state held.behind

    -- by what the tail's journal reads as
    opens : (journal : Reading C) → JournalReadsAs config.format.commands (limits_of state.version) config.geometry tail image journal → MayBeSealed state.check journal.sealed
        → OpensSince config state.version image (record { db = db_after config.format held.behind.new.db journal.commands; place = journal.place })
    opens journal reads may = base_images config base moment held.by.title image is journal reads state.check state.written held.by.base may

    -- nothing of what is in flight
    before : JournalReadsAs config.format.commands (limits_of state.version) config.geometry tail image (without_load tail)
        → OpensSince config state.version image (value_after config.format state.value [])
    before reads =
        let here : state.value.place ≡ state.value.place + 0 = omega arith in
        subst (OpensSince config state.version image) (λ i. record { db = held.by.db i; place = (held.by.place ∙ here) i }) (opens (without_load tail) reads (unsealed_may state.check))

    -- or all of it
    after : (load : GroupOrSeal C) → JournalReadsAs config.format.commands (limits_of state.version) config.geometry tail image (with_load config.format.commands tail load)
        → MayBeSealed state.check (is_seal load) → OpensSince config state.version image (value_after config.format state.value (group_commands load))
    after (Commands commands) reads may =
        subst (OpensSince config state.version image)
        (λ i. record {
          db = (folds_in_parts Db C config.format held.behind.new.db (all_of held.behind.groups) commands ∙ ap (λ (db : Db). db_after config.format db commands) held.by.db) i;
          place = held.by.place i + length commands;
        })
        (opens (with_load config.format.commands tail (Commands commands)) reads (unsealed_may state.check))
    after Seal reads may =
        let here : state.value.place ≡ state.value.place + 0 = omega arith in
        subst (OpensSince config state.version image) (λ i. record { db = held.by.db i; place = (held.by.place ∙ here) i })
        (opens (with_load config.format.commands tail Seal) reads may)

    none : MayKeep state.flush state.taken 0 → JournalReadsAs config.format.commands (limits_of state.version) config.geometry tail image (without_load tail) → OpensToFront config state image
    none may reads = record { kept = 0; may = may; inside = omega arith; opens = before reads }

    all : MayKeep state.flush state.taken state.taken → JournalReadsAs config.format.commands (limits_of state.version) config.geometry tail image (with_load config.format.commands tail (load_of state))
        → MayBeSealed state.check (is_seal (load_of state)) → OpensToFront config state image
    all may reads sealed = record {
      kept = state.taken;
      may = may;
      inside = held.by.taken;
      opens = subst (λ (list : List C). OpensSince config state.version image (value_after config.format state.value list)) (load_front state.taken state.pending) (after (load_of state) reads sealed);
    }

    may_at : (p : Flush) (kept : ℕ) → state.flush ≡ p → MayKeep p state.taken kept → MayKeep state.flush state.taken kept
    may_at p kept same may = subst (λ (q : Flush). MayKeep q state.taken kept) (sym same) may

    by_phase : (p : Flush) → state.flush ≡ p → MayRead p config.format.commands (limits_of state.version) config.geometry tail (load_of state) image → MayBeSealed state.check (seals p (load_of state))
        → OpensToFront config state image
    by_phase Resting same reads sealed = none (may_at Resting 0 same refl) reads
    by_phase Staged same reads sealed = none (may_at Staged 0 same refl) reads
    by_phase Written same reads sealed = none (may_at Written 0 same refl) reads
    by_phase Stable same reads sealed = none (may_at Stable 0 same refl) reads
    by_phase Opened same (inl reads) sealed = none (may_at Opened 0 same (inl refl)) reads
    by_phase Opened same (inr reads) sealed = all (may_at Opened state.taken same (inr refl)) reads sealed
    by_phase Doubtful same (inl reads) sealed = none (may_at Doubtful 0 same (inl refl)) reads
    by_phase Doubtful same (inr reads) sealed = all (may_at Doubtful state.taken same (inr refl)) reads sealed
    by_phase Durable same reads sealed = all (may_at Durable state.taken same refl) reads sealed
    by_phase Following same (inl reads) sealed = none (may_at Following 0 same (inl refl)) reads
    by_phase Following same (inr reads) sealed = all (may_at Following state.taken same (inr refl)) reads sealed
    by_phase Followed same (inl reads) sealed = none (may_at Followed 0 same (inl refl)) reads
    by_phase Followed same (inr reads) sealed = all (may_at Followed state.taken same (inr refl)) reads sealed
    by_phase DurableFollowed same reads sealed = all (may_at DurableFollowed state.taken same refl) reads sealed
