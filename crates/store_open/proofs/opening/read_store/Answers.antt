-- The half that is chosen, its checkpoint, and its journals.
use Rattle.std.proofs.Common.{◌≡◌, ◌*◌, IsOk, refl, sym, ◌∙◌, ap, subst, List, Result, Ok, Err}
use Rattle.std.proofs.lemmas.Result.{err_from_is_err_and}
use Rattle.row_map.specs.Database.{RowView}
use Rattle.path_db.specs.declared.command.Command.{Command}
use Rattle.sector_dev.specs.Disk.{History, reads_of}
use Rattle.sector_dev.proofs.Stretches.{honest_after, honest_before, keeps_then}
use Rattle.store_layout.specs.CheckpointReading.{checkpoint_in}
use Rattle.store_layout.specs.Layout.{area_of}
use Rattle.store_layout.specs.Opening.{Opening}
use Rattle.store_layout.specs.OpeningReading.{by_choice, by_checkpoint}
use Rattle.ckpt_pair.specs.declared.reading.Checkpoint.{Checkpoint}
use Rattle.store_layout.specs.Limits.{latest}
use Rattle.ckpt_pair.specs.Reading.{checkpoint_view, front_in}
use Rattle.ckpt_pair.specs.Rows.{rows_format}
use Rattle.store_layout.specs.Geometry.{geometry_view}
use Rattle.store_open.specs.Heads.{chosen_half, choice_by_heads, HasHeads}
use Rattle.store_open.specs.PathStores.{store_format}
use Rattle.store_open.specs.Open.{opening_view, OpensSo, HasFront}
use Rattle.store_open.specs.Refusals.{PairSo, OnOkOrNoMemory}
use Rattle.store_open.specs.declared.error.OpenError.{OpenError}
use Rattle.store_open.specs.declared.opening.Found.{Found}
use Rattle.store_open.proofs.Steps.{pair_so, refused_same, opens_same, looks_then, room_kept, memory_from, memory_on, memory_not}
use Rattle.store_open.proofs.opening.read_store.Goals as goal

pub returns-in_err-choice-clause-opening : goal.returns-in_err-choice-clause-opening
returns-in_err-choice-clause-opening g c honest =
    let made = err_from_is_err_and c.from_residual.result c.from_residual.ensures.1 in
    let e = c.in_err-choice.field-0.0 in
    let so : c.from_residual.result ≡ Err e = made.1 ∙ ap (λ (x : OpenError). Err x) made.2 in
    subst (λ (r : Result Found OpenError). OpensSo opening_view r (by_choice store_format latest (geometry_view c.args.geometry) (reads_of (g.D.Device.disk c.args.device.now)) (choice_by_heads (geometry_view c.args.geometry) (reads_of (g.D.Device.disk c.args.device.now))))) (sym so)
    (pair_so chosen_half e (by_choice store_format latest (geometry_view c.args.geometry) (reads_of (g.D.Device.disk c.args.device.now))) (choice_by_heads (geometry_view c.args.geometry) (reads_of (g.D.Device.disk c.args.device.now))) (λ refusal. refl) (c.in_err-choice.ensures.choice honest))

pub returns-in_err-choice-clause-memory : goal.returns-in_err-choice-clause-memory
returns-in_err-choice-clause-memory g c honest =
    let made = err_from_is_err_and c.from_residual.result c.from_residual.ensures.1 in
    let e = c.in_err-choice.field-0.0 in
    let so : c.from_residual.result ≡ Err e = made.1 ∙ ap (λ (x : OpenError). Err x) made.2 in
    subst (λ (r : Result Found OpenError). OnOkOrNoMemory r (HasFront (geometry_view c.args.geometry) (reads_of (g.D.Device.disk c.args.device.now)))) (sym so)
    (memory_not Found (HasFront (geometry_view c.args.geometry) (reads_of (g.D.Device.disk c.args.device.now))) e c.in_err-choice.ensures.memory)

pub returns-in_err-checkpoint-clause-opening : goal.returns-in_err-checkpoint-clause-opening
returns-in_err-checkpoint-clause-opening g c honest =
    let made = err_from_is_err_and c.from_residual-in_err-checkpoint.result c.from_residual-in_err-checkpoint.ensures.1 in
    let e = c.in_err-checkpoint.field-0.0 in
    let so : c.from_residual-in_err-checkpoint.result ≡ Err e = made.1 ∙ ap (λ (x : OpenError). Err x) made.2 in
    let same = c.in_ok-choice.ensures.looks.history honest in
    let honest_mid = honest_after (g.D.Device.disk c.args.device.now) (g.D.Device.disk c.choose_half.new.device) c.in_ok-choice.ensures.looks.keeps honest in
    subst (λ (r : Result Found OpenError). OpensSo opening_view r (by_choice store_format latest (geometry_view c.args.geometry) (reads_of (g.D.Device.disk c.args.device.now)) (choice_by_heads (geometry_view c.args.geometry) (reads_of (g.D.Device.disk c.args.device.now))))) (sym so)
    (refused_same (Opening (List RowView) Command) e _ (by_choice store_format latest (geometry_view c.args.geometry) (reads_of (g.D.Device.disk c.args.device.now)) (choice_by_heads (geometry_view c.args.geometry) (reads_of (g.D.Device.disk c.args.device.now))))
    (sym (ap (by_choice store_format latest (geometry_view c.args.geometry) (reads_of (g.D.Device.disk c.args.device.now))) (c.in_ok-choice.ensures.choice honest)))
    (pair_so checkpoint_view e (by_checkpoint store_format (geometry_view c.args.geometry) c.in_ok-choice.choice.half (reads_of (g.D.Device.disk c.args.device.now))) (checkpoint_in rows_format latest (area_of (geometry_view c.args.geometry) c.in_ok-choice.choice.half (reads_of (g.D.Device.disk c.args.device.now)))) (λ refusal. refl)
    (subst (λ (h : History). PairSo checkpoint_view (Err e) (checkpoint_in rows_format latest (area_of (geometry_view c.args.geometry) c.in_ok-choice.choice.half h.now.reads))) same
    (c.in_err-checkpoint.ensures.checkpoint honest_mid))))

pub returns-in_err-checkpoint-clause-memory : goal.returns-in_err-checkpoint-clause-memory
returns-in_err-checkpoint-clause-memory g c honest =
    let made = err_from_is_err_and c.from_residual-in_err-checkpoint.result c.from_residual-in_err-checkpoint.ensures.1 in
    let e = c.in_err-checkpoint.field-0.0 in
    let so : c.from_residual-in_err-checkpoint.result ≡ Err e = made.1 ∙ ap (λ (x : OpenError). Err x) made.2 in
    let same = c.in_ok-choice.ensures.looks.history honest in
    let honest_mid = honest_after (g.D.Device.disk c.args.device.now) (g.D.Device.disk c.choose_half.new.device) c.in_ok-choice.ensures.looks.keeps honest in
    subst (λ (r : Result Found OpenError). OnOkOrNoMemory r (HasFront (geometry_view c.args.geometry) (reads_of (g.D.Device.disk c.args.device.now)))) (sym so)
    (memory_on Checkpoint Found
    (IsOk (front_in latest (512 * c.args.geometry.checkpoint) (area_of (geometry_view c.args.geometry) c.in_ok-choice.choice.half (reads_of (g.D.Device.disk c.choose_half.new.device)))))
    (HasFront (geometry_view c.args.geometry) (reads_of (g.D.Device.disk c.args.device.now))) e
    (λ front. record {
      half = c.in_ok-choice.choice.half;
      chosen = c.in_ok-choice.ensures.choice honest;
      front = subst (λ (h : History). IsOk (front_in latest (512 * c.args.geometry.checkpoint) (area_of (geometry_view c.args.geometry) c.in_ok-choice.choice.half h.now.reads))) same front;
    })
    (c.in_err-checkpoint.ensures.memory honest_mid))

pub read_journals-requires-clause-room : goal.read_journals-requires-clause-room
read_journals-requires-clause-room g c =
    room_kept (geometry_view c.args.geometry) (g.D.Device.disk c.args.device.now) (g.D.Device.disk c.read_checkpoint.new.device) (c.in_ok-checkpoint.ensures.looks.keeps.sectors ∙ c.in_ok-choice.ensures.looks.keeps.sectors) c.requires.room

pub read_journals-requires-clause-heads : goal.read_journals-requires-clause-heads
read_journals-requires-clause-heads g c = λ honest_two.
    let honest_one = honest_before (g.D.Device.disk c.choose_half.new.device) (g.D.Device.disk c.read_checkpoint.new.device) c.in_ok-checkpoint.ensures.looks.keeps honest_two in
    let honest = honest_before (g.D.Device.disk c.args.device.now) (g.D.Device.disk c.choose_half.new.device) c.in_ok-choice.ensures.looks.keeps honest_one in
    subst (λ (h : History). HasHeads (geometry_view c.args.geometry) h.now.reads c.in_ok-choice.choice.heads)
    (sym (c.in_ok-checkpoint.ensures.looks.history honest_one ∙ c.in_ok-choice.ensures.looks.history honest)) (c.in_ok-choice.ensures.heads honest)

pub returns-clause-looks : goal.returns-clause-looks
returns-clause-looks g c =
    looks_then c.read_journals.result (g.D.Device.disk c.args.device.now) (g.D.Device.disk c.read_checkpoint.new.device) _
    (keeps_then (g.D.Device.disk c.args.device.now) (g.D.Device.disk c.choose_half.new.device) (g.D.Device.disk c.read_checkpoint.new.device) c.in_ok-choice.ensures.looks.keeps c.in_ok-checkpoint.ensures.looks.keeps)
    (c.in_ok-checkpoint.ensures.looks.faults ∙ c.in_ok-choice.ensures.looks.faults)
    (λ honest. c.in_ok-checkpoint.ensures.looks.history (honest_after (g.D.Device.disk c.args.device.now) (g.D.Device.disk c.choose_half.new.device) c.in_ok-choice.ensures.looks.keeps honest) ∙ c.in_ok-choice.ensures.looks.history honest)
    c.read_journals.ensures.looks

pub returns-clause-opening : goal.returns-clause-opening
returns-clause-opening g c honest =
    let same = c.in_ok-choice.ensures.looks.history honest in
    let honest_mid = honest_after (g.D.Device.disk c.args.device.now) (g.D.Device.disk c.choose_half.new.device) c.in_ok-choice.ensures.looks.keeps honest in
    let honest_two = honest_after (g.D.Device.disk c.choose_half.new.device) (g.D.Device.disk c.read_checkpoint.new.device) c.in_ok-checkpoint.ensures.looks.keeps honest_mid in
    let cp = checkpoint_view c.in_ok-checkpoint.checkpoint in
    let there : checkpoint_in rows_format latest (area_of (geometry_view c.args.geometry) c.in_ok-choice.choice.half (reads_of (g.D.Device.disk c.args.device.now))) ≡ Ok cp =
    subst (λ (h : History). checkpoint_in rows_format latest (area_of (geometry_view c.args.geometry) c.in_ok-choice.choice.half h.now.reads) ≡ Ok cp) same (c.in_ok-checkpoint.ensures.checkpoint honest_mid) in
    opens_same opening_view c.read_journals.result (by_checkpoint store_format (geometry_view c.args.geometry) c.in_ok-choice.choice.half (reads_of (g.D.Device.disk c.args.device.now)) (Ok cp)) (by_choice store_format latest (geometry_view c.args.geometry) (reads_of (g.D.Device.disk c.args.device.now)) (choice_by_heads (geometry_view c.args.geometry) (reads_of (g.D.Device.disk c.args.device.now))))
    (sym (ap (by_choice store_format latest (geometry_view c.args.geometry) (reads_of (g.D.Device.disk c.args.device.now))) (c.in_ok-choice.ensures.choice honest) ∙ ap (by_checkpoint store_format (geometry_view c.args.geometry) c.in_ok-choice.choice.half (reads_of (g.D.Device.disk c.args.device.now))) there))
    (subst (λ (h : History). OpensSo opening_view c.read_journals.result (by_checkpoint store_format (geometry_view c.args.geometry) c.in_ok-choice.choice.half h.now.reads (Ok cp)))
    (c.in_ok-checkpoint.ensures.looks.history honest_mid ∙ same) (c.read_journals.ensures.opening honest_two))

pub returns-clause-memory : goal.returns-clause-memory
returns-clause-memory g c honest =
    let same = c.in_ok-choice.ensures.looks.history honest in
    let honest_mid = honest_after (g.D.Device.disk c.args.device.now) (g.D.Device.disk c.choose_half.new.device) c.in_ok-choice.ensures.looks.keeps honest in
    memory_from (HasFront (geometry_view c.args.geometry) (reads_of (g.D.Device.disk c.args.device.now))) c.read_journals.result
    (record {
      half = c.in_ok-choice.choice.half;
      chosen = c.in_ok-choice.ensures.choice honest;
      front = subst (λ (h : History). IsOk (front_in latest (512 * c.args.geometry.checkpoint) (area_of (geometry_view c.args.geometry) c.in_ok-choice.choice.half h.now.reads))) same (c.in_ok-checkpoint.ensures.memory honest_mid);
    })
