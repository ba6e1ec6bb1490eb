-- The head of a half with an open gate.
use Rattle.std.proofs.Common.{◌≡◌, ◌∙◌, ap, subst, sym, Result, Err, Option}
use Rattle.std.proofs.lemmas.Result.{err_from_is_err_and}
use Rattle.sector_dev.specs.Disk.{History, reads_of}
use Rattle.sector_dev.proofs.Stretches.{honest_after}
use Rattle.store_layout.specs.OpeningReading.{head_of}
use Rattle.ckpt_pair.specs.declared.choice.Head.{Head}
use Rattle.ckpt_pair.specs.Heads.{head_seen}
use Rattle.store_layout.specs.Limits.{latest}
use Rattle.ckpt_pair.specs.Refusals.{ReadsPair}
use Rattle.store_layout.specs.Geometry.{geometry_view}
use Rattle.store_open.specs.declared.error.OpenError.{OpenError}
use Rattle.store_open.specs.Refusals.{error_of_pair, PairSo}
use Rattle.store_open.proofs.Fronts.{head_told, pair_told, pair_refused}
use Rattle.store_open.proofs.heads.head_at.Goals as goal

pub returns-in_err-read_head-clause-head : goal.returns-in_err-read_head-clause-head
returns-in_err-read_head-clause-head g c honest =
    let made = err_from_is_err_and c.from_residual-in_err-read_head.result c.from_residual-in_err-read_head.ensures.1 in
    let e = c.in_err-read_head.field-0.0 in
    let so : c.from_residual-in_err-read_head.result ≡ Err (error_of_pair e) = made.1 ∙ ap (λ (x : OpenError). Err x) made.2 in
    let reads = reads_of (g.D.Device.disk c.args.device.now) in
    let same = head_told latest (geometry_view c.args.geometry) c.args.half reads _ _ _ _ _ c.requires.allowed c.gate_at.ensures c.area_at.ensures
    (ap (λ (h : History). h.now.reads) (c.in_ok-gate.ensures.looks.history honest)) (c.in_ok-gate.ensures.read honest)
    (c.in_ok-area.ensures.read (honest_after _ _ c.in_ok-gate.ensures.looks.keeps honest)) in
    subst (λ (r : Result (Option Head) OpenError). PairSo head_seen r (head_of latest (geometry_view c.args.geometry) c.args.half reads)) (sym so)
    (pair_refused head_seen e (head_of latest (geometry_view c.args.geometry) c.args.half reads)
    (subst (ReadsPair head_seen (Err e)) same c.in_err-read_head.ensures))

pub returns-clause-head : goal.returns-clause-head
returns-clause-head g c honest =
    let reads = reads_of (g.D.Device.disk c.args.device.now) in
    let same = head_told latest (geometry_view c.args.geometry) c.args.half reads _ _ _ _ _ c.requires.allowed c.gate_at.ensures c.area_at.ensures
    (ap (λ (h : History). h.now.reads) (c.in_ok-gate.ensures.looks.history honest)) (c.in_ok-gate.ensures.read honest)
    (c.in_ok-area.ensures.read (honest_after _ _ c.in_ok-gate.ensures.looks.keeps honest)) in
    sym same ∙ pair_told head_seen c.in_ok-read_head.field-0 _ c.in_ok-read_head.ensures
