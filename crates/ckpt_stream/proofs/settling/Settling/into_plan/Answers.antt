use Rattle.std.proofs.Common.{◌≡◌, ◌-◌, ◌^◌, min, refl, arith}
use Rattle.ckpt_stream.specs.Edits.{bytes_kept}
use Rattle.ckpt_stream.proofs.Folds.{plan_of}
use Rattle.ckpt_stream.proofs.settling.Settling.into_plan.Goals as goal

pub returns : goal.returns
returns c = λ rows commands is.
    let kept : c.kept_bytes.result ≡ min (bytes_kept c.args.self.edits.items) (2 ^ 64 - 1) = rw (← c.deref.ensures.value) c.kept_bytes.ensures in
    plan_of c.commands_keep_database.ensures.kept c.merges_are_folds.ensures rows commands c.args.self _ is c.requires.applied c.requires.listed refl refl
    (omega (arith, c.saturating_add-size.ensures, kept)) c.saturating_add-count.ensures
