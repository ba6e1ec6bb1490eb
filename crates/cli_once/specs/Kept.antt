-- What a service over a store in memory represents.
use Rattle.seg_check.specs.Signatures.{Verdicts}
use Rattle.cli_once.specs.declared.once_service.OnceService.{OnceService}
use Rattle.cli_once.specs.Memory.{Served}

-- What a service holds, by the verdicts of its verifier.
abbrev pub served_by : {V : Type 0} → (V → Verdicts) → OnceService V → Served
served_by verifies s = record {
  roster = s.roster.now;
  verifies = verifies s.checker.now;
  now = s.moment;
  rows = s.store.rows;
  place = s.store.place;
}
