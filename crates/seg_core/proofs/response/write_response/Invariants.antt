use Rattle.std.proofs.Common.{◌≡◌, take}
use Rattle.seg_core.specs.Encoding.{referred_rows}
use Rattle.seg_core.proofs.response.write_response.Given as goal

abbrev pub invariant-loop-kind : goal.invariant-loop-kind
invariant-loop-kind l = referred_rows l.referred.items ≡ take l.kind-index l.segments
