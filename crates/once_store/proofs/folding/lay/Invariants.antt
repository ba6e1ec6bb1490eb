use Rattle.std.proofs.Common.{◌≡◌, ◌-◌, false}
use Rattle.byte_lists.specs.Sectors.{whole_sectors}
use Rattle.group_core.specs.Steps.{IsPlanTurn}
use Rattle.once_store.specs.Folding.{HasWholeSectors}
use Rattle.once_store.proofs.folding.lay.Given as goal

-- some of it is written, and nothing else has changed
abbrev pub invariant-chunks : goal.invariant-chunks
invariant-chunks l = record {
  turn : IsPlanTurn l.plan l.state;
  going : l.state.stopped ≡ false;
  sectors : HasWholeSectors l.state;
  state : l.state ≡ record l.fn.state { disk = l.state.disk; written = l.state.written };
}

abbrev pub decreases-chunks : goal.decreases-chunks
decreases-chunks l = whole_sectors l.state.checkpoint - l.state.written
