use Rattle.group_recovery.proofs.Tickets.{all_redeemed}
use Rattle.group_recovery.proofs.run_state.Run.into_device.Goals as goal

pub end_all-requires : goal.end_all-requires
end_all-requires g c = all_redeemed c.self.inside.tickets.items c.self.inside.state c.self.invariant.tickets c.in-Ok.ensures.answer.0.kept
