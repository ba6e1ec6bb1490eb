use Rattle.std.proofs.Common.{vec_len}
use Rattle.group_recovery.specs.Holding.{AllRedeemed}
use Rattle.group_recovery.proofs.ticket_events.end_all.Given as goal

-- the tickets that are left are redeemed
abbrev pub invariant-loop-ticket : goal.invariant-loop-ticket
invariant-loop-ticket l = record { redeemed : AllRedeemed l.tickets.items }

abbrev pub decreases-loop-ticket : goal.decreases-loop-ticket
decreases-loop-ticket l = vec_len l.tickets
