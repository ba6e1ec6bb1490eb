use Rattle.std.proofs.Common.{◌≡◌, ◌-◌, ◌^◌, min, take}
use Rattle.server_front.specs.Seating.{held_by}
use Rattle.server_front.proofs.seats.held_by.Given as goal

-- the seats so far
abbrev pub invariant-loop-seat : goal.invariant-loop-seat
invariant-loop-seat l = l.held ≡ min (held_by (take l.seat-index l.seats) l.address) (2 ^ 64 - 1)
