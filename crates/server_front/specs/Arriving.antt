-- How the peers of a server arrive.
use Rattle.std.specs.Prelude.{ℕ, Bool, true, false, Option, Some, None}
use Rattle.server_front.specs.declared.door.Door.{Door}
use Rattle.server_front.specs.declared.role.Role.{Role}
use Rattle.server_front.specs.declared.role.Role.TheVariants.{All, Lookups}
use Rattle.server_front.specs.declared.visitors.Visitor.{Visitor}
use Rattle.server_front.specs.declared.visitors.Visitor.TheVariants.{Nobody}

-- The number of sessions to start, which does not change; no limit is 0.
abbrev pub wanted_of : {L : Type 0} → Door L → ℕ
wanted_of door = door.wanted

-- The role of that listener, by whether a wait for both has failed, whether the listener of all
-- sessions has a peer, and whether that of lookups has one. After a wait that failed, and where both
-- have a peer, it is the role that is favoured.
abbrev pub ready_by : Bool → Bool → Bool → Role → Option Role
ready_by true _ _ favoured = Some favoured
ready_by false true true favoured = Some favoured
ready_by false true false favoured = Some All
ready_by false false true favoured = Some Lookups
ready_by false false false favoured = None

-- No peer has come by now, and others may come.
abbrev pub is_nobody : Visitor → Bool
is_nobody Nobody = true
is_nobody _ = false
