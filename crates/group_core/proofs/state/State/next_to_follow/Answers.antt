use Rattle.std.proofs.Common.{◌≡◌, ◌+◌, ◌-◌, ◌/◌, ◌≤◌, false, length, take, drop, sym, subst, rules, arith}
use Rattle.store_layout.specs.Group.{group_sectors, JournalHasRoom}
use Rattle.gate_journal.specs.Commands.{command_format}
use Rattle.group_phases.specs.declared.phases.Flush.TheVariants.{Opened as opened}
use Rattle.group_core.specs.StateView.{StateView}
use Rattle.group_core.specs.Steps.{IsFlushTurn}
use Rattle.group_core.specs.Following.{MayFollow, TakesFollower, FollowerHasNoRoom}
use Rattle.group_core.proofs.FollowSteps.{later_so, takes_follower, follower_has_no_room}
use Rattle.group_core.proofs.state.State.next_to_follow.Goals as goal

pub returns-then-not-fits : goal.returns-then-not-fits
returns-then-not-fits g c =
    let n = c.longest_front-front.result.count in
    let later = take (length c.deref.result.now - c.self.inside.taken) (drop c.self.inside.taken c.deref.result.now) in
    let turn : IsFlushTurn opened c.args.value.now c.args.self.now = search rules in
    let going : c.args.self.now.stopped ≡ false = search rules in
    let may : MayFollow c.args.value.now c.args.self.now = record { turn = turn; going = going } in
    let group : 1 ≤ c.self.inside.taken = search rules in
    let some : 1 ≤ length later = search rules in
    let sectors : c.payload_sectors-sectors.result ≡ group_sectors command_format (take n later) = omega (arith, c.payload_sectors-sectors.ensures, c.longest_front-front.ensures.bytes) in (
      λ is. cc,
      (
        may,
        subst FollowerHasNoRoom c.self.view_is
            (follower_has_no_room _ _ c.self.invariant c.args.value.now (subst (MayFollow c.args.value.now) (sym c.self.view_is) may) group later
            (later_so c.self.inside.taken c.self.inside.pending.items c.deref.result.now c.deref.ensures.value) some n c.longest_front-front.ensures.longest
            (λ room. cc (c.if-not-fits.ensures.1 (omega (arith, room, sectors, c.len.ensures, c.from.ensures))))),
      ),
    )

pub returns : goal.returns
returns g c =
    let n = c.longest_front-front.result.count in
    let later = take (length c.deref.result.now - c.self.inside.taken) (drop c.self.inside.taken c.deref.result.now) in
    let turn : IsFlushTurn opened c.args.value.now c.args.self.now = search rules in
    let going : c.args.self.now.stopped ≡ false = search rules in
    let may : MayFollow c.args.value.now c.args.self.now = record { turn = turn; going = going } in
    let group : 1 ≤ c.self.inside.taken = search rules in
    let some : 1 ≤ length later = search rules in
    let sectors : c.payload_sectors-sectors.result ≡ group_sectors command_format (take n later) = omega (arith, c.payload_sectors-sectors.ensures, c.longest_front-front.ensures.bytes) in
    let room : JournalHasRoom (c.self.inside.gate + c.len.result / 512) c.payload_sectors-sectors.result c.from.result = search rules in (
      may,
      subst (λ (v : StateView). TakesFollower v n) c.self.view_is
          (takes_follower _ _ c.self.invariant c.args.value.now (subst (MayFollow c.args.value.now) (sym c.self.view_is) may) group later
          (later_so c.self.inside.taken c.self.inside.pending.items c.deref.result.now c.deref.ensures.value) some n c.longest_front-front.ensures.longest
          (c.longest_front-front.ensures.some some) (omega (arith, room, sectors, c.len.ensures, c.from.ensures))),
    )
