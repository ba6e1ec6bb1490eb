use Rattle.std.proofs.Common.{◌≡◌, ℕ, ◌+◌, ◌-◌, ◌≤◌, List, length, take, drop, rules, sym, ap, subst, ◌∙◌, arith}
use Rattle.std.proofs.lemmas.List.{take_at}
use Rattle.session_core.specs.Source.{TakesIn}
use Rattle.session_core.proofs.InboxLemmas.{taken_in}
use Rattle.session_core.proofs.inbox.Inbox.read_from.Goals as goal

pub returns-clause-ok : goal.returns-clause-ok
returns-clause-ok g c =
    let used = c.self.inside.used in
    let end = c.self.inside.end in
    let bytes = c.read_after.new.bytes in
    let room = c.make_room.new.bytes.items in
    let moved : take (end - used) room ≡ drop used (take end c.self.inside.bytes.items) = search rules in
    let front : take (end - used) bytes ≡ c.args.self.now = c.in_ok-len.ensures.front ∙ ap (take (end - used)) c.as_mut_slice.ensures.value ∙ moved ∙ c.self.view_is in
    let roomy : end - used + 65536 ≤ length room = search rules in
    let size : length bytes ≡ length room = c.in_ok-len.ensures.size ∙ ap length c.as_mut_slice.ensures.value in
    let all : take c.make_room.new.bytes.len (_) ≡ bytes = take_at bytes (drop (length bytes) room) c.make_room.new.bytes.len (c.in_ok-len.ensures.size ∙ c.as_mut_slice.ensures.len) in
    subst (λ (after : List ℕ). TakesIn g.R.Source.gives c.args.reader.now c.args.self.now c.in_ok-len.len c.read_after.new.reader (take (end - used + c.in_ok-len.len) after)) (sym all)
    (taken_in g.R.Source.gives _ _ c.args.self.now bytes (end - used) c.in_ok-len.len front (omega (arith, roomy, size, c.in_ok-len.ensures.few)) c.in_ok-len.ensures.few c.in_ok-len.ensures.gives)
