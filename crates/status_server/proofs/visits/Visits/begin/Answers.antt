-- Either the visit was pushed, and the oldest one ended where there were too many then, or none was.
use Rattle.std.proofs.Common.{◌≡◌, ◌++◌, ◌∷◌, [], ◌<◌, length, rules, arith}
use Rattle.status_server.proofs.VisitLemmas.{none_begun, one_begun, newest_begun}
use Rattle.status_server.proofs.visits.Visits.begin.Goals as goal
use Rattle.status_server.proofs.visits.Visits.begin.Goals.{else-is_ok-via-then-is_ok+else-len-gt-MOST_VISITS, else-is_ok-via-else-is_ok}

pub returns-then-len-gt-MOST_VISITS : goal.returns-then-len-gt-MOST_VISITS
returns-then-len-gt-MOST_VISITS g c =
    let is : c.push.new.self.items ≡ c.args.self.now.visits.items ++ c.in-Ok.visit ∷ [] = search rules in
    let many : 64 < length c.push.new.self.items = omega (arith, c.if-len-gt-MOST_VISITS.true, c.len.ensures, c.push.new.self.ok.0) in
    newest_begun 64 c.args.self.now.visits.items c.push.new.self.items c.remove.new.self.items c.in-Ok.visit c.in-Ok.ensures is c.args.self.now.few many c.remove.ensures.by_index.2

pub returns-else-is_ok : goal.returns-else-is_ok
returns-else-is_ok g c =
    elim c.else-is_ok.branch [
      | else-is_ok-via-then-is_ok+else-len-gt-MOST_VISITS w ↦ one_begun 64 c.args.self.now.visits.items c.else-is_ok.self.visits.items c.in-Ok.visit c.in-Ok.ensures (search rules) (search rules)
      | else-is_ok-via-else-is_ok w ↦ none_begun 64 c.args.self.now.visits.items c.else-is_ok.self.visits.items c.args.self.now.few (search rules)
    ]
