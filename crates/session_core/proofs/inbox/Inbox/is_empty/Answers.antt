use Rattle.std.proofs.Common.{◌≡◌, ◌-◌, length, take, arith, ap, eq-eqb, eqb-true}
use Rattle.std.proofs.lemmas.List.{nil_from_length, length-drop, length-take-le}
use Rattle.session_core.proofs.inbox.Inbox.is_empty.Goals as goal

pub returns : goal.returns
returns c =
    let used = c.self.inside.used in
    let end = c.self.inside.end in
    let bytes = c.self.inside.bytes.items in
    let size : length c.args.self.now ≡ end - used = omega (arith, ap length c.self.view_is, length-drop used (take end bytes), length-take-le end bytes c.self.invariant.1) in (
      λ equal. nil_from_length _ (let e = eqb-true used end equal in omega (arith, size, e)),
      λ none. eq-eqb used end (let e = ap length none in omega (arith, size, e, c.self.invariant.0)),
    )
