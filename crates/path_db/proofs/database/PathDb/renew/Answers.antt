use Rattle.std.proofs.Common.{◌≡◌, [], ◌∷◌, refl, sym, ap, ◌∙◌, subst}
use Rattle.std.proofs.lemmas.Bool.{false≢true}
use Rattle.row_map.specs.Database.{RowView, AreWhole, IsDatabase, rows_len}
use Rattle.row_map.specs.Put.{database_after_put, database_after_puts, changes_of, change_of}
use Rattle.path_db.specs.Outcome.{outcome_of_puts, outcome_after}
use Rattle.row_map.specs.Row.{row_view}
use Rattle.row_map.proofs.Exports.{database_puts}
use Rattle.path_db.proofs.Steps.{one_put, one_counted}
use Rattle.path_db.proofs.database.PathDb.renew.Goals as goal
use Rattle.path_db.proofs.database.PathDb.renew.Goals.{then-self+in_ok-change, else-self+in_ok-renew}

pub invariant_of-self-2 : goal.invariant_of-self-2
invariant_of-self-2 c =
    let rows = c.self.inside.rows in
    let row = row_view c.new-row.result in
    let now = c.if-self.self-inside in
    let is : row ≡ c.args.new.now = c.new-row.ensures ∙ ap (λ s. (c.args.new.now.0, s)) c.in-Ok.ensures.same in
    let put : now.rows ≡ database_after_put rows row =
    elim c.if-self.branch [
      | then-self+in_ok-change w ↦ ap (λ s. s.rows) w.self-inside-is ∙ w.in_ok-change.ensures.rows w.in_ok-change.change refl
      | else-self+in_ok-renew w ↦ ap (λ s. s.rows) w.self-inside-is ∙ w.in_ok-renew.ensures.rows w.in_ok-renew.field-0 refl
    ] in
    let counted : now.bytes ≡ rows_len now.rows =
    elim c.if-self.branch [
      | then-self+in_ok-change w ↦ rw w.self-inside-is w.in_ok-change.ensures.bytes
      | else-self+in_ok-renew w ↦ rw w.self-inside-is w.in_ok-renew.ensures.bytes
    ] in
    let whole : AreWhole (c.args.new.now ∷ []) = (c.in-Ok.ensures.whole, tt) in
    record {
      database = subst IsDatabase (one_put rows row ∙ sym put) (database_puts rows (row ∷ []) c.self.invariant.database (subst (λ (r : RowView). AreWhole (r ∷ [])) (sym is) whole));
      counted = counted;
      first = λ e. elim c.if-self.branch [
        | then-self+in_ok-change w ↦ rw w.self-inside-is (w.in_ok-change.ensures.first w.in_ok-change.change refl)
        | else-self+in_ok-renew w ↦ absurd (false≢true (sym (ap (λ p. p.1) w.change-is) ∙ e))
      ];
      last = λ e. elim c.if-self.branch [
        | then-self+in_ok-change w ↦ rw w.self-inside-is (w.in_ok-change.ensures.last w.in_ok-change.change refl)
        | else-self+in_ok-renew w ↦ absurd (false≢true (sym (ap (λ p. p.1) w.change-is) ∙ e))
      ];
      isds = λ e. elim c.if-self.branch [
        | then-self+in_ok-change w ↦ rw w.self-inside-is (w.in_ok-change.ensures.isds w.in_ok-change.change refl)
        | else-self+in_ok-renew w ↦ absurd (false≢true (sym (ap (λ p. p.1) w.change-is) ∙ e))
      ];
    }

pub returns-clause-whole : goal.returns-clause-whole
returns-clause-whole c = λ x e. (invariant_of-self-2 c).database

pub returns-clause-database : goal.returns-clause-database
returns-clause-database c = λ x e.
    let rows = c.self.inside.rows in
    let row = row_view c.new-row.result in
    let is : row ≡ c.args.new.now = c.new-row.ensures ∙ ap (λ s. (c.args.new.now.0, s)) c.in-Ok.ensures.same in
    let put : c.if-self.self-inside.rows ≡ database_after_put rows row =
    elim c.if-self.branch [
      | then-self+in_ok-change w ↦ ap (λ s. s.rows) w.self-inside-is ∙ w.in_ok-change.ensures.rows w.in_ok-change.change refl
      | else-self+in_ok-renew w ↦ ap (λ s. s.rows) w.self-inside-is ∙ w.in_ok-renew.ensures.rows w.in_ok-renew.field-0 refl
    ] in
    rw (← c.self.view_is) (put ∙ sym (one_put rows row) ∙ ap (λ (r : RowView). database_after_puts rows (r ∷ [])) is)

pub returns-clause-outcome : goal.returns-clause-outcome
returns-clause-outcome c = λ x e.
    let rows = c.self.inside.rows in
    let row = row_view c.new-row.result in
    let is : row ≡ c.args.new.now = c.new-row.ensures ∙ ap (λ s. (c.args.new.now.0, s)) c.in-Ok.ensures.same in
    let told : c.count.new.self ≡ x = cc in
    let change : c.if-self.change.0 ≡ change_of rows row =
    elim c.if-self.branch [
      | then-self+in_ok-change w ↦ ap (λ p. p.0) w.change-is ∙ w.in_ok-change.ensures.change w.in_ok-change.change refl
      | else-self+in_ok-renew w ↦ ap (λ p. p.0) w.change-is ∙ w.in_ok-renew.ensures.change w.in_ok-renew.field-0 refl
    ] in
    rw (← c.self.view_is)
    (sym told
    ∙ c.count.ensures
    ∙ ap (λ change. outcome_after change c.nothing-outcome.result) change
    ∙ ap (outcome_after (change_of rows row)) c.nothing-outcome.ensures
    ∙ sym (one_counted rows row)
    ∙ ap (λ (r : RowView). outcome_of_puts (changes_of rows (r ∷ []))) is)
