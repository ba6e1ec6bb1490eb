use Rattle.std.proofs.Common.{◌≡◌, ◌<◌, ◌-◌, length, take, refl, sym, subst, ◌∙◌, arith, ltb-true, ltb-false}
use Rattle.std.proofs.lemmas.Result.{err_from_is_err_and}
use Rattle.row_map.specs.Row.{row_view}
use Rattle.ckpt_pair.specs.Stream.{StreamView, HasStreamed, AreNoStreamedRows}
use Rattle.ckpt_pair.proofs.Streams.{streamed_row, all_streamed, more_than_count, refused_cursor, fewer_than_count}
use Rattle.ckpt_pair.proofs.row_stream.RowStream.next.Goals as goal

pub returns-then-has_rest-clause-refused : goal.returns-then-has_rest-clause-refused
returns-then-has_rest-clause-refused c = λ other.
    let s = c.self.inside in
    let stream : StreamView = record { cursor = s.cursor; bytes = s.bytes; rows = s.rows } in
    let some : 0 < length s.cursor.rest = ltb-true 0 (length s.cursor.rest) (sym c.has_rest.ensures ∙ c.if-has_rest.true) in
    (refl, subst (λ (v : StreamView). AreNoStreamedRows v) c.self.view_is (more_than_count stream c.if-self-eq0.true some))

pub returns-then-self-eq0-clause-all : goal.returns-then-self-eq0-clause-all
returns-then-self-eq0-clause-all c = λ size count pushed given is whole.
    let s = c.self.inside in
    let stream : StreamView = record { cursor = s.cursor; bytes = s.bytes; rows = s.rows } in
    let few = ltb-false 0 (length s.cursor.rest) (sym c.has_rest.ensures ∙ c.if-has_rest.false) in
    all_streamed size count pushed given stream (subst (λ (v : StreamView). HasStreamed size count pushed given v) (sym c.self.view_is) is)
    c.if-self-eq0.true (omega (arith, few))

pub returns-in_err-row-clause-refused : goal.returns-in_err-row-clause-refused
returns-in_err-row-clause-refused c =
    let p = err_from_is_err_and c.from_residual.result c.from_residual.ensures.1 in
    let s = c.self.inside in
    let stream : StreamView = record { cursor = s.cursor; bytes = s.bytes; rows = s.rows } in
    rw (p.1, p.2) (λ other.
    let so = c.in_err-row.ensures.refused other in
    (so.0, subst (λ (v : StreamView). AreNoStreamedRows v) c.self.view_is (refused_cursor stream so.1)))

pub returns-then-self-eq0-2-clause-refused : goal.returns-then-self-eq0-2-clause-refused
returns-then-self-eq0-2-clause-refused c = λ other.
    let s = c.self.inside in
    let stream : StreamView = record { cursor = s.cursor; bytes = s.bytes; rows = s.rows } in
    let none = rw c.in-None.is at c.in_ok-row.ensures.none in (
      refl,
      subst (λ (v : StreamView). AreNoStreamedRows v) c.self.view_is
          (fewer_than_count stream (omega (arith, c.if-self-eq0.false)) c.if-self-eq0-2.true none.1),
    )

pub returns-in-Some-clause-row : goal.returns-in-Some-clause-row
returns-in-Some-clause-row c = λ size count pushed given is.
    let s = c.self.inside in
    let stream : StreamView = record { cursor = s.cursor; bytes = s.bytes; rows = s.rows } in
    let more = rw c.in-Some.is at c.in_ok-row.ensures.row in
    streamed_row size count pushed given stream (subst (λ (v : StreamView). HasStreamed size count pushed given v) (sym c.self.view_is) is)
    (row_view c.in-Some.row) c.next_row.new.cursor (s.rows - 1) (more (take size pushed) given) (omega (arith, c.if-self-eq0.false))
