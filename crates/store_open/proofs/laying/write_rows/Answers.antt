-- Nothing is written at first, and each piece is written after those before it.
use Rattle.std.proofs.Common.{rules, ◌≡◌, ◌∷◌, ◌++◌, take, ◌∙◌, arith}
use Rattle.std.proofs.lemmas.List.{length-take-le}
use Rattle.row_map.specs.Row.{row_view}
use Rattle.path_records.specs.RowRecord.{rows_encoding}
use Rattle.store_open.proofs.RowWrites.{torn_here, torn_on, rewritten_none, row_more, rewritten_piece}
use Rattle.store_open.proofs.laying.write_rows.Goals as goal

pub loop-row-init : goal.loop-row-init
loop-row-init g c =
    let whole = g.met.D.Device.whole c.args.device.now in
    let all = take c.args.before c.args.buffer.now ++ rows_encoding c.args.rows in
    record {
      rewritten = search (rules, rewritten_none c.args.at all (g.D.Device.disk c.args.device.now) whole (omega (arith, c.requires.inside)));
      torn = torn_here _ _ _ whole c.requires.inside c.requires.clean;
      faults = search rules;
      used = c.requires.used;
      buffer = c.requires.buffer;
    }

pub write_piece-requires-clause-inside : goal.write_piece-requires-clause-inside
write_piece-requires-clause-inside g c =
    let next : c.loop-row.rows ≡ row_view c.in-Some.row.now ∷ c.next.new.self = search rules in
    let more = row_more _ _ _ _ _ _ _ _ _ _ _ _ c.loop-row.invariant.rewritten next c.put_seven-used.ensures.put
    (omega (arith, c.put_seven-used.ensures.inside, c.put_seven-used.ensures.buffer, c.loop-row.invariant.used, c.loop-row.invariant.buffer)) in
    omega (arith, more.room, c.if-used-ge-PIECE.true, c.requires.inside, c.loop-row.invariant.torn.keeps.sectors)

pub returns-in_err-write_piece-clause-any_moment : goal.returns-in_err-write_piece-clause-any_moment
returns-in_err-write_piece-clause-any_moment g c =
    let next : c.loop-row.rows ≡ row_view c.in-Some.row.now ∷ c.next.new.self = search rules in
    let more = row_more _ _ _ _ _ _ _ _ _ _ _ _ c.loop-row.invariant.rewritten next c.put_seven-used.ensures.put
    (omega (arith, c.put_seven-used.ensures.inside, c.put_seven-used.ensures.buffer, c.loop-row.invariant.used, c.loop-row.invariant.buffer)) in
    let piece = length-take-le 131072 c.put_seven-used.new.buffer (omega (arith, c.if-used-ge-PIECE.true, c.put_seven-used.ensures.inside, c.put_seven-used.ensures.buffer, c.loop-row.invariant.used, c.loop-row.invariant.buffer)) in
    torn_on _ _ _ (g.met.D.Device.whole c.args.device.now) c.requires.inside _ _ _ _ _ (g.met.D.Device.whole c.loop-row.device) more.since (omega (arith, more.room, piece, c.if-used-ge-PIECE.true))
    c.loop-row.invariant.torn c.write_piece.ensures.write

pub overflow_add-sector : goal.overflow_add-sector
overflow_add-sector g c =
    let next : c.loop-row.rows ≡ row_view c.in-Some.row.now ∷ c.next.new.self = search rules in
    let more = row_more _ _ _ _ _ _ _ _ _ _ _ _ c.loop-row.invariant.rewritten next c.put_seven-used.ensures.put
    (omega (arith, c.put_seven-used.ensures.inside, c.put_seven-used.ensures.buffer, c.loop-row.invariant.used, c.loop-row.invariant.buffer)) in
    let fits = g.met.D.Device.fits c.args.device.now in
    omega (arith, more.room, c.if-used-ge-PIECE.true, c.requires.inside, fits)

pub loop-row-preserved-then-used-ge-PIECE : goal.loop-row-preserved-then-used-ge-PIECE
loop-row-preserved-then-used-ge-PIECE g c =
    let next : c.loop-row.rows ≡ row_view c.in-Some.row.now ∷ c.next.new.self = search rules in
    let more = row_more _ _ _ _ _ _ _ _ _ _ _ _ c.loop-row.invariant.rewritten next c.put_seven-used.ensures.put
    (omega (arith, c.put_seven-used.ensures.inside, c.put_seven-used.ensures.buffer, c.loop-row.invariant.used, c.loop-row.invariant.buffer)) in
    let piece = length-take-le 131072 c.put_seven-used.new.buffer (omega (arith, c.if-used-ge-PIECE.true, c.put_seven-used.ensures.inside, c.put_seven-used.ensures.buffer, c.loop-row.invariant.used, c.loop-row.invariant.buffer)) in
    record {
      rewritten = rewritten_piece _ _ 256 _ _ _ _ _ _ _ _ _ more.rewritten c.loop-row.invariant.torn.keeps c.in_ok-write_piece.ensures.rest c.in_ok-write_piece.ensures.write (λ landed done. done) piece
          (g.met.D.Device.whole c.args.device.now) (omega (arith, c.requires.inside));
      torn = torn_on _ _ _ (g.met.D.Device.whole c.args.device.now) c.requires.inside _ _ _ _ _ (g.met.D.Device.whole c.loop-row.device) more.since (omega (arith, more.room, piece, c.if-used-ge-PIECE.true))
          c.loop-row.invariant.torn c.in_ok-write_piece.ensures.write;
      faults = c.in_ok-write_piece.ensures.write.faults ∙ c.loop-row.invariant.faults;
      used = omega (arith, c.put_seven-used.ensures.inside, c.loop-row.invariant.used);
      buffer = c.write_piece.ensures.buffer ∙ c.put_seven-used.ensures.buffer ∙ c.loop-row.invariant.buffer;
    }
