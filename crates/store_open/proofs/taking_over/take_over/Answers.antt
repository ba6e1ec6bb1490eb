-- Three writes, each with its sync.
use Rattle.std.proofs.Common.{arith, refl, ◌++◌}
use Rattle.std.proofs.lemmas.Result.{on_ok_weaker}
use Rattle.sector_dev.proofs.Stretches.{honest_after}
use Rattle.byte_lists.specs.Sectors.{padded}
use Rattle.path_records.specs.RowRecord.{rows_encoding}
use Rattle.store_layout.specs.Geometry.{geometry_view}
use Rattle.store_open.proofs.Gates.{gates_inside}
use Rattle.store_open.proofs.TakingOver.{first_taking, second_taking, third_taking, all_taken}
use Rattle.store_open.proofs.taking_over.take_over.Goals as goal

pub returns-in_err-lay-clause-any_moment : goal.returns-in_err-lay-clause-any_moment
returns-in_err-lay-clause-any_moment g c =
    first_taking (geometry_view c.args.geometry) c.args.half _ c.other-new.ensures (padded (c.args.head.now ++ rows_encoding c.args.db.now)) _ _ _ c.area_at.ensures c.lay.ensures.any_moment

pub returns-in_err-write_through-clause-any_moment : goal.returns-in_err-write_through-clause-any_moment
returns-in_err-write_through-clause-any_moment g c =
    second_taking (geometry_view c.args.geometry) c.args.half _ c.other-new.ensures (padded (c.args.head.now ++ rows_encoding c.args.db.now)) _ _ _ c.area_at.ensures c.lay.ensures.any_moment
    c.in_ok-lay.ensures.written _ _ _ c.gate_at.ensures c.open_gate.ensures c.write_through.ensures.any_moment

pub write_through-requires-2-clause-inside : goal.write_through-requires-2-clause-inside
write_through-requires-2-clause-inside g c =
    omega (
      arith,
      c.lay.ensures.any_moment.keeps.sectors,
      c.write_through.ensures.any_moment.keeps.sectors,
      c.requires.room,
      c.gate_at-2.ensures,
      c.closed_gates.ensures.size,
      gates_inside (geometry_view c.args.geometry) c.args.half (omega (arith, c.requires.allowed)),
    )

pub returns-clause-any_moment : goal.returns-clause-any_moment
returns-clause-any_moment g c =
    third_taking (geometry_view c.args.geometry) c.args.half _ c.other-new.ensures (padded (c.args.head.now ++ rows_encoding c.args.db.now)) _ _ _ c.area_at.ensures c.lay.ensures.any_moment
    c.in_ok-lay.ensures.written _ _ _ c.gate_at.ensures c.open_gate.ensures c.write_through.ensures.any_moment
    c.in_ok-write_through.ensures.written _ _ _ c.gate_at-2.ensures c.closed_gates.ensures.same c.write_through-2.ensures.any_moment

pub returns-clause-settled : goal.returns-clause-settled
returns-clause-settled g c =
    on_ok_weaker c.write_through-2.result
    (λ settled honest. settled (honest_after _ _ c.write_through.ensures.any_moment.keeps (honest_after _ _ c.lay.ensures.any_moment.keeps honest))) c.write_through-2.ensures.settled

pub returns-clause-taken : goal.returns-clause-taken
returns-clause-taken g c =
    on_ok_weaker c.write_through-2.result
    (λ written honest.
    let honest_one = honest_after _ _ c.lay.ensures.any_moment.keeps honest in
    all_taken (geometry_view c.args.geometry) c.args.half _ c.other-new.ensures (padded (c.args.head.now ++ rows_encoding c.args.db.now)) _ _ _ c.area_at.ensures c.lay.ensures.any_moment
    c.in_ok-lay.ensures.written _ _ _ c.gate_at.ensures c.open_gate.ensures c.write_through.ensures.any_moment
    c.in_ok-write_through.ensures.written _ _ _ c.gate_at-2.ensures c.closed_gates.ensures.same c.write_through-2.ensures.any_moment honest honest_one
    (written (honest_after _ _ c.write_through.ensures.any_moment.keeps honest_one))) c.write_through-2.ensures.written
