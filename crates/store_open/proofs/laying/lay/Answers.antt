-- The front, whole pieces, and the rest.
use Rattle.std.proofs.Common.{rules, ◌≡◌, ◌*◌, ◌++◌, ℕ, List, length, take, ap, subst, arith}
use Rattle.byte_lists.specs.Sectors.{padded}
use Rattle.path_records.specs.RowRecord.{rows_encoding}
use Rattle.sector_dev.specs.Disk.{reads_of}
use Rattle.sector_dev.specs.Stretch.{Stretch}
use Rattle.sector_dev.proofs.Stretches.{stretch_sync}
use Rattle.store_open.specs.RowWrites.{IsWrittenUpTo}
use Rattle.store_open.specs.TakingOver.{IsTornAt}
use Rattle.store_open.proofs.RowWrites.{torn_on, put_first, rest_room, rest_since, rest_written}
use Rattle.store_open.proofs.laying.lay.Goals as goal

pub write_rows-requires-clause-inside : goal.write_rows-requires-clause-inside
write_rows-requires-clause-inside g c =
    let size : length c.args.head.now ≡ 32 = search rules in
    let front : take 32 c.put.new.bytes ≡ c.args.head.now = put_first 32 c.args.head.now c.args.buffer.now c.put.new.bytes size (omega (arith, c.requires.buffer)) c.put.ensures.put in
    let same : take 32 c.put.new.bytes ++ rows_encoding c.rows.result ≡ c.args.head.now ++ rows_encoding c.args.db.now = (λ i. front i ++ rows_encoding (c.rows.ensures.same i)) in
    omega (arith, ap (λ (all : List ℕ). length (padded all)) same, c.requires.inside)

pub returns-in_err-sector-clause-any_moment : goal.returns-in_err-sector-clause-any_moment
returns-in_err-sector-clause-any_moment g c =
    let size : length c.args.head.now ≡ 32 = search rules in
    let front : take 32 c.put.new.bytes ≡ c.args.head.now = put_first 32 c.args.head.now c.args.buffer.now c.put.new.bytes size (omega (arith, c.requires.buffer)) c.put.ensures.put in
    let same : take 32 c.put.new.bytes ++ rows_encoding c.rows.result ≡ c.args.head.now ++ rows_encoding c.args.db.now = (λ i. front i ++ rows_encoding (c.rows.ensures.same i)) in
    let start = g.D.Device.disk c.args.device.now in
    let torn = subst (λ (all : List ℕ). Stretch start (g.D.Device.disk c.write_rows.new.device) (IsTornAt (512 * c.args.at) (length (padded all)) (reads_of start))) same c.write_rows.ensures.any_moment in
    torn

pub write_rest-requires-clause-inside : goal.write_rest-requires-clause-inside
write_rest-requires-clause-inside g c =
    let size : length c.args.head.now ≡ 32 = search rules in
    let front : take 32 c.put.new.bytes ≡ c.args.head.now = put_first 32 c.args.head.now c.args.buffer.now c.put.new.bytes size (omega (arith, c.requires.buffer)) c.put.ensures.put in
    let same : take 32 c.put.new.bytes ++ rows_encoding c.rows.result ≡ c.args.head.now ++ rows_encoding c.args.db.now = (λ i. front i ++ rows_encoding (c.rows.ensures.same i)) in
    let start = g.D.Device.disk c.args.device.now in
    let torn = subst (λ (all : List ℕ). Stretch start (g.D.Device.disk c.write_rows.new.device) (IsTornAt (512 * c.args.at) (length (padded all)) (reads_of start))) same c.write_rows.ensures.any_moment in
    let rewritten = subst (IsWrittenUpTo start (g.D.Device.disk c.write_rows.new.device) c.args.at c.in_ok-sector.sector (take c.in_ok-sector.used c.write_rows.new.buffer)) same c.in_ok-sector.ensures.rewritten in
    let room = rest_room _ _ _ _ _ _ rewritten in
    omega (arith, room, torn.keeps.sectors, c.requires.inside)

pub returns-in_err-write_rest-clause-any_moment : goal.returns-in_err-write_rest-clause-any_moment
returns-in_err-write_rest-clause-any_moment g c =
    let size : length c.args.head.now ≡ 32 = search rules in
    let front : take 32 c.put.new.bytes ≡ c.args.head.now = put_first 32 c.args.head.now c.args.buffer.now c.put.new.bytes size (omega (arith, c.requires.buffer)) c.put.ensures.put in
    let same : take 32 c.put.new.bytes ++ rows_encoding c.rows.result ≡ c.args.head.now ++ rows_encoding c.args.db.now = (λ i. front i ++ rows_encoding (c.rows.ensures.same i)) in
    let start = g.D.Device.disk c.args.device.now in
    let torn = subst (λ (all : List ℕ). Stretch start (g.D.Device.disk c.write_rows.new.device) (IsTornAt (512 * c.args.at) (length (padded all)) (reads_of start))) same c.write_rows.ensures.any_moment in
    let rewritten = subst (IsWrittenUpTo start (g.D.Device.disk c.write_rows.new.device) c.args.at c.in_ok-sector.sector (take c.in_ok-sector.used c.write_rows.new.buffer)) same c.in_ok-sector.ensures.rewritten in
    let room = rest_room _ _ _ _ _ _ rewritten in
    let written = torn_on _ _ _ (g.met.D.Device.whole c.args.device.now) c.requires.inside _ _ _ _ _ (g.met.D.Device.whole c.write_rows.new.device) (rest_since _ _ _ _ _ _ rewritten) (omega (arith, room)) torn c.write_rest.ensures.write in
    written

pub returns-clause-any_moment : goal.returns-clause-any_moment
returns-clause-any_moment g c =
    let size : length c.args.head.now ≡ 32 = search rules in
    let front : take 32 c.put.new.bytes ≡ c.args.head.now = put_first 32 c.args.head.now c.args.buffer.now c.put.new.bytes size (omega (arith, c.requires.buffer)) c.put.ensures.put in
    let same : take 32 c.put.new.bytes ++ rows_encoding c.rows.result ≡ c.args.head.now ++ rows_encoding c.args.db.now = (λ i. front i ++ rows_encoding (c.rows.ensures.same i)) in
    let start = g.D.Device.disk c.args.device.now in
    let torn = subst (λ (all : List ℕ). Stretch start (g.D.Device.disk c.write_rows.new.device) (IsTornAt (512 * c.args.at) (length (padded all)) (reads_of start))) same c.write_rows.ensures.any_moment in
    let rewritten = subst (IsWrittenUpTo start (g.D.Device.disk c.write_rows.new.device) c.args.at c.in_ok-sector.sector (take c.in_ok-sector.used c.write_rows.new.buffer)) same c.in_ok-sector.ensures.rewritten in
    let room = rest_room _ _ _ _ _ _ rewritten in
    let written = torn_on _ _ _ (g.met.D.Device.whole c.args.device.now) c.requires.inside _ _ _ _ _ (g.met.D.Device.whole c.write_rows.new.device) (rest_since _ _ _ _ _ _ rewritten) (omega (arith, room)) torn c.write_rest.ensures.write in
    stretch_sync _ _ _ _ _ written c.sync.ensures.sync

pub returns-clause-written : goal.returns-clause-written
returns-clause-written g c =
    let size : length c.args.head.now ≡ 32 = search rules in
    let front : take 32 c.put.new.bytes ≡ c.args.head.now = put_first 32 c.args.head.now c.args.buffer.now c.put.new.bytes size (omega (arith, c.requires.buffer)) c.put.ensures.put in
    let same : take 32 c.put.new.bytes ++ rows_encoding c.rows.result ≡ c.args.head.now ++ rows_encoding c.args.db.now = (λ i. front i ++ rows_encoding (c.rows.ensures.same i)) in
    let start = g.D.Device.disk c.args.device.now in
    let torn = subst (λ (all : List ℕ). Stretch start (g.D.Device.disk c.write_rows.new.device) (IsTornAt (512 * c.args.at) (length (padded all)) (reads_of start))) same c.write_rows.ensures.any_moment in
    let rewritten = subst (IsWrittenUpTo start (g.D.Device.disk c.write_rows.new.device) c.args.at c.in_ok-sector.sector (take c.in_ok-sector.used c.write_rows.new.buffer)) same c.in_ok-sector.ensures.rewritten in
    let room = rest_room _ _ _ _ _ _ rewritten in
    let is = rest_written _ _ _ _ _ _ rewritten _ (g.D.Device.disk c.write_rest.new.device) torn.keeps c.in_ok-write_rest.ensures.write (λ landed done. done) (g.met.D.Device.whole c.args.device.now)
    (omega (arith, c.requires.inside)) in
    search (rules, is)
