-- Six numbers, each after the other.
use Rattle.std.proofs.Common.{rules, ◌≡◌, List, ℕ, [], ◌++◌, replicate, refl, sym, ap, ◌∙◌, arith}
use Rattle.std.proofs.lemmas.List.{take_all}
use Rattle.store_layout.specs.Checkpoint.{CanBeHead}
use Rattle.ckpt_pair.specs.Checkpoint.{written_checkpoint}
use Rattle.path_records.specs.RowRecord.{rows_encoding}
use Rattle.ckpt_pair.proofs.Lengths.{put_behind, six_parts, records_len}
use Rattle.ckpt_pair.proofs.Stored.{can_be}
use Rattle.ckpt_pair.proofs.encoding.checkpoint_front.Goals as goal

pub returns-clause-spelled : goal.returns-clause-spelled
returns-clause-spelled c = λ rows size count.
    let a = c.to_be_bytes.result in
    let b = c.to_be_bytes-2.result in
    let d = c.to_be_bytes-3.result in
    let e = c.to_be_bytes-4.result in
    let f = c.to_be_bytes-5.result in
    let g = c.to_be_bytes-6.result in
    let records = rows_encoding rows in
    let one = put_behind 0 4 (replicate 32 0) c.put.new.bytes [] a refl (omega arith) c.put.ensures.front in
    let two = put_behind 4 4 c.put.new.bytes c.put-2.new.bytes a b one (omega arith) c.put-2.ensures.front in
    let three = put_behind 8 8 c.put-2.new.bytes c.put-3.new.bytes (a ++ b) d two (omega arith) c.put-3.ensures.front in
    let four = put_behind 16 8 c.put-3.new.bytes c.put-4.new.bytes ((a ++ b) ++ d) e three (omega arith) c.put-4.ensures.front in
    let five = put_behind 24 4 c.put-4.new.bytes c.put-5.new.bytes (((a ++ b) ++ d) ++ e) f four (omega arith) c.put-5.ensures.front in
    let six = put_behind 28 4 c.put-5.new.bytes c.put-6.new.bytes ((((a ++ b) ++ d) ++ e) ++ f) g five (omega arith) c.put-6.ensures.front in
    let all : c.put-6.new.bytes ≡ ((((a ++ b) ++ d) ++ e) ++ f) ++ g = sym (take_all 32 c.put-6.new.bytes (omega (arith, c.put-6.ensures.size))) ∙ six in
    ap (λ (list : List ℕ). list ++ records) all ∙ six_parts a b d e f g records
    ∙ search (rules, records_len rows, size, count)

pub returns-clause-can : goal.returns-clause-can
returns-clause-can c = λ rows is small.
    let written = written_checkpoint c.args.epoch c.args.place rows in
    let head : CanBeHead written.head = record {
      some = omega arith;
      version = omega arith;
      epoch = omega (arith, c.ranges.epoch.fits);
      place = omega (arith, c.ranges.place.fits);
    } in
    can_be written.head rows head is small
