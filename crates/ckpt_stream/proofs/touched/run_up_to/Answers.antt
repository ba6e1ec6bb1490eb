use Rattle.std.proofs.Common.{rules}
use Rattle.std.specs.Ordering.{is_le}
use Rattle.std.proofs.lemmas.Fn.{always_returns_same}
use Rattle.path_records.specs.declared.key.Key.{Key}
use Rattle.path_records.specs.Key.{key_bytes}
use Rattle.ckpt_stream.specs.Merging.{order_of}
use Rattle.ckpt_stream.proofs.Touches.{parted, front_up_to, back_above}
use Rattle.ckpt_stream.proofs.touched.run_up_to.Goals as goal

-- the closure compares the bytes of two keys
pub returns-clause-up_to : goal.returns-clause-up_to
returns-clause-up_to c rise =
    let k = key_bytes c.args.key.now in
    front_up_to k c.args.keys.now c.partition_point.result
    (c.partition_point.ensures.partitioned (λ (l : Key). is_le (order_of (key_bytes l) k)) (always_returns_same _ _ _ (λ a r f called. search rules)) (parted k c.args.keys.now rise)).0

pub returns-clause-above : goal.returns-clause-above
returns-clause-above c rise =
    let k = key_bytes c.args.key.now in
    back_above k c.args.keys.now c.partition_point.result
    (c.partition_point.ensures.partitioned (λ (l : Key). is_le (order_of (key_bytes l) k)) (always_returns_same _ _ _ (λ a r f called. search rules)) (parted k c.args.keys.now rise)).1
