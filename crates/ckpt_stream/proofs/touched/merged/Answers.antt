use Rattle.std.proofs.Common.{[], List, map, sym, subst, arith}
use Rattle.std.proofs.lemmas.List.{drop_more, drop_all}
use Rattle.seg_core.specs.declared.seg_type.SegType.TheVariants.{Up}
use Rattle.path_records.specs.declared.key.Key.{Key}
use Rattle.path_records.specs.Key.{key_bytes}
use Rattle.ckpt_stream.proofs.Touches.{IsMerging, merge_start, merge_next, merge_end, back_rises}
use Rattle.ckpt_stream.proofs.touched.merged.Goals as goal

abbrev no_key : Key
no_key = record { kind = Up; id = [] }

pub loop-key-init : goal.loop-key-init
loop-key-init c rise =
    subst (λ (l : List Key). IsMerging (map key_bytes c.args.before.now) (map key_bytes c.args.new.now) (map key_bytes l) (map key_bytes c.args.before.now) (map key_bytes c.args.new.now))
    (sym c.in_ok-keys.ensures.items) (merge_start (map key_bytes c.args.before.now) c.args.new.now rise c.requires)

pub loop-key-preserved : goal.loop-key-preserved
loop-key-preserved c rise =
    let before = map key_bytes c.args.before.now in
    let new = c.args.new.now in
    let out = c.loop-key.keys.items in
    let rest = c.loop-key.rest.now in
    let is = subst (λ (l : List Key). IsMerging before (map key_bytes new) (map key_bytes out) (map key_bytes rest) (map key_bytes l)) (drop_more new c.loop-key.key-index no_key c.loop-key-test.true) (c.loop-key.invariant rise) in
    let rises = back_rises (map key_bytes out) (map key_bytes rest) is.rise in
    merge_next before (map key_bytes new) out rest c.run_up_to.result c.split_at.result.0.now c.split_at.result.1.now
    c.extend_from_slice.new.self.items c.push_above.new.keys.items _ _
    is c.split_at.ensures.front c.split_at.ensures.back (c.run_up_to.ensures.up_to rises) (c.run_up_to.ensures.above rises)
    c.in_ok-extend_from_slice.ensures.items c.in_ok-push_above.ensures

pub returns : goal.returns
returns c rise =
    let before = map key_bytes c.args.before.now in
    let new = c.args.new.now in
    let out = c.loop-key.keys.items in
    let rest = c.loop-key.rest.now in
    merge_end before (map key_bytes new) out rest c.extend_from_slice-2.new.self.items
    (subst (λ (l : List Key). IsMerging before (map key_bytes new) (map key_bytes out) (map key_bytes rest) (map key_bytes l)) (drop_all c.loop-key.key-index new (omega (arith, c.loop-key-test.false))) (c.loop-key.invariant rise))
    c.in_ok-extend_from_slice-2.ensures.items
