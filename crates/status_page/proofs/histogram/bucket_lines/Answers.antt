use Rattle.std.proofs.Common.{◌++◌, ◌∙◌, ap, sym, take, string_bytes, get_or}
use Rattle.std.specs.List.{flat_map}
use Rattle.std.proofs.lemmas.List.{take_more, flat_map_more}
use Rattle.store_loops.specs.declared.commits.Bucket.{Bucket}
use Rattle.status_page.specs.declared.lines.Kind.TheVariants.{Histogram}
use Rattle.status_page.specs.Lines.{heading}
use Rattle.status_page.specs.Histogram.{bucket_line}
use Rattle.status_page.proofs.histogram.bucket_lines.Goals as goal

-- one more bucket
pub loop-bucket-preserved : goal.loop-bucket-preserved
loop-bucket-preserved c =
    let name = c.args.name.now in
    let counted = c.args.buckets.now in
    let index = c.loop-bucket.bucket-index in
    let none : Bucket = record { microseconds = 0; count = 0 } in
    let bucket = get_or counted index none in
    let before = heading name Histogram c.args.help.now in
    let earlier = take index counted in
    let line = c.as_str.ensures.value ∙ c.in_ok-line.ensures in
    c.in_ok-push_str.ensures.bytes
    ∙ ap (λ l. string_bytes c.loop-bucket.text ++ l) line
    ∙ ap (λ l. l ++ bucket_line name bucket) c.loop-bucket.invariant
    ∙ flat_map_more (bucket_line name) before earlier bucket
    ∙ ap (λ l. before ++ flat_map (bucket_line name) l) (sym (take_more counted index none c.loop-bucket-test.true))
