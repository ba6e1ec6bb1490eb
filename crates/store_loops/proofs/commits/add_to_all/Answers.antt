use Rattle.std.proofs.Common.{◌≡◌, ◌∙◌, ℕ, ◌<◌, zero, suc, List, [], ◌∷◌, ◌++◌, length, map, take, drop, set, get_or, refl, ap, add-one, arith}
use Rattle.store_loops.specs.declared.commits.Bucket.{Bucket}
use Rattle.store_loops.specs.Commits.{bucket_after}
use Rattle.store_loops.proofs.commits.add_to_all.Goals as goal

-- one more element is mapped
mapped_more : (f : Bucket → Bucket) (xs : List Bucket) (i : ℕ) (none : Bucket) → i < length xs
    → set (map f (take i xs) ++ drop i xs) i (f (get_or (map f (take i xs) ++ drop i xs) i none)) ≡ map f (take (suc i) xs) ++ drop (suc i) xs
mapped_more f [] i none below = absurd (omega arith)
mapped_more f (x ∷ xs) zero none below = refl
mapped_more f (x ∷ xs) (suc i) none below = ap (λ l. f x ∷ l) (mapped_more f xs i none (omega arith))

pub loop-bucket-preserved : goal.loop-bucket-preserved
loop-bucket-preserved c =
    let f = bucket_after c.args.microseconds in
    let xs = c.args.buckets.now in
    let i = c.loop-bucket.bucket-index in
    let none : Bucket = record { microseconds = 0; count = 0 } in
    ap (set c.loop-bucket.buckets i) c.add.ensures
    ∙ ap (λ l. set l i (f (get_or l i none))) c.loop-bucket.invariant
    ∙ mapped_more f xs i none (omega arith)
    ∙ rw (← add-one i)
