-- What a stop leaves is an image of the moment after a write too.
use Rattle.std.proofs.Common.{◌≡◌, ℕ, ◌+◌, ◌≤◌, ◌∷◌, ◌∙◌, ap, arith, take, length, sym, subst}
use Rattle.std.proofs.lemmas.List.{length-take-le}
use Rattle.sector_dev.specs.Disk.{Moment}
use Rattle.sector_dev.specs.Image.{IsImage}
use Rattle.sector_dev.proofs.Images.{image_before_write}
use Rattle.test_fault_devices.proofs.cached_file.CachedFileFileCalls.write_once.Goals as goal

pub invariant_of-self-clause-kept_image : goal.invariant_of-self-clause-kept_image
invariant_of-self-clause-kept_image c =
    let self = c.args.self.now in
    let n = c.room-n.result in
    let bytes = c.args.bytes.now in
    let most : n ≤ length bytes = omega (arith, c.room-n.ensures) in
    let taken : length (take n bytes) ≡ n = length-take-le n bytes most in
    let inside : c.args.offset + n ≤ length self.bytes.items = omega (arith, c.room-n.ensures, c.if-n-eq0.false) in
    subst {A = Moment} (λ (m : Moment). IsImage m self.kept.items) (λ i. record { reads = sym c.put_bytes.ensures i; dirty = (ap (λ (len : ℕ). record { start = c.args.offset; len = len } ∷ self.trail.value.dirty) taken ∙ sym c.trail_wrote.ensures.1) i })
    (image_before_write c.args.offset (take n bytes) self.bytes.items self.kept.items self.trail.value.dirty (omega (arith, taken, inside)) self.kept_image)
