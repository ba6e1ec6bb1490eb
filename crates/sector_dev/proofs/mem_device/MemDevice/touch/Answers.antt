-- Nothing lands: to write again what is there gives the same content.
use Rattle.std.proofs.Common.{◌≡◌, ◌∷◌, ◌∙◌, ap, true, ◌+◌, ◌*◌, ◌≤◌, ℕ, length, arith, sym}
use Rattle.byte_lists.specs.Content.{part, overwrite}
use Rattle.sector_dev.specs.Disk.{ByteRange}
use Rattle.byte_lists.proofs.Contents.{length-part, overwrite_same}
use Rattle.sector_dev.proofs.mem_device.MemDevice.touch.Goals as goal

pub returns : goal.returns
returns c =
    let bytes = c.args.self.now.bytes.items in
    let inside : 512 * c.args.at + c.args.len ≤ length bytes = omega (arith, c.args.self.now.size) in
    let same : overwrite (512 * c.args.at) (part (512 * c.args.at) c.args.len bytes) bytes ≡ bytes = overwrite_same (512 * c.args.at) c.args.len bytes inside in
    let size : length (part (512 * c.args.at) c.args.len bytes) ≡ c.args.len = length-part (512 * c.args.at) c.args.len bytes inside in
    let told = c.trail_wrote.ensures in
    let span : ℕ → ByteRange = λ n. record { start = 512 * c.args.at; len = n } in
    let dirty = told.1 ∙ ap (λ (n : ℕ). span n ∷ c.args.self.now.trail.value.dirty) (sym size) in
    λ i. record {
      is_honest = true;
      sectors = c.args.self.now.sectors;
      faults = 0;
      history = record {
        past = told.0 i;
        now = record { reads = sym same i; dirty = dirty i };
      };
    }
