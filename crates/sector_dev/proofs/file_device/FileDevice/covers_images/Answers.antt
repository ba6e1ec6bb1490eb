-- What is clean in the device is clean in its file.
use Rattle.sector_dev.proofs.Covered.{image_front}
use Rattle.sector_dev.proofs.file_device.FileDevice.covers_images.Goals as goal

pub returns : goal.returns
returns g c honest content image =
    let self = c.args.self.now in
    image_front self.sectors _ content _ _ (self.dirty_covered honest) image
