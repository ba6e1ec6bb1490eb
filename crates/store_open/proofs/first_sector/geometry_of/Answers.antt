-- The sizes in the sector are those of the image.
use Rattle.std.proofs.Common.{◌≡◌, Some, rules, arith}
use Rattle.store_layout.specs.Geometry.{geometry_view}
use Rattle.store_open.specs.Titles.{sizes_told}
use Rattle.store_open.proofs.FirstSectors.{geometry_told}
use Rattle.store_open.proofs.first_sector.geometry_of.Goals as goal

pub returns-clause-read : goal.returns-clause-read
returns-clause-read c image is size =
    let told : Some (geometry_view c.in_ok-geometry.geometry) ≡ sizes_told c.args.sector.now = search (rules, c.in_ok-geometry.ensures) in
    geometry_told image _ is _ told (omega (arith, size))
