mod Fronts
mod Upgraded
mod Stops
mod Drawn
mod PartlyShown
mod Copied
mod Reported
