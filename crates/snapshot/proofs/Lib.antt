pub mod Listed
pub mod Sighting
pub mod GoingOn
pub mod Checkpoints
