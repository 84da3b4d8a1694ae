pub mod Adds
pub mod Writes
