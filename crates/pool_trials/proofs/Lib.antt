pub mod Pairs
pub mod Held
pub mod Begins
pub mod Keeping
