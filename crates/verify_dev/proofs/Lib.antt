pub mod Sums
pub mod Wholes
