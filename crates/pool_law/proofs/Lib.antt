pub mod Seats
pub mod Growth
pub mod Keepers
