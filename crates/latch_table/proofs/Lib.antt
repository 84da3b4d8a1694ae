mod Keeps
mod Sitting
mod Seating
mod Opening
mod Packing
mod Growing
mod Ending
pub mod Lent
