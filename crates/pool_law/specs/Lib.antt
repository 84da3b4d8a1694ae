pub mod Whole
pub mod Obligations
pub mod Asks
pub mod Growing
pub mod Keeping
