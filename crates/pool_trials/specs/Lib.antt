pub mod Laws
pub mod Trials
