pub mod Bare
pub mod Leaves
pub mod Damage
pub mod Recoveries
pub mod Surveys
pub mod Wholes
pub mod Tallies
