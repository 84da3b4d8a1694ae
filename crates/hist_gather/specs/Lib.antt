pub mod Added
pub mod Sources
