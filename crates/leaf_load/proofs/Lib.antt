pub mod Seen
pub mod Early
