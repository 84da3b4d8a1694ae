pub mod Changes
pub mod Rows
pub mod Reading
pub mod Heads
pub mod Views
pub mod Greatest
pub mod Places
pub mod Writing
