pub mod Records
pub mod Writing
pub mod Views
pub mod Leaves
pub mod Making
pub mod Levels
