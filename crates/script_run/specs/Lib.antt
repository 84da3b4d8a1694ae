pub mod Lines
pub mod Scripts
pub mod Faults
pub mod Runs
pub mod Turns
pub mod Checkpointing
