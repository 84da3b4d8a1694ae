pub mod Choice
mod Errors
pub mod Runs
pub mod Slots
