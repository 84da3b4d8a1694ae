mod Calls
pub mod Crash
mod Torn
