pub mod Crash
pub mod Disk
pub mod Images
pub mod Laws
pub mod Ranges
pub mod Steps
