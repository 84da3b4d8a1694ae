pub mod Sizes
pub mod Captures
pub mod Cuts
pub mod Keeps
pub mod Writes
pub mod Steps
pub mod Drafts
