pub mod Older
pub mod Checkpoints
pub mod Finished
pub mod Opened
pub mod Laws
