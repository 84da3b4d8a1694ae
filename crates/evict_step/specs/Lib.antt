pub mod Backs
pub mod Cuts
pub mod Kept
