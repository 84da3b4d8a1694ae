pub mod NoHistory
pub mod Leaves
pub mod Damage
pub mod Openings
pub mod Closings
