pub mod Stands
pub mod Finishes
pub mod Room
