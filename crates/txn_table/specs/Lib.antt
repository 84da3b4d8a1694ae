pub mod SessionData
pub mod Tabled
pub mod Stands
pub mod TableLaws
pub mod Checkpoints
pub mod Past
