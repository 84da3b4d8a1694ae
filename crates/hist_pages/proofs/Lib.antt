pub mod Writings
pub mod Members
pub mod Cutting
pub mod Sorting
pub mod Telling
pub mod CutLevels
