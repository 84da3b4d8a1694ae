pub mod Leaves
pub mod Ranges
pub mod GivingWay
pub mod Slots
pub mod Order
pub mod Sound
pub mod Added
pub mod Levels
