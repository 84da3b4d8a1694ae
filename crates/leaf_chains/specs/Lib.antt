pub mod Slots
pub mod Nearest
pub mod Order
pub mod SlotLaws
pub mod Adds
pub mod Heads
pub mod Names
