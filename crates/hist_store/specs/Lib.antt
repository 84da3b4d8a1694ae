pub mod Versions
pub mod Slots
pub mod Order
pub mod Laws
