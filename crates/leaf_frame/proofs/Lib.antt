pub mod Holding
pub mod Keys
pub mod Pages
pub mod Slots
pub mod Nearing
pub mod Passing
pub mod Leasts
pub mod Greatests
pub mod Reading
mod SlotWays
pub mod Walking
