mod Cursors
mod HeldKeys
mod Names
mod Newest
mod RowWalk
mod SlotWrites
pub mod StateWords
mod Targets
mod WriteFinds
